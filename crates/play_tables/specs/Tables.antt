-- The tables of the eight slots, one after another in slot order in one slice of words, with a length for each (02, ticket 6).
use Rattle.std.specs.Prelude.{◌≡◌, true, cond, not, Option, Some, None, List, [], ◌∷◌, ◌++◌, ℕ, zero, suc, ◌+◌, ◌<◌, length, get_or, take, drop, ltb, eqb}
use Rattle.laws.specs.First.{Cause, ◌gives◌, first}
use Rattle.ids.specs.Ranges.{SLOTS}
use Rattle.numbers.specs.Numbers.{TABLE_LENGTH}
use Rattle.tree_theory.specs.Table.{sized_length, fresh_table}

-- how many words table s has
abbrev pub length_at : List ℕ → ℕ → ℕ
length_at ls s = get_or ls s 0

-- where table s starts: behind those of the slots before it
unfoldable pub start_of : List ℕ → ℕ → ℕ
start_of ls zero = 0
start_of ls (suc s) = start_of ls s + length_at ls s

-- the words of table s
abbrev pub table_at : List ℕ → List ℕ → ℕ → List ℕ
table_at ls ws s = take (length_at ls s) (drop (start_of ls s) ws)

-- all words, with t in the place of table s
abbrev pub with_table : List ℕ → List ℕ → ℕ → List ℕ → List ℕ
with_table ls ws s t = take (start_of ls s) ws ++ (t ++ drop (length_at ls s) (drop (start_of ls s) ws))

-- the tables of slots 0 to k - 1, one after another
unfoldable pub all_tables : (ℕ → List ℕ) → ℕ → List ℕ
all_tables f zero = []
all_tables f (suc k) = all_tables f k ++ f k

-- every table made fresh
abbrev pub fresh_tables : List ℕ → List ℕ → List ℕ
fresh_tables ls ws = all_tables (λ s. fresh_table (table_at ls ws s)) SLOTS

-- the first of k slots from s on whose length is no table's; s + k where each is
unfoldable pub unsized_from : List ℕ → ℕ → ℕ → ℕ
unsized_from ls zero s = s
unsized_from ls (suc k) s = cond (sized_length (length_at ls s)) (unsized_from ls k (suc s)) s

-- the first slot, in slot order, whose length is no table's; 8 where each is
abbrev pub first_unsized : List ℕ → ℕ
first_unsized ls = unsized_from ls SLOTS 0

-- a slot that a search gave; none where it gave the number of slots
abbrev pub slot_told : ℕ → Option ℕ
slot_told s = cond (ltb s SLOTS) (Some s) None

-- every length is a table's
abbrev pub AllSized : List ℕ → Type 0
AllSized ls = (s : ℕ) → s < SLOTS → sized_length (length_at ls s) ≡ true

-- element s of eight is where table s starts
pub record StartsAt (ls starts : List ℕ) : Type 0 where
  pub eight : length starts ≡ SLOTS
  pub each : (s : ℕ) → s < SLOTS → get_or starts s 0 ≡ start_of ls s

-- the tables' part of the row "list" of the place table: 1 for a slot whose length is no table's, then for lengths that don't fill the slice
abbrev pub eight_causes : List ℕ → List ℕ → List Cause
eight_causes ls ws =
    ltb (first_unsized ls) SLOTS gives TABLE_LENGTH ∷
    not (eqb (start_of ls SLOTS) (length ws)) gives TABLE_LENGTH ∷ []

unfoldable pub tables_number : List ℕ → List ℕ → ℕ
tables_number ls ws = first (eight_causes ls ws)

-- eight tables that fill the slice
pub record TablesFit (ls ws : List ℕ) : Type 0 where
  pub lengths : AllSized ls
  pub filled : start_of ls SLOTS ≡ length ws
