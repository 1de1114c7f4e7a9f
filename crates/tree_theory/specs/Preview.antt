-- A preview: what a call would make of a table, made in a second one (02, ticket 5).
use Rattle.std.specs.Prelude.{◌≡◌, Bool, true, false, cond, not, List, [], ◌∷◌, ◌++◌, ℕ, length, eqb}
use Rattle.laws.specs.First.{Cause, ◌gives◌, first}
use Rattle.numbers.specs.Numbers.{OK, TABLE_LENGTH, NOT_A_TREE, LENGTHS_DIFFER}
use Rattle.tree_theory.specs.Machine.{Call, causes}
use Rattle.tree_theory.specs.Table.{sized, is_tree, rows, nodes, call_number, call_table}
use Rattle.tree_theory.specs.Ghosts.{table_ghosts}

-- two tables differ in length
abbrev pub lengths_differ : List ℕ → List ℕ → Bool
lengths_differ ws us = not (eqb (length us) (length ws))

-- the row "table" of two tables, ws to be previewed in us: of us only the length is asked
abbrev pub tables_causes : Bool → List ℕ → List ℕ → List Cause
tables_causes valued ws us =
    not (sized ws) gives TABLE_LENGTH ∷ lengths_differ ws us gives LENGTHS_DIFFER ∷ not (is_tree valued ws) gives NOT_A_TREE ∷ []

unfoldable pub preview_number : Bool → List ℕ → List ℕ → Call → ℕ
unfolding is_tree causes
preview_number valued ws us c = first (tables_causes valued ws us ++ causes valued (rows ws) (nodes ws) c)

-- how many rounds the call would make GHOST; a refusal none
unfoldable pub preview_ghosts : Bool → List ℕ → List ℕ → Call → ℕ
unfolding preview_number table_ghosts
preview_ghosts valued ws us c = cond (eqb (preview_number valued ws us c) OK) (table_ghosts valued ws c) 0

-- the second table after: what the call makes of the first; with a refusal what it was
unfoldable pub preview_table : Bool → List ℕ → List ℕ → Call → List ℕ
unfolding preview_number call_table
preview_table valued ws us c = cond (eqb (preview_number valued ws us c) OK) (call_table valued ws c) us

-- a preview of ws in us beside the call on a copy of ws
pub record AsOnCopy (valued : Bool) (ws us : List ℕ) (c : Call) : Type 0 where
  -- 1 comes first, and 31 next
  pub one_first : sized ws ≡ false → preview_number valued ws us c ≡ TABLE_LENGTH
  pub thirty_one_next : sized ws ≡ true → (length us ≡ length ws → ⊥) → preview_number valued ws us c ≡ LENGTHS_DIFFER
  -- in a second table of equal length: the call's number, its count, and its table, or what was there where the call is refused
  pub number_is : length us ≡ length ws → preview_number valued ws us c ≡ call_number valued ws c
  pub ghosts_are : length us ≡ length ws → preview_ghosts valued ws us c ≡ table_ghosts valued ws c
  pub second_is : length us ≡ length ws → preview_table valued ws us c ≡ cond (eqb (call_number valued ws c) OK) (call_table valued ws c) us
  -- in one of another length: none is counted, and what was there stays
  pub none_counted : (length us ≡ length ws → ⊥) → preview_ghosts valued ws us c ≡ 0
  pub none_written : (length us ≡ length ws → ⊥) → preview_table valued ws us c ≡ us
