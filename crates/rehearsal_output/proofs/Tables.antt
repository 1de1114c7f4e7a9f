-- The tables that the rehearsal lends: where each starts, that they fit, and the rows of each. Assumes nothing.
use mathlib.Core.Path.{◌≡◌, refl, sym, ap, ◌∙◌}
use mathlib.Core.List.{List}
use Prim.Native.Nat.{ℕ, zero, suc, ◌+◌, ◌-◌, ◌*◌, ◌/◌, ◌≤◌, ◌<◌}
use native.Mathlib.Omega.{arith}
use lib.ListN.{length, get_or, replicate, take, drop}
use Rattle.ids.specs.Ranges.{SLOTS}
use Rattle.tree_theory.specs.Table.{sized_length, used}
use Rattle.tree_theory.proofs.Words.{used_rows}
use Rattle.play_tables.specs.Tables.{length_at, start_of, table_at, TablesFit}
use Rattle.play_tables.proofs.Parts.{table_long}
use Rattle.rehearsal_output.specs.Output.{REHEARSAL_TABLE_ROWS, REHEARSAL_TABLE_WORDS, rehearsal_lengths}
use Rattle.rehearsal_output.specs.Promise.{REHEARSAL_WORDS, ROOM_FOR_NODE, ROOM_FOR_SLOT}

-- one of k equal numbers
one_of : (n k s : ℕ) → s < k → get_or (replicate k n) s 0 ≡ n
one_of n zero s h = absurd (omega arith)
one_of n (suc k) zero h = refl
one_of n (suc k) (suc s) h = one_of n k s (omega arith)

-- four words a row, and past the eight slots none
rows_each : (k s : ℕ) → get_or (replicate k REHEARSAL_TABLE_WORDS) s 0 / 4 ≡ get_or (replicate k REHEARSAL_TABLE_ROWS) s 0
rows_each zero s = refl
rows_each (suc k) zero = refl
rows_each (suc k) (suc s) = rows_each k s

pub lent_rows : (s : ℕ) → length_at rehearsal_lengths s / 4 ≡ get_or (replicate SLOTS REHEARSAL_TABLE_ROWS) s 0
lent_rows s = rows_each SLOTS s

pub lent_words : (s : ℕ) → s < SLOTS → length_at rehearsal_lengths s ≡ REHEARSAL_TABLE_WORDS
lent_words s h = one_of REHEARSAL_TABLE_WORDS SLOTS s h

pub lent_start : (s : ℕ) → s ≤ SLOTS → start_of rehearsal_lengths s ≡ REHEARSAL_TABLE_WORDS * s
unfolding start_of
lent_start zero h = refl
lent_start (suc s) h = omega (arith, lent_start s (omega arith), lent_words s (omega arith))

-- eight tables that fill the words
pub lent_fit : {ws : List ℕ} → length ws ≡ REHEARSAL_WORDS → TablesFit rehearsal_lengths ws
lent_fit e = record { lengths = λ s h. ap sized_length (lent_words s h); filled = lent_start SLOTS (omega arith) ∙ sym e }

module _ (ws : List ℕ) {s : ℕ} (h : s < SLOTS) where
  -- as many words as a table has, from 256 · s on, are table s
  pub lent_part : take (REHEARSAL_TABLE_WORDS * s + REHEARSAL_TABLE_WORDS - REHEARSAL_TABLE_WORDS * s) (drop (REHEARSAL_TABLE_WORDS * s) ws) ≡
      table_at rehearsal_lengths ws s
  lent_part =
      let e : REHEARSAL_TABLE_WORDS * s + REHEARSAL_TABLE_WORDS - REHEARSAL_TABLE_WORDS * s ≡ REHEARSAL_TABLE_WORDS = omega arith in
      rw (e, lent_words s h, lent_start s (omega arith)) refl

  -- there is room for its nodes
  pub room_enough : length ws ≡ REHEARSAL_WORDS → ROOM_FOR_NODE * used (table_at rehearsal_lengths ws s) ≤ ROOM_FOR_SLOT
  room_enough e = omega (arith, used_rows (table_at rehearsal_lengths ws s), table_long {ws = ws} (lent_fit e) h, lent_words s h)
