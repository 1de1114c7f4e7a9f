-- A number put at the right of a column: blanks and a digit, or the column of its other digits and the last. Assumes nothing.
use mathlib.Core.Path.{◌≡◌, ap, ◌∙◌}
use mathlib.Core.List.{List, [], ◌∷◌}
use Prim.Native.Nat.{ℕ, ◌+◌, ◌-◌, ◌/◌, ◌%◌, ◌≤◌, ◌<◌}
use native.Mathlib.Omega.{arith}
use lib.ListN.{length, replicate, length-append, length-replicate, replicate-append-replicate}
use Rattle.decimal.specs.Digits.{BLANK, digit, decimal_in}
use Rattle.decimal.specs.Text.{PutText}
use Rattle.decimal.proofs.Text.{text_behind, text_room}
use Rattle.decimal.proofs.Decimal.{column_one, column_more}

-- one blank more
pub blank_more : {out mid new : List ℕ} {at next to : ℕ} (i : ℕ) → PutText out at (replicate i BLANK) next mid → PutText mid next (BLANK ∷ []) to new →
    at + i + 1 ≤ length out → PutText out at (replicate (i + 1) BLANK) to new
blank_more i P Q h =
    let size : length (replicate i BLANK) ≡ i = length-replicate i BLANK in
    rw (replicate-append-replicate i 1 BLANK) at (text_behind P Q (omega arith))

module _ (w n : ℕ) where
  pub one_length : n < 10 → length (decimal_in w n) ≡ w - 1 + 1
  one_length h = ap length (column_one w n h) ∙ rw (length-append (replicate (w - 1) BLANK) (digit n ∷ []), length-replicate (w - 1) BLANK)

  pub more_length : 10 ≤ n → length (decimal_in w n) ≡ length (decimal_in (w - 1) (n / 10)) + 1
  more_length h = ap length (column_more w n h) ∙ length-append (decimal_in (w - 1) (n / 10)) (digit (n % 10) ∷ [])

  module _ {out mid new : List ℕ} {at to next : ℕ} (room : at + length (decimal_in w n) ≤ length out) where
    pub one_put : n < 10 → PutText out at (replicate (w - 1) BLANK) to mid → PutText mid to (digit n ∷ []) next new → PutText out at (decimal_in w n) next new
    one_put h P Q =
        rw (column_one w n h) (text_behind P Q (omega (arith, one_length h, length-replicate (w - 1) BLANK)))

    pub more_put : 10 ≤ n → PutText out at (decimal_in (w - 1) (n / 10)) to mid → PutText mid to (digit (n % 10) ∷ []) next new →
        PutText out at (decimal_in w n) next new
    more_put h P Q = rw (column_more w n h) (text_behind P Q (omega (arith, more_length h)))

  -- the same where the width that is left has a name, and the room for the last digit
  module _ {rest : ℕ} (e : rest ≡ w - 1) {out mid : List ℕ} {at to : ℕ} (room : at + length (decimal_in w n) ≤ length out) where
    pub one_room : n < 10 → PutText out at (replicate rest BLANK) to mid → to < length mid
    one_room h P =
        let size : length (replicate rest BLANK) ≡ rest = length-replicate rest BLANK in
        omega (arith, text_room 1 P (omega (arith, one_length h)))

    pub one_rest : n < 10 → PutText out at (replicate rest BLANK) to mid → {new : List ℕ} → {next : ℕ} → PutText mid to (digit n ∷ []) next new →
        PutText out at (decimal_in w n) next new
    one_rest h P Q = one_put room h (rw e at P) Q

    pub more_room : 10 ≤ n → PutText out at (decimal_in rest (n / 10)) to mid → to < length mid
    more_room h P =
        let size : length (decimal_in w n) ≡ length (decimal_in rest (n / 10)) + 1 = rw e (more_length h) in
        omega (arith, text_room 1 P (omega arith))

    pub more_rest : 10 ≤ n → PutText out at (decimal_in rest (n / 10)) to mid → {new : List ℕ} → {next : ℕ} →
        PutText mid to (digit (n % 10) ∷ []) next new → PutText out at (decimal_in w n) next new
    more_rest h P Q = more_put room h (rw e at P) Q
