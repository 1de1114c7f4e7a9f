-- Rows that fit, counted up: the root's row, one row more, and a row that doesn't fit. Assumes nothing.
use mathlib.Core.Path.{◌≡◌, refl, sym, ◌∙◌}
use mathlib.Core.Bool.{Bool, true, false, not, and-false}
use mathlib.Core.List.{List}
use Prim.Native.Nat.{ℕ, zero, suc, ◌+◌, ◌<◌}
use native.Mathlib.Omega.{arith}
use native.Mathlib.Numerals.{add-one}
use lib.Dec.{ltb}
use borrow.Author.Tests.{ltb-true, ne_eqb, not-true, not-false}
use Rattle.laws.specs.Tests.{by_test, tests}
use Rattle.tree_theory.specs.Table.{row, rows_of}
use Rattle.tree_theory.specs.Check.{is_root, fits, row_fits, fits_to}

unfit : (valued : Bool) (ws : List ℕ) (n i m : ℕ) → i < m → row_fits valued ws n i ≡ false → fits_to valued ws n m ≡ false
unfolding fits_to
unfit valued ws n i zero h e = absurd (omega arith)
unfit valued ws n i (suc m) h e =
    by_test (ltb i m)
    (λ y. rw (unfit valued ws n i m (ltb-true i m y) e) refl)
    (λ y. let q : m ≡ i = omega tests in rw (q, e) (and-false (fits_to valued ws n i)))

-- The check has come to row i of n, and all rows passed fit.
pub record Fitted (valued : Bool) (ws : List ℕ) (n i : ℕ) : Type 0 where
  pub begun : 0 < i
  pub all : fits_to valued ws n i ≡ true

-- b is what the code's test of a row answered
pub fits_root : {valued : Bool} {ws : List ℕ} {n : ℕ} {b : Bool} → 0 < n → b ≡ is_root (row ws 0) → not b ≡ false → Fitted valued ws n 1
unfolding fits_to
fits_root {b = b} h a t = record { begun = omega arith; all = rw (← a, not-false b t) refl }

pub unfit_root : (valued : Bool) (ws : List ℕ) (n : ℕ) {b : Bool} → 0 < n → b ≡ is_root (row ws 0) → not b ≡ true → fits_to valued ws n n ≡ false
unfolding row_fits
unfit_root valued ws n {b = b} h a t = unfit valued ws n 0 n h (sym a ∙ not-true b t)

module _ {valued : Bool} {ws : List ℕ} {n i : ℕ} (F : Fitted valued ws n i) {b : Bool} where
  pub fits_more : i < n → b ≡ fits valued (rows_of ws i) (rows_of ws n) (row ws i) → not b ≡ false → Fitted valued ws n (i + 1)
  unfolding fits_to
  fits_more h a t =
      record {
        begun = omega arith;
        all = rw (add-one, F.all, ne_eqb i 0 (λ e. omega (arith, F.begun)), ← a, not-false b t) refl;
      }

  pub unfit_row : i < n → b ≡ fits valued (rows_of ws i) (rows_of ws n) (row ws i) → not b ≡ true → fits_to valued ws n n ≡ false
  unfolding row_fits
  unfit_row h a t = unfit valued ws n i n h (rw (ne_eqb i 0 (λ q. omega (arith, F.begun))) (sym a ∙ not-true b t))
