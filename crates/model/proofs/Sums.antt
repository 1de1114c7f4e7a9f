-- Sums over the slots: what changes where one slot changes, and how large they are. Assumes nothing.
use mathlib.Core.Path.{◌≡◌, refl}
use mathlib.Core.Logic.{◌≢◌}
use Prim.Native.Nat.{ℕ, zero, suc, ◌+◌, ◌*◌, ◌<◌, ◌≤◌}
use native.Mathlib.Omega.{arith}
use lib.Dec.{eqb}
use Rattle.laws.specs.Tests.{tests, by_test}
use borrow.Author.Tests.{eqb-true}
use Rattle.model.specs.Counts.{sum_below}

pub sum_same : (f g : ℕ → ℕ) (k : ℕ) → ((u : ℕ) → u < k → f u ≡ g u) → sum_below f k ≡ sum_below g k
unfolding sum_below
sum_same f g zero h = refl
sum_same f g (suc k) h = omega (arith, sum_same f g k (λ u l. h u (omega arith)), h k (omega arith))

-- one slot has so much more
pub sum_more : (f g : ℕ → ℕ) (k s d : ℕ) → s < k → ((u : ℕ) → u < k → u ≢ s → f u ≡ g u) → f s ≡ g s + d → sum_below f k ≡ sum_below g k + d
unfolding sum_below
sum_more f g zero s d l h e = absurd (omega arith)
sum_more f g (suc k) s d l h e =
    by_test (eqb s k)
    (λ t. let q : s ≡ k = eqb-true s k t in
    omega (arith, sum_same f g k (λ u b. h u (omega arith) (omega arith)), rw q at e))
    (λ t. let other : k ≢ s = omega tests in
    omega (arith, sum_more f g k s d (omega tests) (λ u b n. h u (omega arith) n) e, h k (omega arith) other))

pub sum_zero : (f : ℕ → ℕ) (k : ℕ) → ((u : ℕ) → u < k → f u ≡ 0) → sum_below f k ≡ 0
unfolding sum_below
sum_zero f zero h = refl
sum_zero f (suc k) h = omega (arith, sum_zero f k (λ u l. h u (omega arith)), h k (omega arith))

-- no table has more than 256 rows
pub sum_most : (f : ℕ → ℕ) (k : ℕ) → ((u : ℕ) → u < k → f u ≤ 256) → sum_below f k ≤ 256 * k
unfolding sum_below
sum_most f zero h = omega arith
sum_most f (suc k) h = omega (arith, sum_most f k (λ u l. h u (omega arith)), h k (omega arith))

-- one more in each slot
pub sum_suc : (f : ℕ → ℕ) (k : ℕ) → sum_below (λ u. suc (f u)) k ≡ sum_below f k + k
unfolding sum_below
sum_suc f zero = refl
sum_suc f (suc k) = omega (arith, sum_suc f k)

pub sum_both : (f g : ℕ → ℕ) (k : ℕ) → sum_below (λ u. f u + g u) k ≡ sum_below f k + sum_below g k
unfolding sum_below
sum_both f g zero = refl
sum_both f g (suc k) = omega (arith, sum_both f g k)
