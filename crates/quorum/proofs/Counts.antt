-- Laws of counts over 0 to n-1, each by recursion on n. Assumes nothing.
use mathlib.Core.Path.{◌≡◌, refl, ap}
use mathlib.Core.Bool.{Bool, true, false}
use mathlib.Core.Logic.{◌≢◌}
use Prim.Native.Nat.{ℕ, zero, suc, ◌+◌, ◌<◌, ◌≤◌}
use native.Mathlib.Omega.{arith}
use lib.Dec.{eqb}
use Rattle.laws.specs.Tests.{tests, by_test, or_left, or_right, or_none}
use Rattle.quorum.specs.Count.{count, some}

-- two counts that share no member are at most n together
pub share {ℓ} : {C : Type ℓ} (p q : ℕ → Bool) (n : ℕ) → n < count p n + count q n → ((s : ℕ) → s < n → p s ≡ true → q s ≡ true → C) → C
unfolding count
share p q zero h f = absurd (omega arith)
share p q (suc n) h f =
    by_test (p n)
    (λ t. by_test (q n)
    (λ u. f n (omega arith) t u)
    (λ u. share p q n (omega (arith, rw (t, u) at h)) (λ s l. f s (omega arith))))
    (λ t. by_test (q n)
    (λ u. share p q n (omega (arith, rw (t, u) at h)) (λ s l. f s (omega arith)))
    (λ u. share p q n (omega (arith, rw (t, u) at h)) (λ s l. f s (omega arith))))

pub count_same : (p q : ℕ → Bool) (n : ℕ) → ((s : ℕ) → s < n → p s ≡ q s) → count p n ≡ count q n
unfolding count
count_same p q zero f = refl
count_same p q (suc n) f = rw (f n (omega arith), count_same p q n (λ s l. f s (omega arith))) refl

pub count_none : (p : ℕ → Bool) (n : ℕ) → ((s : ℕ) → s < n → p s ≡ false) → count p n ≡ 0
unfolding count
count_none p zero f = refl
count_none p (suc n) f = rw (f n (omega arith)) (count_none p n (λ s l. f s (omega arith)))

-- one more: q is p but at s, which p leaves out
pub count_more : (p q : ℕ → Bool) (s n : ℕ) → s < n → p s ≡ false → q s ≡ true → ((t : ℕ) → t ≢ s → q t ≡ p t) → count q n ≡ suc (count p n)
unfolding count
count_more p q s zero l a b f = absurd (omega arith)
count_more p q s (suc n) l a b f =
    by_test (eqb n s)
    (λ t. let e : n ≡ s = omega tests in rw (e, a, b) (ap suc (count_same q p s (λ u k. f u (omega arith)))))
    (λ t. rw (f n (omega tests)) (by_test (p n)
    (λ u. rw u (ap suc (count_more p q s n (omega tests) a b f)))
    (λ u. rw u (count_more p q s n (omega tests) a b f))))

-- none from n to k-1 adds nothing
pub count_beyond : (p : ℕ → Bool) (n k : ℕ) → n ≤ k → ((s : ℕ) → n ≤ s → s < k → p s ≡ false) → count p k ≡ count p n
unfolding count
count_beyond p n zero l f = let e : n ≡ 0 = omega arith in rw e refl
count_beyond p n (suc k) l f =
    by_test (eqb n (suc k))
    (λ t. let e : n ≡ suc k = omega tests in rw e refl)
    (λ t. rw (f k (omega tests) (omega arith)) (count_beyond p n k (omega tests) (λ s a b. f s a (omega arith))))

pub count_grows : (p : ℕ → Bool) (n k : ℕ) → n ≤ k → count p n ≤ count p k
unfolding count
count_grows p n zero l = let e : n ≡ 0 = omega arith in rw e (omega arith)
count_grows p n (suc k) l =
    by_test (eqb n (suc k))
    (λ t. let e : n ≡ suc k = omega tests in rw e (omega arith))
    (λ t.
    let h : count p n ≤ count p k = count_grows p n k (omega tests) in
    by_test (p k) (λ u. rw u (omega arith)) (λ u. rw u h))

-- where nothing is added from n to k-1, none passes there
pub beyond_none : (p : ℕ → Bool) (n k s : ℕ) → count p n ≡ count p k → n ≤ s → s < k → p s ≡ false
unfolding count
beyond_none p n k s e a b =
    by_test (p s)
    (λ t.
    let h : suc (count p s) ≤ count p k = rw t at (count_grows p (suc s) k (omega arith)) in
    absurd (omega (arith, count_grows p n s a)))
    (λ t. t)

pub some_none : (p : ℕ → Bool) (n s : ℕ) → some p n ≡ false → s < n → p s ≡ false
unfolding some
some_none p zero s h l = absurd (omega arith)
some_none p (suc n) s h l =
    by_test (eqb s n)
    (λ t. let e : s ≡ n = omega tests in rw e (or_left (p n) (some p n) h))
    (λ t. some_none p n s (or_right (p n) (some p n) h) (omega tests))

pub none_some : (p : ℕ → Bool) (n : ℕ) → ((s : ℕ) → s < n → p s ≡ false) → some p n ≡ false
unfolding some
none_some p zero f = refl
none_some p (suc n) f = or_none (f n (omega arith)) (none_some p n (λ s l. f s (omega arith)))
