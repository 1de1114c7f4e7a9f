-- Elements of a list at their numbers: each is a member, and what holds of each is kept by setting one.
use Rattle.std.specs.Prelude.{◌≡◌, refl, List, [], ◌∷◌, ◌≢◌, ℕ, zero, suc, ◌<◌, length, get_or, set, eqb}
use mathlib.Core.List.Memᴰ.{head as here}
use mathlib.Core.List.Memᴰ.{tail as there}
use Rattle.std.proofs.Common.{arith, get_or-set_same, get_or-set_other}
use Rattle.laws.specs.Tests.{tests, by_test}
use Rattle.laws.specs.Lists.{◌∈◌}

module _ {A : Type 0} where
  pub getD_in : (l : List A) (k : ℕ) (d : A) → k < length l → get_or l k d ∈ l
  getD_in [] k d h = absurd (omega arith)
  getD_in (x ∷ l) zero d h = here refl
  getD_in (x ∷ l) (suc k) d h = there (getD_in l k d (omega arith))

  -- what holds of each element at its number, after one is set; the element for a number past the end may depend on the number
  pub set_each : (P : ℕ → A → Type 0) (d : ℕ → A) (l : List A) (s : ℕ) (x : A) → s < length l → P s x →
      ((t : ℕ) → t < length l → t ≢ s → P t (get_or l t (d t))) → (t : ℕ) → t < length l → P t (get_or (set l s x) t (d t))
  set_each P d l s x h p f t b =
      by_test (eqb t s)
      (λ q. let e : t ≡ s = omega tests in rw (e, get_or-set_same l s x (d s) h) p)
      (λ q. let e : t ≢ s = omega tests in rw (get_or-set_other l s t x (d t) e) (f t b e))
