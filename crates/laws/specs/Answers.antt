-- Answers that are enums: an answer made from the number of the first cause has that number, if that is so of 0 and of each cause's number.
use Rattle.std.specs.Prelude.{◌≡◌, List, [], ◌∷◌, ℕ}
use Rattle.laws.specs.Tests.{by_test}
use Rattle.laws.specs.First.{Cause, first}

module _ {ℓ} {A : Type ℓ} (number : A → ℕ) (answer : ℕ → A) where
  -- the answer made from a number has it: 0 and each cause's
  abbrev pub Keeps : List Cause → Type 0
  Keeps [] = number (answer 0) ≡ 0
  Keeps (c ∷ cs) = (number (answer c.number) ≡ c.number) × Keeps cs

  pub number_kept : (cs : List Cause) → Keeps cs → number (answer (first cs)) ≡ first cs
  number_kept [] k = k
  number_kept (c ∷ cs) k = by_test c.holds (λ t. rw t k.0) (λ t. rw t (number_kept cs k.1))
