-- Refusals in order: the number given is 0 or that of a cause that holds.
use Rattle.std.specs.Prelude.{◌≡◌, true, List, [], ◌∷◌, ℕ}
use Rattle.laws.specs.Tests.{by_test}
use Rattle.laws.specs.First.{Cause, first}

-- each cause that holds has a number with the property
abbrev pub Each : (ℕ → Type 0) → List Cause → Type 0
Each P [] = Unit {0}
Each P (c ∷ cs) = (c.holds ≡ true → P c.number) × Each P cs

pub first_has : (P : ℕ → Type 0) (cs : List Cause) → P 0 → Each P cs → P (first cs)
first_has P [] p f = p
first_has P (c ∷ cs) p f = by_test c.holds (λ t. rw t (f.0 t)) (λ t. rw t (first_has P cs p f.1))
