-- Refusals in order: a list of causes, each with its number; the answer is the first number whose cause holds, else 0.
use Rattle.std.specs.Prelude.{◌≡◌, refl, Bool, true, false, cond, ◌&&◌, not, List, [], ◌∷◌, ◌++◌, ℕ, eqb}
use Rattle.std.proofs.Common.{sym, eq-eqb}
use Rattle.laws.specs.Tests.{by_test, clash, and_left, and_right}

pub record Cause : Type 0 where
  pub holds : Bool
  pub number : ℕ

infix 70 ◌gives◌
-- a cause and its number
abbrev pub ◌gives◌ : Bool → ℕ → Cause
b gives n = record { holds = b; number = n }

-- the first number whose cause holds, else 0
abbrev pub first : List Cause → ℕ
first [] = 0
first (c ∷ cs) = cond c.holds c.number (first cs)

-- no cause has this number
abbrev pub without : ℕ → List Cause → Bool
without n [] = true
without n (c ∷ cs) = not (eqb c.number n) && without n cs

-- no number is 0
abbrev pub numbered : List Cause → Bool
numbered cs = without 0 cs

-- no cause holds
abbrev pub AllPassed : List Cause → Type 0
AllPassed [] = Unit {0}
AllPassed (c ∷ cs) = (c.holds ≡ false) × AllPassed cs

-- the answer is 0 exactly if no cause holds
pub passed : (cs : List Cause) → numbered cs ≡ true → first cs ≡ 0 → AllPassed cs
passed [] n h = tt
passed (c ∷ cs) n h =
    by_test c.holds
    (λ t. let z : c.number ≡ 0 = rw t at h in clash (rw (eq-eqb c.number 0 z) at (and_left (not (eqb c.number 0)) (numbered cs) n)) refl)
    (λ t. (t, passed cs (and_right (not (eqb c.number 0)) (numbered cs) n) (rw t at h)))

pub zero_of : (cs : List Cause) → AllPassed cs → first cs ≡ 0
zero_of [] p = refl
zero_of (c ∷ cs) p = rw p.0 (zero_of cs p.1)

-- a number that no cause has isn't given
pub not_given : (n : ℕ) (cs : List Cause) → without n cs ≡ true → (n ≡ 0 → ⊥) → first cs ≡ n → ⊥
not_given n [] w z h = z (sym h)
not_given n (c ∷ cs) w z h =
    by_test c.holds
    (λ t. let e : c.number ≡ n = rw t at h in clash (rw (eq-eqb c.number n e) at (and_left (not (eqb c.number n)) (without n cs) w)) refl)
    (λ t. not_given n cs (and_right (not (eqb c.number n)) (without n cs) w) z (rw t at h))

-- where a cause of the first list holds, the causes behind it don't count; where none does, they alone do
pub first_front : (cs ds : List Cause) → (first cs ≡ 0 → ⊥) → first (cs ++ ds) ≡ first cs
first_front [] ds z = absurd (z refl)
first_front (c ∷ cs) ds z = by_test c.holds (λ t. rw t refl) (λ t. rw t (first_front cs ds (λ q. z (rw t q))))

pub first_behind : (cs ds : List Cause) → AllPassed cs → first (cs ++ ds) ≡ first ds
first_behind [] ds p = refl
first_behind (c ∷ cs) ds p = rw p.0 (first_behind cs ds p.1)
