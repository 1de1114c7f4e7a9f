-- What is known of a step's number, and of the message that an answer sends. Assumes nothing.
use mathlib.Core.Path.{◌≡◌, refl, subst}
use mathlib.Core.Bool.{Bool, true, ◌&&◌}
use mathlib.Core.List.Memᴰ.{head as here}
use mathlib.Core.List.{List, [], ◌∷◌}
use Prim.Native.Nat.{ℕ, ◌<◌}
use native.Mathlib.Omega.{arith}
use lib.Dec.{ltb}
use Rattle.laws.specs.Tests.{tests, by_test, and_left, and_right}
use Rattle.laws.specs.First.{Cause, first}
use Rattle.ids.specs.declared.Round.{Round}
use Rattle.message.specs.declared.Body.{Body}
use Rattle.message.specs.Fields.{in_range}
use Rattle.message.specs.declared.Body.TheVariants.{Start, Join, JoinVoted, Propose, Vote}
use Rattle.member_record.specs.declared.MemberState.{MemberState}
use Rattle.member.specs.declared.StepAnswer.{StepAnswer}
use Rattle.member.specs.declared.StepAnswer.TheVariants.{Sent, Proposed}
use Rattle.member.specs.Answers.{answer_outcome}
use Rattle.member.specs.Kept.{Kept}
use Rattle.member.specs.Table.{MemberEvent, starts, delivers, step_causes}

-- each number is a byte
abbrev all_bytes : List Cause → Bool
all_bytes [] = true
all_bytes (c ∷ cs) = ltb c.number 256 && all_bytes cs

first_byte : (cs : List Cause) → all_bytes cs ≡ true → first cs < 256
first_byte [] h = omega arith
first_byte (c ∷ cs) h =
    by_test c.holds
    (λ t. rw t (omega (tests, and_left (ltb c.number 256) (all_bytes cs) h)))
    (λ t. rw t (first_byte cs (and_right (ltb c.number 256) (all_bytes cs) h)))

pub causes_byte : (m : MemberState) (e : MemberEvent) → first (step_causes m e) < 256
unfolding step_causes
causes_byte m e = first_byte (step_causes m e) (each e)
  where
    each : (e : MemberEvent) → all_bytes (step_causes m e) ≡ true
    each (starts r offer) = refl
    each (delivers (Start r s)) = refl
    each (delivers (Join r s)) = refl
    each (delivers (JoinVoted r s q w)) = refl
    each (delivers (Propose r s v)) = refl
    each (delivers (Vote r s)) = refl

-- what an answer sends is within the ranges of its kind
pub sent_in_bounds : (m : MemberState) {a : StepAnswer} {g : Body} → a ≡ Sent g → Kept (answer_outcome m a) → in_range g ≡ true
sent_in_bounds m {a} {g} q K = (subst (λ b. Kept (answer_outcome m b)) q K).sent_in_range g (here refl)

pub proposed_in_bounds : (m : MemberState) {a : StepAnswer} {g : Body} {r : Round} {x : ℕ} {b : Round} → a ≡ Proposed g r x b → Kept (answer_outcome m a) →
    in_range g ≡ true
proposed_in_bounds m {a} {g} q K = (subst (λ d. Kept (answer_outcome m d)) q K).sent_in_range g (here refl)
