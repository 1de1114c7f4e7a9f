-- Each kind of event has its own function.
use mathlib.Core.Path.{◌≡◌, sym, subst}
use mathlib.Core.List.{List}
use Prim.Native.Nat.{ℕ}
use Rattle.ids.specs.declared.Slot.{Slot}
use Rattle.member_record.specs.declared.MemberState.{MemberState}
use Rattle.member.specs.declared.MemberStep.{MemberStep}
use Rattle.play_events.specs.declared.PlayEvent.{PlayEvent}
use Rattle.play_events.specs.Value.{model_event}
use Rattle.play_effects.specs.declared.Tally.{Tally}
use Rattle.play_office.specs.Represents.{StepTaken}
use Rattle.play_office.proofs.event.step_event.Goals as goal

-- the same event, as it was matched
taken : {t : Tally} {m : MemberState} (s : Slot) {d e : PlayEvent} {store : List ℕ} (r : MemberStep) → d ≡ e → StepTaken t m (model_event s e) store r →
    StepTaken t m (model_event s d) store r
taken {t} {m} s {store = store} r q T = subst (λ e. StepTaken t m (model_event s e) store r) (sym q) T

pub returns-in-Start : goal.returns-in-Start
returns-in-Start c = taken _ c.step_start.result c.in-Start.is (λ E. c.step_start.ensures _ E)

pub returns-in-Deliver : goal.returns-in-Deliver
returns-in-Deliver c = taken _ c.step_deliver.result c.in-Deliver.is c.step_deliver.ensures
