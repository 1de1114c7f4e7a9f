-- What the step of a sound record at a message within its ranges promises.
use Rattle.std.specs.Prelude.{◌≡◌, true, ◌<◌, length}
use Rattle.laws.specs.Lists.{◌∈◌}
use Rattle.message.specs.declared.Body.{Body}
use Rattle.message.specs.Fields.{in_range}
use Rattle.member_record.specs.declared.MemberState.{MemberState}
use Rattle.member.specs.declared.MemberStep.{MemberStep}
use Rattle.member_record.specs.Record.{sound, changes_durable}
use Rattle.member.specs.Table.{Outcome, MemberEvent, sound_step}
use Rattle.member.specs.Answers.{step_outcome}

-- the number is a byte, the record after is sound, its flags are seven, and what is sent is within the ranges of its kind
pub record Kept (o : Outcome) : Type 0 where
  pub number_byte : o.number < 256
  pub sound_after : sound o.state ≡ true
  pub seven_after : length o.state.lead.flags ≡ 7
  pub sent_in_range : (g : Body) → g ∈ o.sent → in_range g ≡ true

-- the step equals the table and is kept so, and it tells whether one of J, V, W and L is another after it than before
pub record StepOf (m : MemberState) (e : MemberEvent) (s : MemberStep) : Type 0 where
  pub equals : step_outcome s ≡ sound_step m e
  pub kept : Kept (step_outcome s)
  pub lasting : s.lasting ≡ changes_durable m.durable s.state.durable
