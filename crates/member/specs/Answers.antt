-- 01's number and values for every case of the answers.
use Rattle.std.specs.Prelude.{[], ◌∷◌}
use Rattle.numbers.specs.Numbers.{OK, refusal_number}
use Rattle.member_record.specs.declared.MemberState.{MemberState}
use Rattle.member.specs.declared.StepAnswer.{StepAnswer}
use Rattle.member.specs.declared.StepAnswer.TheVariants.{Refused, Sent, Done, Proposed, Decided}
use Rattle.member.specs.declared.Move.{Move}
use Rattle.member.specs.declared.MemberStep.{MemberStep}
use Rattle.member.specs.Table.{Outcome, refused, sends, silent, proposal, decision}

abbrev pub answer_outcome : MemberState → StepAnswer → Outcome
answer_outcome m (Refused e) = refused (refusal_number e) m
answer_outcome m (Sent g) = sends m g
answer_outcome m Done = silent m
answer_outcome m (Proposed g r x b) = record { number = OK; state = m; sent = g ∷ []; named = proposal r.0 x b.0 }
answer_outcome m (Decided r x) = record { number = OK; state = m; sent = []; named = decision r.0 x }

-- what a row's move, and what a step, comes to
abbrev pub move_outcome : Move → Outcome
move_outcome t = answer_outcome t.state t.answer

abbrev pub step_outcome : MemberStep → Outcome
step_outcome s = answer_outcome s.state s.answer
