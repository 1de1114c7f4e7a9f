-- Each answer of the member is one arm, and each arm one law.
use mathlib.Core.Path.{◌≡◌, refl, sym, ap, ◌∙◌}
use mathlib.Core.List.Memᴰ.{head as here}
use Prim.Native.Nat.{ℕ}
use Rattle.ids.specs.declared.Slot.{Slot}
use Rattle.message.specs.declared.Body.{Body}
use Rattle.message.specs.declared.Message.{Message}
use Rattle.message.specs.Layout.{in_slot}
use Rattle.member_record.specs.Record.{slot_number}
use Rattle.member.specs.declared.StepAnswer.{StepAnswer}
use Rattle.play_effects.specs.declared.Tally.{Tally}
use Rattle.play_effects.specs.Memory.{Memory, in_memory}
use Rattle.play_office.specs.Represents.{AnswerIs, AnswerBefore}
use Rattle.play_office.proofs.Before.{counts_fit}
use Rattle.play_office.proofs.Arms.{by_answer, step_keeps, sent_ranged, lent_tree, refuses, goes_silent, sends_go, proposes_go}
use Rattle.play_office.proofs.Arms.{decides_go}
use Rattle.play_office.proofs.settle.Goals as goal

-- what is sent is of the event's slot
of_slot : {t : Tally} {slot : Slot} {a : StepAnswer} {M : Memory} (F : AnswerBefore t slot a M) {b : Body} {g : Message} → g ≡ in_slot slot b →
    g ≡ in_slot (slot_number F.e.slot) b
of_slot F {b} q = q ∙ ap (λ (k : ℕ). in_slot (slot_number k) b) (sym F.of_slot)

pub send-requires : goal.send-requires
unfolding AnswerIs
send-requires c =
    let F = c.requires in
    let T = by_answer F c.in-Sent.is in
    (counts_fit F.before, sent_ranged T _ ((step_keeps F.before T).sent_in_range _ (here refl)) F.of_slot c.in_slot.ensures)

pub propose-requires : goal.propose-requires
unfolding AnswerIs
propose-requires c =
    let F = c.requires in
    let T = by_answer F c.in-Proposed.is in
    let M = in_memory c.args.messages.now c.args.nodes.now in (
      counts_fit F.before,
      sent_ranged T _ ((step_keeps F.before T).sent_in_range _ (here refl)) F.of_slot c.in_slot-g.ensures,
      lent_tree M F.before F.e.slot F.lent,
    )

pub decide-requires : goal.decide-requires
decide-requires c =
    let F = c.requires in
    let M = in_memory c.args.messages.now c.args.nodes.now in
    (counts_fit F.before, lent_tree M F.before F.e.slot F.lent)

pub returns-in-Refused : goal.returns-in-Refused
returns-in-Refused c =
    let M = in_memory c.args.messages.now c.args.nodes.now in
    λ F. refuses M F.before F.e F.lent F.m c.in-Refused.refusal (by_answer F c.in-Refused.is)

pub returns-in-Done : goal.returns-in-Done
returns-in-Done c =
    let M = in_memory c.args.messages.now c.args.nodes.now in
    λ F. goes_silent M F.before F.e F.lent F.m (by_answer F c.in-Done.is)

pub returns-in-Sent : goal.returns-in-Sent
returns-in-Sent c =
    let M = in_memory c.args.messages.now c.args.nodes.now in
    λ F.
    sends_go M F.before F.e F.lent F.m (by_answer F c.in-Sent.is) (of_slot F c.in_slot.ensures) c.send.ensures c.send.auto.messages

pub returns-in-Proposed : goal.returns-in-Proposed
returns-in-Proposed c =
    let M = in_memory c.args.messages.now c.args.nodes.now in
    let w = c.propose in
    λ F.
    proposes_go M F.before F.e F.lent F.m (by_answer F c.in-Proposed.is) (of_slot F c.in_slot-g.ensures) w.ensures w.auto.messages w.auto.nodes

pub returns-in-Decided : goal.returns-in-Decided
returns-in-Decided c =
    let M = in_memory c.args.messages.now c.args.nodes.now in
    λ F. decides_go M F.before F.e F.lent F.m _ (by_answer F c.in-Decided.is) c.decide.ensures c.decide.auto.nodes
