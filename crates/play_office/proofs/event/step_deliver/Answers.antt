-- 32, 29, 32, or the step of the model's member at the message of that row.
use Rattle.std.proofs.Common.{◌≡◌, sym}
use Rattle.laws.specs.Tests.{tests}
use Rattle.play_office.proofs.Working.{front_passed, front_refused, no_message, other_slot_row, sound_member, row_ranged, step_deliver}
use Rattle.play_office.proofs.event.step_deliver.Goals as goal

pub returns-in-Err : goal.returns-in-Err
returns-in-Err c = λ E. front_refused E c.in-Err.refusal c.in-Err.ensures c.missed.ensures

pub returns-then-tally-row : goal.returns-then-tally-row
returns-then-tally-row c =
    let F = front_passed c.args.tally c.args.slot.0 c.args.member.0 (sym c.in_default.ensures) in
    λ E. no_message E F c.if-tally-row.true c.missed-then-tally-row.ensures

-- what the test of two slots says is found, whatever its form
pub returns-then-ne : goal.returns-then-ne
returns-then-ne c =
    let F = front_passed c.args.tally c.args.slot.0 c.args.member.0 (sym c.in_default.ensures) in
    let other : c.fetch_slot-sent_in.result.0 ≡ c.args.slot.0 → ⊥ = λ q. grind tests in
    λ E. other_slot_row E F c.if-tally-row.false c.fetch_slot-sent_in.ensures other c.missed-then-ne.ensures

pub deliver_sound-requires : goal.deliver_sound-requires
deliver_sound-requires c =
    let F = front_passed c.args.tally c.args.slot.0 c.args.member.0 (sym c.in_default.ensures) in
    (sound_member c.requires F, row_ranged c.requires F c.if-tally-row.false c.fetch_body-body.ensures)

pub returns : goal.returns
returns c =
    let F = front_passed c.args.tally c.args.slot.0 c.args.member.0 (sym c.in_default.ensures) in
    let own : c.fetch_slot-sent_in.result.0 ≡ c.args.slot.0 = grind tests in
    λ E. step_deliver E F c.if-tally-row.false c.fetch_body-body.ensures c.fetch_slot-sent_in.ensures own c.deliver_sound.ensures
