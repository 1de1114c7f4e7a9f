-- A refusal by the row or of the bytes, or the step at what they read as for the record's slot.
use Rattle.std.proofs.Common.{refl, sym}
use Rattle.laws.specs.Tests.{tests}
use Rattle.message.specs.Reading.{other_slot, message_row, decoded_body}
use Rattle.message.proofs.RoundTrip.{got}
use Rattle.member.specs.Table.{delivers, sound_step}
use Rattle.member_calls.specs.Calls.{deliver_call}
use Rattle.member_calls.proofs.Calls.{passing, slotted, refusing, unread, read_as}
use Rattle.member_calls.proofs.deliver_into.Goals as goal

pub returns-in-Err : goal.returns-in-Err
unfolding deliver_call
returns-in-Err c =
    rw (refusing c.args.m c.args.reply.now c.in-Err.refusal c.in-Err.ensures (message_row (other_slot c.args.m.who.slot) c.args.bytes.now)
    (sound_step c.args.m (delivers (decoded_body c.args.bytes.now))))
    (record { answers = rw c.from.ensures at c.refuse.ensures; reply = refl })

pub deliver_sound-delivered-requires : goal.deliver_sound-delivered-requires
deliver_sound-delivered-requires c = (
  (passing c.args.m c.args.reply.now c.in_default.ensures).0,
  (got (other_slot c.args.m.who.slot) c.args.bytes.now _ (sym c.in-Ok.ensures.answer)).2,
)

pub tell-requires : goal.tell-requires
tell-requires c =
    let row = c.in_default.ensures in
    ((passing c.args.m c.args.reply.now row).1, omega (tests, slotted c.args.m c.args.reply.now row), c.deliver_sound-delivered.ensures.kept)

pub returns-in-Ok : goal.returns-in-Ok
returns-in-Ok c =
    rw (read_as c.args.m c.args.bytes.now c.args.reply.now c.in_default.ensures c.in-Ok.g (sym c.in-Ok.ensures.answer))
    (rw c.deliver_sound-delivered.ensures.equals at c.tell.ensures)

pub returns-in-Err-read_own_message : goal.returns-in-Err-read_own_message
returns-in-Err-read_own_message c =
    rw (unread c.args.m c.args.bytes.now c.args.reply.now c.in_default.ensures _ (sym c.in-Err-read_own_message.ensures.answer))
    (record { answers = rw c.from-in-Err-read_own_message.ensures at c.refuse-in-Err-read_own_message.ensures; reply = refl })
