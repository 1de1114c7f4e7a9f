-- A message in range, with room for any, is written.
use Rattle.std.proofs.Common.{◌≡◌, true, length, Ok, refl, ◌∙◌}
use Rattle.message.specs.Layout.{in_slot, bytes}
use Rattle.message.specs.Fields.{message_in_range}
use Rattle.message.proofs.RoundTrip.{both_ranged, length_bytes, in_range_written, left_in_front}
use Rattle.member_calls.proofs.Calls.{written_ok}
use Rattle.member_calls.proofs.reply.send.Goals as goal

pub unwrap-requires : goal.unwrap-requires
unwrap-requires c =
    let m = in_slot c.args.slot c.args.g in
    let (room, slot, body) = c.requires in
    let written : c.write_message.result ≡ Ok (length (bytes m)) =
    written_ok c.write_message.result (c.write_message.ensures.answer ∙ in_range_written m c.args.reply.now room (both_ranged m slot body))
    in
    rw written refl

pub returns : goal.returns
returns c =
    let m = in_slot c.args.slot c.args.g in
    let old = c.args.reply.now in
    let (room, slot, body) = c.requires in
    let ranged : message_in_range m ≡ true = both_ranged m slot body in
    let w = c.write_message.ensures in
    let written : c.write_message.result ≡ Ok (length (bytes m)) = written_ok c.write_message.result (w.answer ∙ in_range_written m old room ranged) in
    let same : c.unwrap.result ≡ length (bytes m) = cc (c.unwrap.ensures) in
    (same ∙ length_bytes m, w.buffer ∙ left_in_front m old room ranged)
