-- What a step sends is within the ranges of its kind.
use Rattle.member.proofs.Checks.{sent_in_bounds, proposed_in_bounds}
use Rattle.member_calls.proofs.reply.tell.Goals as goal

pub send-requires : goal.send-requires
send-requires c =
    let (room, slot, kept) = c.requires in
    (room, slot, sent_in_bounds c.args.state c.in-Sent.is (rw c.in-Ok.is at kept))

pub send-requires-in-Proposed : goal.send-requires-in-Proposed
send-requires-in-Proposed c =
    let (room, slot, kept) = c.requires in
    (room, slot, proposed_in_bounds c.args.state c.in-Proposed.is (rw c.in-Ok.is at kept))
