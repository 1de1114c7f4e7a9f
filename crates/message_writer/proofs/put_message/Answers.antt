-- The writer leaves the message's numbers in the buffer that it was lent.
use Rattle.std.proofs.Common.{rules, refl, arith}
use Rattle.xdr_writer.proofs.Items.{put_fronts}
use Rattle.message.proofs.RoundTrip.{layout_short}
use Rattle.message_writer.proofs.put_message.Goals as goal

pub returns : goal.returns
returns c = put_fronts _ c.put_all.ensures.put refl refl (omega (arith, layout_short c.args.m)) (search rules)
