-- The part lent is the row, which has room for any message.
use Rattle.play_store.proofs.Parts.{part_written}
use Rattle.play_store.proofs.store_message.Goals as goal

pub returns : goal.returns
returns c = part_written c.args.s.now c.args.k c.args.g c.requires.0 c.requires.1 c.write_message.ensures.buffer
