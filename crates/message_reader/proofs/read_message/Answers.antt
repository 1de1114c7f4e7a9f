-- It goes by whether the slot is above 7.
use Rattle.std.proofs.Common.{rules, sym, arith}
use Rattle.ids.specs.Ranges.{no_slot}
use Rattle.message.proofs.Checks.{too_short}
use Rattle.message.proofs.RoundTrip.{reader_gives}
use Rattle.message_reader.proofs.Told.{told_gives}
use Rattle.message_reader.proofs.read_message.Goals as goal

pub returns-then-s-lt-KIND_END : goal.returns-then-s-lt-KIND_END
returns-then-s-lt-KIND_END c = reader_gives _ _ _ (sym (too_short c.args.s.now no_slot (omega arith)))

pub returns : goal.returns
returns c = told_gives _ _ _ _ (omega arith) c.read_told.ensures (search rules)
