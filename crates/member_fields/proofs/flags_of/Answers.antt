-- Seven bits are the flags.
use Rattle.std.proofs.Common.{arith}
use Rattle.member_fields.proofs.Bits.{seven_bits}
use Rattle.member_fields.proofs.flags_of.Goals as goal

pub returns : goal.returns
returns c = seven_bits c.args.mask c.loop-s.flag-items c.loop-s-test.array_long (λ k low. c.loop-s.invariant k (omega arith))
