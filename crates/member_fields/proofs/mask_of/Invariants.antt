-- The mask is the number of the flags below s.
use Rattle.std.proofs.Common.{◌≡◌, ◌<◌, ◌^◌}
use Rattle.member_fields.proofs.Bits.{below}
use Rattle.member_fields.proofs.mask_of.Given as goal

abbrev pub invariant-loop-s : goal.invariant-loop-s
invariant-loop-s l = record { told : l.mask ≡ below l.fn.flags l.s; small : l.mask < 2 ^ l.s }
