-- The flags below s are bits of the mask.
use Rattle.std.proofs.Common.{◌≡◌, ℕ, ◌<◌, ◌/◌, ◌^◌, false, get_or}
use Rattle.member_fields.specs.Fields.{bit}
use Rattle.member_fields.proofs.flags_of.Given as goal

abbrev pub invariant-loop-s : goal.invariant-loop-s
invariant-loop-s l = (k : ℕ) → k < l.s → get_or l.flag-items k false ≡ bit (l.mask / 2 ^ k)
