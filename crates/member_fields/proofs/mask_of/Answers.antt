-- After the seventh flag the mask is that of all.
use Rattle.std.proofs.Common.{◌≡◌, ◌∙◌, arith}
use Rattle.member_fields.proofs.Bits.{all_below}
use Rattle.member_fields.proofs.mask_of.Goals as goal

pub returns : goal.returns
returns c =
    let seven : c.loop-s.s ≡ 7 = omega arith in
    (rw seven at c.loop-s.invariant.told) ∙ all_below c.args.flags
