-- The row, and that steps keep soundness; that the flags are seven is their type.
use Rattle.std.proofs.Common.{◌≡◌, length, arith, refl}
use Rattle.member_record.proofs.Sound.{sound_size}
use Rattle.member.specs.Table.{starts, sound_step}
use Rattle.member.proofs.Keeping.{step_of_move, step_kept}
use Rattle.member.proofs.start_sound.Goals as goal

pub on_start_call-requires : goal.on_start_call-requires
on_start_call-requires c = omega (arith, sound_size c.args.m c.requires)

pub returns : goal.returns
unfolding sound_step
returns c =
    let e = starts c.args.r c.args.offer in
    let seven : length c.args.m.lead.flags ≡ 7 = omega arith in
    step_of_move c.args.m e c.step_of.ensures c.on_start_call.ensures (step_kept c.args.m e seven c.requires refl)
