-- The row, and that steps keep soundness; that the flags are seven is their type.
use Rattle.std.proofs.Common.{◌≡◌, length, arith}
use Rattle.member_record.proofs.Sound.{sound_size}
use Rattle.member.specs.Table.{delivers}
use Rattle.member.proofs.Keeping.{step_of_move, step_kept}
use Rattle.member.proofs.deliver_sound.Goals as goal

pub on_message-requires : goal.on_message-requires
on_message-requires c = let (low, high) = sound_size c.args.m c.requires.0 in (omega arith, high)

pub returns : goal.returns
returns c =
    let e = delivers c.args.g in
    let seven : length c.args.m.lead.flags ≡ 7 = omega arith in
    step_of_move c.args.m e c.step_of.ensures c.on_message.ensures.step (step_kept c.args.m e seven c.requires.0 c.requires.1)
