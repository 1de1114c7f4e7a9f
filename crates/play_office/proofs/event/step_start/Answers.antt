-- 32, 29, or the step of the model's member.
use Rattle.std.proofs.Common.{sym}
use Rattle.play_office.proofs.Working.{front_passed, front_refused, step_start}
use Rattle.play_office.proofs.event.step_start.Goals as goal

pub returns-in-Err : goal.returns-in-Err
returns-in-Err c = λ store E. front_refused E c.in-Err.refusal c.in-Err.ensures c.missed.ensures

pub returns : goal.returns
returns c =
    let F = front_passed c.args.tally c.args.slot.0 c.args.member.0 (sym c.in_default.ensures) in
    λ store E. step_start E F c.start_sound.ensures
