-- A refusal by the row, or the step.
use Rattle.std.proofs.Common.{[], refl}
use Rattle.laws.specs.Tests.{tests}
use Rattle.member.specs.Table.{starts, sound_step}
use Rattle.member_calls.specs.Calls.{start_call}
use Rattle.member_calls.proofs.Calls.{passing, slotted, refusing, further}
use Rattle.member_calls.proofs.start_into.Goals as goal

pub tell-requires : goal.tell-requires
tell-requires c =
    let row = c.in_default.ensures in
    ((passing c.args.m c.args.reply.now row).1, omega (tests, slotted c.args.m c.args.reply.now row), c.start_sound-started.ensures.kept)

pub returns : goal.returns
unfolding start_call
returns c =
    rw (further c.args.m c.args.reply.now c.in_default.ensures [] (sound_step c.args.m (starts c.args.r c.args.offer)))
    (rw c.start_sound-started.ensures.equals at c.tell.ensures)

pub returns-in-Err : goal.returns-in-Err
unfolding start_call
returns-in-Err c =
    rw (refusing c.args.m c.args.reply.now c.in-Err.refusal c.in-Err.ensures [] (sound_step c.args.m (starts c.args.r c.args.offer)))
    (record { answers = rw c.from.ensures at c.refuse.ensures; reply = refl })
