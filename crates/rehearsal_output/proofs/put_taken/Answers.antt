-- `rehearsal_output::put_taken` meets its contract: the nodes of all slots stand behind the answers. Assumes nothing.
use Rattle.std.proofs.Common.{arith, length-take-le, ◌≡◌, ◌-◌}
use Rattle.decimal.proofs.Text.{text_behind}
use Rattle.rehearsal_output.proofs.put_taken.Goals as goal

pub returns-clause-text : goal.returns-clause-text
returns-clause-text c =
    let a = c.args in
    let e : a.count - 0 ≡ a.count = omega arith in
    let put = rw e at c.put_answers.ensures.text in
    text_behind put.put c.put_slots.ensures.text.put
    (omega (arith, put.within, length-take-le a.count a.answered.now c.requires.said, c.requires.few, c.requires.room, c.put_slots.ensures.text.within))
