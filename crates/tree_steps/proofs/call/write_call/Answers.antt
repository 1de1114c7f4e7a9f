-- `tree_steps::call::write_call`: an add's node stands behind the struck rows.
use Rattle.tree_steps.proofs.Inserting.{row_put_behind}
use Rattle.tree_steps.proofs.call.write_call.Goals as goal

pub returns-in-Add : goal.returns-in-Add
returns-in-Add c =
    let a = c.args in
    let g = c.in-Add in
    rw g.is (row_put_behind a.t.now a.plan.row g.round.0 g.value g.parent.0 a.plan.status c.strike_if.new.t c.put_row.new.t
    c.strike_if.ensures c.put_row.ensures)
