-- `tree_crossing::strike`: what one turn strikes, and what all leave.
use Rattle.std.proofs.Common.{arith, ◌≤◌, ◌*◌, ◌+◌, length}
use Rattle.tree_theory.specs.Machine.{strike_crossed}
use Rattle.tree_table.proofs.Rows.{pass_none}
use Rattle.tree_crossing.proofs.Striking.{struck_more}
use Rattle.tree_crossing.proofs.strike.Goals as goal

pub loop-i-init : goal.loop-i-init
loop-i-init c = pass_none (strike_crossed c.args.r c.args.p) c.args.t.now

pub loop-i-preserved : goal.loop-i-preserved
loop-i-preserved c =
    let a = c.args in
    let l = c.loop-i in
    let h : 4 * l.i + 4 ≤ length a.t.now = omega arith in
    struck_more a.r a.p a.t.now l.i l.t _ l.invariant h c.strike_row.ensures
