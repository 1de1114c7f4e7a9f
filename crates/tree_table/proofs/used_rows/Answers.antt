-- `tree_table::used_rows`: a free row ends the count, and a used one is counted.
use Rattle.std.proofs.Common.{arith, ◌≡◌, ◌∙◌, sym, ◌-◌}
use Rattle.tree_theory.specs.Machine.{FREE}
use Rattle.tree_theory.specs.Table.{row, rows}
use Rattle.tree_table.proofs.Rows.{used_stop, used_go, used_end}
use Rattle.tree_table.proofs.used_rows.Goals as goal

pub returns-then-status_at-eq-FREE : goal.returns-then-status_at-eq-FREE
returns-then-status_at-eq-FREE c =
    let ws = c.args.t.now in
    let l = c.loop-i in
    let e : (row ws l.i).status ≡ FREE = omega arith in
    sym (l.invariant ∙ used_stop ws (rows ws - l.i) l.i e)

pub loop-i-preserved : goal.loop-i-preserved
loop-i-preserved c =
    let ws = c.args.t.now in
    let l = c.loop-i in
    let e : (row ws l.i).status ≡ FREE → ⊥ = λ q. c.if-status_at-eq-FREE.false (omega arith) in
    l.invariant ∙ used_go ws (rows ws) l.i (omega arith) e

pub returns : goal.returns
returns c =
    let ws = c.args.t.now in
    let e : c.loop-i.i ≡ rows ws = omega arith in
    sym e ∙ sym (c.loop-i.invariant ∙ used_end ws (rows ws) c.loop-i.i (omega arith))
