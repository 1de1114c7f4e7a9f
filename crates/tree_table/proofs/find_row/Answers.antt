-- `tree_table::find_row`: a row that has the round is the first one.
use Rattle.std.proofs.Common.{◌≡◌, arith}
use borrow.Author.Tests.{ne_eqb}
use Rattle.tree_theory.specs.Table.{row}
use Rattle.tree_table.proofs.Rows.{scan_start, scan_more, place_at}
use Rattle.tree_table.proofs.find_row.Goals as goal

pub loop-i-init : goal.loop-i-init
loop-i-init c = scan_start

pub returns-then-round_at-r : goal.returns-then-round_at-r
returns-then-round_at-r c =
    let l = c.loop-i in
    let e : (row c.args.t.now l.i).round ≡ c.args.r = omega arith in
    place_at l.invariant c.args.n (omega arith) e

pub loop-i-preserved : goal.loop-i-preserved
loop-i-preserved c =
    let l = c.loop-i in
    let e : (row c.args.t.now l.i).round ≡ c.args.r → ⊥ = λ q. c.if-round_at-r.false (omega arith) in
    scan_more l.invariant (ne_eqb _ _ e)
