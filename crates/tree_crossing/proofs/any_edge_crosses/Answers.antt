-- `tree_crossing::any_edge_crosses`: what each turn asks is whether the row's own edge crosses.
use Rattle.std.proofs.Common.{arith, ◌∙◌, sym}
use Rattle.tree_theory.specs.Machine.{crosses}
use Rattle.tree_table.proofs.Rows.{scan_start, scan_more, scan_hit}
use Rattle.tree_crossing.proofs.any_edge_crosses.Goals as goal

pub loop-i-init : goal.loop-i-init
loop-i-init c = scan_start

pub returns-then-crosses : goal.returns-then-crosses
returns-then-crosses c =
    let asked = c.crosses.ensures ∙ (λ j. crosses (c.round_at.ensures j) (c.parent_at.ensures j) c.args.c) in
    sym (scan_hit c.loop-i.invariant c.args.n (omega arith) (sym asked ∙ c.if-crosses.true))

pub loop-i-preserved : goal.loop-i-preserved
loop-i-preserved c =
    let asked = c.crosses.ensures ∙ (λ j. crosses (c.round_at.ensures j) (c.parent_at.ensures j) c.args.c) in
    scan_more c.loop-i.invariant (sym asked ∙ c.if-crosses.false)
