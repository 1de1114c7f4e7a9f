-- `tree_crossing::look::look_over`: how the walk goes on, and where it ends.
use Rattle.std.proofs.Common.{arith, refl, sym, ap, ◌≡◌, ◌∙◌, ◌+◌}
use Rattle.tree_theory.specs.Machine.{FREE}
use Rattle.tree_theory.specs.Table.{row}
use Rattle.tree_crossing.proofs.Looking.{walk_start, walk_more, walk_counts, walk_stop, walk_end}
use Rattle.tree_crossing.proofs.look.look_over.Goals as goal

pub loop-i-init : goal.loop-i-init
loop-i-init c = record { counted = refl; walked = walk_start c.args.t.now c.args.r c.args.p }

pub returns-then-status_at-eq-FREE : goal.returns-then-status_at-eq-FREE
returns-then-status_at-eq-FREE c =
    let I = c.loop-i.invariant in
    walk_stop I.walked (ap (λ i. (row c.args.t.now i).status) I.counted ∙ sym c.status_at.ensures ∙ c.if-status_at-eq-FREE.true)

pub loop-i-preserved : goal.loop-i-preserved
loop-i-preserved c =
    let I = c.loop-i.invariant in
    let used : (row c.args.t.now c.loop-i.l.used).status ≡ FREE → ⊥ = λ q.
    c.if-status_at-eq-FREE.false (c.status_at.ensures ∙ sym (ap (λ i. (row c.args.t.now i).status) I.counted) ∙ q) in
    record {
      counted = walk_counts I.walked c.look_on-l.ensures ∙ ap (λ i. i + 1) I.counted;
      walked = walk_more I.walked (omega arith) used c.look_on-l.ensures;
    }

pub returns : goal.returns
returns c = walk_end c.loop-i.invariant.walked (omega arith)
