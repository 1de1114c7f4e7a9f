-- `tree_steps::add::plan_add`: the row behind the used ones, and the status by the rounds above.
use Rattle.std.proofs.Common.{◌∙◌, sym, ap, cond}
use Rattle.tree_theory.specs.Machine.{ADDED, GHOST}
use Rattle.tree_crossing.proofs.Looking.{LookedAt, used_is, above_is, strikes_is}
use Rattle.tree_steps.proofs.Planning.{add_planned}
use Rattle.tree_steps.proofs.add.plan_add.Goals as goal

pub returns : goal.returns
returns c =
    let a = c.args in
    let L : LookedAt a.t.now a.r.0 a.p.0 c.look_over-l.result = record { is = c.look_over-l.ensures } in
    let ok = c.in_ok-check_add.ensures in
    record {
      number_is = ok;
      plan_is = add_planned a.valued a.t.now c.requires a.r.0 a.v a.p.0 (sym ok) (used_is L)
          (c.new_status.ensures ∙ ap (λ b. cond b GHOST ADDED) (above_is L)) (strikes_is L (used_is L));
    }
