-- `tree::call_on_tree`: the plan for a table is carried out on it.
use Rattle.std.proofs.Common.{rules, ◌≡◌}
use Rattle.std.specs.Prelude.{Err}
use Rattle.numbers.proofs.Refusals.{refusal_not_ok}
use Rattle.tree.proofs.Calling.{refused, can_write, carried}
use Rattle.tree.proofs.call_on_tree.Goals as goal

pub returns-in_err-plan : goal.returns-in_err-plan
returns-in_err-plan c =
    let e : c.from_residual.result ≡ Err c.in_err-plan.field-0.0 = search rules in
    rw e (refused c.requires c.in_err-plan.ensures.number_is (refusal_not_ok _))

pub carry_out-requires : goal.carry_out-requires
carry_out-requires c = can_write c.requires c.in_ok-plan.ensures.plan_is

pub returns : goal.returns
returns c =
    let P = c.in_ok-plan.ensures in
    carried c.requires P.plan_is P.number_is c.carry_out.ensures.ghosts c.carry_out.ensures.left
