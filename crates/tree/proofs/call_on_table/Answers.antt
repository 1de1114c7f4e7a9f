-- `tree::call_on_table`: 1, 2, or the step of a tree.
use Rattle.std.proofs.Common.{rules, ◌≡◌}
use Rattle.std.specs.Prelude.{Err}
use Rattle.numbers.proofs.Refusals.{refusal_not_ok}
use Rattle.tree_steps.specs.Planned.{call_of}
use Rattle.tree.proofs.Calling.{tree_there, table_refuses, of_tree}
use Rattle.tree.proofs.call_on_table.Goals as goal

pub returns-in_err-check_table : goal.returns-in_err-check_table
returns-in_err-check_table c =
    let e : c.from_residual.result ≡ Err c.in_err-check_table.field-0.0 = search rules in
    rw e (table_refuses c.args.valued c.args.t.now (call_of c.args.call) c.in_err-check_table.ensures (refusal_not_ok _))

pub call_on_tree-requires : goal.call_on_tree-requires
call_on_tree-requires c = tree_there c.args.valued c.args.t.now c.in_ok-check_table.ensures

pub returns : goal.returns
returns c = of_tree (tree_there c.args.valued c.args.t.now c.in_ok-check_table.ensures) c.call_on_tree.ensures
