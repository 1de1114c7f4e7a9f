-- `tree::preview_on_table`: 1, 31, 2, or the preview of a tree.
use Rattle.std.proofs.Common.{rules, ◌≡◌}
use Rattle.std.specs.Prelude.{Err}
use Rattle.numbers.proofs.Refusals.{refusal_not_ok}
use Rattle.tree_theory.specs.Machine.{add}
use Rattle.tree.proofs.Previewing.{tables_passed, tables_refuse}
use Rattle.tree.proofs.preview_on_table.Goals as goal

pub returns-in_err-check_tables : goal.returns-in_err-check_tables
returns-in_err-check_tables c =
    let a = c.args in
    let e : c.from_residual.result ≡ Err c.in_err-check_tables.field-0.0 = search rules in
    rw e (tables_refuse a.valued a.first.now a.second.now (add a.r.0 a.v a.p.0) c.in_err-check_tables.ensures (refusal_not_ok _))

pub preview_on_tree-requires : goal.preview_on_tree-requires
preview_on_tree-requires c = tables_passed c.args.valued c.args.first.now c.args.second.now c.in_ok-check_tables.ensures
