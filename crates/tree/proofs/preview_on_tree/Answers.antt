-- `tree::preview_on_tree`: the plan for the first table is carried out on a copy of it; where it is a refusal, the second stays as it was.
use Rattle.std.proofs.Common.{rules, arith, ◌≡◌}
use Rattle.std.specs.Prelude.{Err}
use Rattle.numbers.proofs.Refusals.{refusal_not_ok}
use Rattle.tree_theory.proofs.Words.{used_rows}
use Rattle.tree.proofs.Previewing.{copied, refused_on_tree, can_write_copy, previewed}
use Rattle.tree.proofs.preview_on_tree.Goals as goal

pub returns-in_err-shown : goal.returns-in_err-shown
returns-in_err-shown c =
    let e : c.from_residual.result ≡ Err c.in_err-shown.field-0.0 = search rules in
    rw e (refused_on_tree c.requires c.in_err-shown.ensures.number_is (refusal_not_ok _))

-- no more rows are copied than both tables have, all or the used ones
pub copy_rows-requires : goal.copy_rows-requires
copy_rows-requires c = (omega (arith, used_rows c.args.first.now, c.requires.alike), omega (arith, used_rows c.args.first.now, c.requires.alike))

pub carry_out-requires : goal.carry_out-requires
carry_out-requires c = can_write_copy c.requires c.in_ok-shown.ensures.plan_is (copied c.requires c.copy_rows.ensures)

pub returns : goal.returns
returns c =
    let P = c.in_ok-shown.ensures in
    previewed c.requires P.plan_is (copied c.requires c.copy_rows.ensures) P.number_is c.carry_out.ensures.ghosts c.carry_out.ensures.left
