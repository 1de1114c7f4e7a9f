-- `tree_steps::commit::plan_commit`: the row found among all rows is that of the round.
use Rattle.std.proofs.Common.{rules, ◌≡◌, refl}
use Rattle.std.specs.Prelude.{Err}
use Rattle.tree_steps.proofs.Planning.{plan_refused, commit_answered, commit_planned}
use Rattle.tree_steps.proofs.commit.plan_commit.Goals as goal

pub returns-in_err-row : goal.returns-in_err-row
returns-in_err-row c =
    let e : c.from_residual.result ≡ Err c.in_err-row.field-0.0 = search rules in
    plan_refused e (commit_answered c.args.valued c.args.t.now c.requires c.args.r.0 c.in_err-row.ensures.number)

pub returns : goal.returns
returns c =
    let a = c.args in
    let E = c.in_ok-row.ensures in
    record {
      number_is = commit_answered a.valued a.t.now c.requires a.r.0 E.number;
      plan_is = commit_planned a.valued a.t.now c.requires a.r.0 E.number refl E.row;
    }
