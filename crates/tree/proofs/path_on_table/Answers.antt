-- `tree::path_on_table`: each refusal in its order, then the recursion to the parent.
use Rattle.std.proofs.Common.{arith, rules, ◌≡◌, ◌∙◌, sym, ap, Bool, List, ℕ}
use Rattle.std.specs.Prelude.{Option, Err}
use Rattle.std.specs.Option.{is_some}
use Rattle.numbers.proofs.Refusals.{refusal_not_ok}
use Rattle.tree_theory.specs.Machine.{present}
use Rattle.tree_theory.specs.Table.{rows_of, used, nodes}
use Rattle.tree_theory.proofs.Words.{used_rows}
use Rattle.tree_table.specs.Rows.{row_place}
use Rattle.tree_table.proofs.Rows.{is_some_place}
use Rattle.tree.proofs.PathCalls.{path_of_table, path_above, path_absent, path_passed, path_of, path_short, path_done}
use Rattle.tree.proofs.path_on_table.Goals as goal

-- the search was among the used rows
sought : (ws : List ℕ) (r : ℕ) {n : ℕ} {o : Option ℕ} {b : Bool} → n ≡ used ws → o ≡ row_place r (rows_of ws n) → b ≡ is_some o → b ≡ present r (nodes ws)
sought ws r e f g = g ∙ ap is_some (f ∙ ap (λ n. row_place r (rows_of ws n)) e) ∙ is_some_place r (nodes ws)

pub returns-in_err-check_table : goal.returns-in_err-check_table
returns-in_err-check_table c =
    let e : c.from_residual.result ≡ Err c.in_err-check_table.field-0.0 = search rules in
    rw e (path_of_table c.args.valued c.args.t.now c.args.r.0 c.args.out.now _ c.in_err-check_table.ensures (refusal_not_ok _))

pub returns-then-above_range : goal.returns-then-above_range
returns-then-above_range c =
    let a = c.args in
    path_above a.valued a.t.now a.r.0 a.out.now c.in_ok-check_table.ensures (sym c.above_range.ensures ∙ c.if-above_range.true)

pub find_row-requires : goal.find_row-requires
find_row-requires c = omega (arith, used_rows c.args.t.now)

pub returns-then-not-present : goal.returns-then-not-present
returns-then-not-present c =
    let a = c.args in
    let e = sought a.t.now a.r.0 c.used_rows-n.ensures c.find_row.ensures c.is_some-present.ensures in
    path_absent a.valued a.t.now a.r.0 a.out.now c.in_ok-check_table.ensures (sym c.above_range.ensures ∙ c.if-above_range.false)
    (sym e ∙ c.if-not-present.true)

pub path_into-requires : goal.path_into-requires
path_into-requires c =
    let a = c.args in
    let e = sought a.t.now a.r.0 c.used_rows-n.ensures c.find_row.ensures c.is_some-present.ensures in
    path_of
    (path_passed c.in_ok-check_table.ensures (sym c.above_range.ensures ∙ c.if-above_range.false)
    (sym e ∙ c.if-not-present.false))
    c.used_rows-n.ensures

pub returns-in_default : goal.returns-in_default
returns-in_default c =
    let a = c.args in
    let e = sought a.t.now a.r.0 c.used_rows-n.ensures c.find_row.ensures c.is_some-present.ensures in
    path_short
    (path_passed c.in_ok-check_table.ensures (sym c.above_range.ensures ∙ c.if-above_range.false)
    (sym e ∙ c.if-not-present.false))
    c.path_into.ensures c.in_default.is

pub returns : goal.returns
returns c =
    let a = c.args in
    let e = sought a.t.now a.r.0 c.used_rows-n.ensures c.find_row.ensures c.is_some-present.ensures in
    path_done
    (path_passed c.in_ok-check_table.ensures (sym c.above_range.ensures ∙ c.if-above_range.false)
    (sym e ∙ c.if-not-present.false))
    c.path_into.ensures c.in-Some.is
