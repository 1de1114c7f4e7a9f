-- `tree_check::is_tree`: its tests are `checks`, which is `is_tree`.
use Rattle.std.proofs.Common.{arith, ◌≡◌, ◌∙◌, sym, true, false, ◌≤◌, ◌*◌, length}
use borrow.Author.Tests.{le-leb, lt-leb}
use Rattle.tree_theory.specs.Table.{used}
use Rattle.tree_theory.specs.Check.{checks, fits_to, zeros_to}
use Rattle.tree_theory.proofs.Words.{used_rows}
use Rattle.tree_theory.proofs.Checks.{checks_exact}
use Rattle.tree_check.proofs.is_tree.Goals as goal

pub returns-then-n-eq0 : goal.returns-then-n-eq0
unfolding checks
returns-then-n-eq0 c =
    let t = c.args.t.now in
    let e : used t ≡ 0 = sym c.used_rows-n.ensures ∙ c.if-n-eq0.true in
    rw (lt-leb 1 (used t) (omega arith)) at (checks_exact c.args.valued t c.requires)

pub rows_fit-requires : goal.rows_fit-requires
rows_fit-requires c = omega (arith, used_rows c.args.t.now)

pub returns-then-not-rows_fit : goal.returns-then-not-rows_fit
unfolding checks
returns-then-not-rows_fit c =
    let t = c.args.t.now in
    let one : 1 ≤ used t = omega (arith, c.used_rows-n.ensures) in
    let f : fits_to c.args.valued t (used t) (used t) ≡ false = rw (← c.used_rows-n.ensures) (sym c.rows_fit.ensures ∙ c.if-not-rows_fit.true) in
    rw (le-leb 1 (used t) one, f) at (checks_exact c.args.valued t c.requires)

pub overflow_mul-n : goal.overflow_mul-n
overflow_mul-n c = omega (arith, used_rows c.args.t.now)

pub zeros_from-requires : goal.zeros_from-requires
zeros_from-requires c = omega (arith, used_rows c.args.t.now)

pub returns : goal.returns
unfolding checks
returns c =
    let t = c.args.t.now in
    let one : 1 ≤ used t = omega (arith, c.used_rows-n.ensures) in
    let f : fits_to c.args.valued t (used t) (used t) ≡ true = rw (← c.used_rows-n.ensures) (sym c.rows_fit.ensures ∙ c.if-not-rows_fit.false) in
    let z : zeros_to t (4 * used t) (length t) ≡ c.zeros_from.result = rw (← c.used_rows-n.ensures) (sym c.zeros_from.ensures) in
    sym z ∙ (rw (le-leb 1 (used t) one, f) at (checks_exact c.args.valued t c.requires))
