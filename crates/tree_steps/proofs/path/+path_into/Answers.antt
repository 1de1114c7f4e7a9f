-- `tree_steps::path::path_into`: the root's path stands there or has no room, and else the parent's path, with the round behind it.
use Rattle.std.proofs.Common.{arith, ◌≡◌, ◌∙◌, sym, ap, ◌<◌, ℕ, List}
use Rattle.std.specs.Prelude.{Some}
use Rattle.tree_theory.specs.Machine.{Node, find}
use Rattle.tree_theory.specs.Table.{row, rows_of, nodes}
use Rattle.tree_theory.proofs.Words.{used_rows}
use Rattle.tree_table.specs.Rows.{row_place}
use Rattle.tree_steps.specs.Climbed.{PathOf}
use Rattle.tree_steps.proofs.Climbing.{root_short, root_written, row_found, parent_lower, parent_of, climbed_short, climbed}
use Rattle.tree_steps.proofs.path.+path_into.Goals as goal

-- what was read in the row found is the parent of r
parent_is : {ws : List ℕ} {n r behind : ℕ} (P : PathOf ws n r behind) → 0 < r → {k p : ℕ} → Some k ≡ row_place r (rows_of ws n) → p ≡ (row ws k).parent →
    p ≡ (find r (nodes ws)).parent
parent_is P pos ek ep = ep ∙ ap (λ (n : Node). n.parent) (sym (row_found P pos ek).1)

pub returns-then-out-behind : goal.returns-then-out-behind
returns-then-out-behind t c = rw c.if-r-eq0.true (root_short c.args.t.now c.args.behind c.args.out.now c.if-out-behind.true)

pub returns-then-r-eq0 : goal.returns-then-r-eq0
returns-then-r-eq0 t c = rw c.if-r-eq0.true (root_written c.args.t.now c.args.behind c.args.out.now c.if-out-behind.false)

pub find_row-requires : goal.find_row-requires
find_row-requires t c = omega (arith, c.requires.rows_are, used_rows c.args.t.now)

pub parent_at-parent-requires : goal.parent_at-parent-requires
parent_at-parent-requires t c =
    let pos : 0 < c.args.r = omega (arith, c.if-r-eq0.false) in
    omega (arith, (row_found c.requires pos c.in_ok-row.ensures).0, used_rows c.args.t.now)

pub path_into-requires : goal.path_into-requires
path_into-requires t c =
    let pos : 0 < c.args.r = omega (arith, c.if-r-eq0.false) in
    let e = parent_is c.requires pos c.in_ok-row.ensures c.parent_at-parent.ensures in
    (rw (← c.decreases) (parent_lower c.requires pos e), parent_of c.requires pos e)

pub returns-in_err-k : goal.returns-in_err-k
returns-in_err-k t c =
    let pos : 0 < c.args.r = omega (arith, c.if-r-eq0.false) in
    let e = parent_is c.requires pos c.in_ok-row.ensures c.parent_at-parent.ensures in
    rw c.from_residual-in_err-k.ensures (climbed_short c.requires pos e c.path_into.ensures c.in_err-k.was)

pub returns : goal.returns
returns t c =
    let pos : 0 < c.args.r = omega (arith, c.if-r-eq0.false) in
    let e = parent_is c.requires pos c.in_ok-row.ensures c.parent_at-parent.ensures in
    climbed c.requires pos e c.path_into.ensures c.in_ok-k.was
