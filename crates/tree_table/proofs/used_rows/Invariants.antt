-- `tree_table::used_rows`: counting from row i on gives the same number as counting from the start.
use Rattle.std.proofs.Common.{◌≡◌, ◌-◌}
use Rattle.tree_theory.specs.Table.{used, used_from}
use Rattle.tree_table.proofs.used_rows.Given as goal

abbrev pub invariant-loop-i : goal.invariant-loop-i
invariant-loop-i l = used l.t ≡ used_from l.t (l.rows - l.i) l.i
