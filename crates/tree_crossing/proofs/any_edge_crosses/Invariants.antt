-- `tree_crossing::any_edge_crosses`: no edge passed crosses the round.
use Rattle.tree_theory.specs.Check.{edge_over}
use Rattle.tree_table.proofs.Rows.{Scanned}
use Rattle.tree_crossing.proofs.any_edge_crosses.Given as goal

abbrev pub invariant-loop-i : goal.invariant-loop-i
invariant-loop-i l = Scanned (edge_over l.c) l.t l.i
