-- `tree_table::find_row`: no row passed has the round.
use Rattle.tree_theory.specs.Machine.{has_round}
use Rattle.tree_table.proofs.Rows.{Scanned}
use Rattle.tree_table.proofs.find_row.Given as goal

abbrev pub invariant-loop-i : goal.invariant-loop-i
invariant-loop-i l = Scanned (has_round l.r) l.t l.i
