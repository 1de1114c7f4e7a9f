-- `tree_crossing::strike`: after i turns the first i rows are struck and the rest is as it was.
use Rattle.tree_theory.specs.Machine.{strike_crossed}
use Rattle.tree_table.proofs.Rows.{PassedRows}
use Rattle.tree_crossing.proofs.strike.Given as goal

abbrev pub invariant-loop-i : goal.invariant-loop-i
invariant-loop-i l = PassedRows (strike_crossed l.r l.p) l.initial.t l.i l.t
