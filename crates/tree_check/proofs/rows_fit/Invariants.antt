-- `tree_check::rows_fit`: every row passed fits.
use Rattle.tree_check.proofs.Fits.{Fitted}
use Rattle.tree_check.proofs.rows_fit.Given as goal

abbrev pub invariant-loop-i : goal.invariant-loop-i
invariant-loop-i l = Fitted l.valued l.t l.n l.i
