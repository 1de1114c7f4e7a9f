-- `play_tables::starts_of`: each start is the sum of the lengths before it.
use Rattle.play_tables.proofs.Starts.{StartsTo}
use Rattle.play_tables.proofs.starts_of.Given as goal

abbrev pub invariant-loop-i : goal.invariant-loop-i
invariant-loop-i l = StartsTo l.lengths l.i l.starts l.a
