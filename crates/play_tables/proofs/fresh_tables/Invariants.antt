-- `play_tables::fresh_tables`: a turn for each table.
use Rattle.play_tables.proofs.Fresh.{FreshTo}
use Rattle.play_tables.proofs.fresh_tables.Given as goal

abbrev pub invariant-loop-slot : goal.invariant-loop-slot
invariant-loop-slot l = FreshTo l.lengths l.initial.nodes l.slot l.nodes
