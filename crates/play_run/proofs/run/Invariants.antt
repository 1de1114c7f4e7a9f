-- After k turns the memory represents the model after k events.
use Rattle.play_run.specs.Lent.{as_lent}
use Rattle.play_run.proofs.Running.{Running}
use Rattle.play_run.proofs.run.Given as goal

abbrev pub invariant-loop-k : goal.invariant-loop-k
invariant-loop-k l =
    Running l.fn.list l.fn.lengths (as_lent l.initial.messages l.initial.nodes l.initial.answered) l.count
    (as_lent l.messages l.nodes l.answered) l.rounds l.leads l.tally l.accepted l.at l.k
