-- `tree_crossing::look::look_over`: after each turn what is held is what the rows passed say.
use Rattle.std.proofs.Common.{◌≡◌}
use Rattle.tree_crossing.proofs.Looking.{Walked}
use Rattle.tree_crossing.proofs.look.look_over.Given as goal

abbrev pub invariant-loop-i : goal.invariant-loop-i
invariant-loop-i l = record { counted : l.l.used ≡ l.i; walked : Walked l.t l.r l.p l.l }
