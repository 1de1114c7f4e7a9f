-- `tree_table::copy_rows`: after i turns the first i words are those of the table, and the rest is as it was.
use Rattle.tree_table.proofs.Copying.{Copied}
use Rattle.tree_table.proofs.copy_rows.Given as goal

abbrev pub invariant-loop-word : goal.invariant-loop-word
invariant-loop-word l = Copied l.t l.initial.to l.word l.to
