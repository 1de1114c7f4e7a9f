-- `tree_table::copy_rows`: what one turn adds, and what all leave.
use Rattle.std.proofs.Common.{arith}
use Rattle.tree_table.proofs.Copying.{copied_none, copied_more}
use Rattle.tree_table.proofs.copy_rows.Goals as goal

pub loop-word-init : goal.loop-word-init
loop-word-init c = copied_none _ _

pub loop-word-preserved : goal.loop-word-preserved
loop-word-preserved c = copied_more c.loop-word.invariant (omega arith) (omega arith)
