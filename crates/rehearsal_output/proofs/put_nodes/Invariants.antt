-- After i turns the first i rows are put.
use Rattle.std.proofs.Common.{◌≡◌, ◌*◌}
use Rattle.tree_theory.specs.Table.{rows_of}
use Rattle.rehearsal_output.specs.Output.{node_lines}
use Rattle.rehearsal_output.specs.Promise.{ROOM_FOR_NODE, PutWithin}
use Rattle.rehearsal_output.proofs.put_nodes.Given as goal

abbrev pub invariant-loop-i : goal.invariant-loop-i
invariant-loop-i l = record {
  put : PutWithin l.fn.page.out.now l.fn.page.at (node_lines (rows_of l.nodes l.i)) l.page.at l.page.out.now (ROOM_FOR_NODE * l.i);
  same_buffer : l.page.out.ghost_name ≡ l.fn.page.out.ghost_name;
}
