-- After s turns the nodes of the first s slots are put.
use Rattle.std.proofs.Common.{◌≡◌, ◌*◌}
use Rattle.rehearsal_output.specs.Output.{slot_nodes, slots_lines}
use Rattle.rehearsal_output.specs.Promise.{ROOM_FOR_SLOT, PutWithin}
use Rattle.rehearsal_output.proofs.put_slots.Given as goal

abbrev pub invariant-loop-s : goal.invariant-loop-s
invariant-loop-s l = record {
  put : PutWithin l.fn.page.out.now l.fn.page.at (slots_lines (slot_nodes l.nodes) l.s) l.page.at l.page.out.now (ROOM_FOR_SLOT * l.s);
  same_buffer : l.page.out.ghost_name ≡ l.fn.page.out.ghost_name;
}
