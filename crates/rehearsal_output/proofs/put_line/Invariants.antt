-- After i turns the first i numbers are put.
use Rattle.std.proofs.Common.{◌≡◌, take, ◌*◌}
use Rattle.rehearsal_output.specs.Output.{spaced}
use Rattle.rehearsal_output.specs.Promise.{ROOM_FOR_NUMBER, PutWithin}
use Rattle.rehearsal_output.proofs.put_line.Given as goal

abbrev pub invariant-loop-i : goal.invariant-loop-i
invariant-loop-i l = record {
  put : PutWithin l.fn.page.out.now l.fn.page.at (spaced (take l.i l.numbers)) l.page.at l.page.out.now (ROOM_FOR_NUMBER * l.i);
  same_buffer : l.page.out.ghost_name ≡ l.fn.page.out.ghost_name;
}
