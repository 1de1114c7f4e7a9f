-- `rehearsal_output::put_slot` meets its contract: what it lends is the table of the slot. Assumes nothing.
use Rattle.std.proofs.Common.{arith, ◌*◌}
use Rattle.tree_theory.specs.Table.{used}
use Rattle.play_tables.specs.Tables.{table_at}
use Rattle.rehearsal_output.specs.Output.{rehearsal_lengths}
use Rattle.rehearsal_output.specs.Promise.{ROOM_FOR_NODE, ROOM_FOR_SLOT}
use Rattle.rehearsal_output.proofs.Lines.{within_wider}
use Rattle.rehearsal_output.proofs.Tables.{lent_part, room_enough}
use Rattle.rehearsal_output.proofs.put_slot.Goals as goal

pub put_nodes-requires : goal.put_nodes-requires
put_nodes-requires c =
    let F = c.requires in
    let nodes = c.args.nodes.now in
    rw (lent_part nodes F.slot) (omega (arith, F.room, room_enough nodes F.slot F.words))

pub returns-clause-text : goal.returns-clause-text
returns-clause-text c =
    let F = c.requires in
    let nodes = c.args.nodes.now in
    within_wider (ROOM_FOR_NODE * used (table_at rehearsal_lengths nodes c.args.s)) ROOM_FOR_SLOT (rw (lent_part nodes F.slot) at c.put_nodes.ensures.text)
    (room_enough nodes F.slot F.words)
