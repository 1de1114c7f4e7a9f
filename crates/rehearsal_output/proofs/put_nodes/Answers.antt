-- `rehearsal_output::put_nodes` meets its contract: after i turns the first i rows are put. Assumes nothing.
use Rattle.std.proofs.Common.{arith, rules, refl, ◌*◌}
use Rattle.tree_theory.specs.Table.{rows_of}
use Rattle.tree_theory.proofs.Words.{used_rows}
use Rattle.rehearsal_output.specs.Output.{node_lines}
use Rattle.rehearsal_output.specs.Promise.{ROOM_FOR_NODE}
use Rattle.rehearsal_output.proofs.Lines.{within_none, within_room, node_more}
use Rattle.rehearsal_output.proofs.put_nodes.Goals as goal

pub loop-i-init : goal.loop-i-init
unfolding node_lines rows_of
loop-i-init c = record { put = within_none _ _; same_buffer = refl }

pub put_node-requires : goal.put_node-requires
put_node-requires c = (
  omega (arith, c.used_rows-i-end.ensures, used_rows c.args.nodes.now),
  within_room (ROOM_FOR_NODE * c.loop-i.i) ROOM_FOR_NODE c.loop-i.invariant.put (omega (arith, c.requires, c.used_rows-i-end.ensures)),
)

pub loop-i-preserved : goal.loop-i-preserved
loop-i-preserved c =
    record {
      put = node_more c.args.nodes.now c.loop-i.i c.loop-i.invariant.put c.put_node.ensures.text (omega (arith, c.requires, c.used_rows-i-end.ensures));
      same_buffer = search rules;
    }
