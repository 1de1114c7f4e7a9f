-- `rehearsal_output::put_slots` meets its contract: after s turns the nodes of the first s slots are put. Assumes nothing.
use Rattle.std.proofs.Common.{arith, rules, refl}
use Rattle.rehearsal_output.specs.Output.{slot_nodes, slots_lines}
use Rattle.rehearsal_output.proofs.Lines.{within_none, slot_more}
use Rattle.rehearsal_output.proofs.put_slots.Goals as goal

pub loop-s-init : goal.loop-s-init
unfolding slots_lines
loop-s-init c = record { put = within_none _ _; same_buffer = refl }

pub loop-s-preserved : goal.loop-s-preserved
loop-s-preserved c =
    record {
      put = slot_more (slot_nodes c.args.nodes.now) c.loop-s.s c.loop-s.invariant.put c.put_slot.ensures.text (omega (arith, c.requires.room));
      same_buffer = search rules;
    }
