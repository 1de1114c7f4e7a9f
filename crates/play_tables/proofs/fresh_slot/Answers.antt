-- `play_tables::fresh_slot`: what it lends is table s, and what that leaves stands in its place.
use Rattle.std.proofs.Common.{ap, ◌∙◌}
use Rattle.play_tables.specs.Tables.{with_table}
use Rattle.play_tables.proofs.Fresh.{root_left}
use Rattle.play_tables.proofs.Parts.{lent_table, given_back}
use Rattle.play_tables.proofs.fresh_slot.Goals as goal

pub returns : goal.returns
returns c =
    let (s_in, fit, starts, zeros) = c.requires in
    let start = starts.each c.args.s s_in in
    given_back fit s_in start c.write_root.new.t ∙
    ap (with_table c.args.lengths.now c.args.nodes.now c.args.s) (root_left fit s_in (lent_table fit s_in start) c.write_root.ensures)
