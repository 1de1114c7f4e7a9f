-- `play_tables::first_unsized`: the first slot is the first of those from s on.
use Rattle.std.proofs.Common.{◌≡◌, ◌-◌}
use Rattle.ids.specs.Ranges.{SLOTS}
use Rattle.play_tables.specs.Tables.{unsized_from, first_unsized}
use Rattle.play_tables.proofs.first_unsized.Given as goal

abbrev pub invariant-loop-s : goal.invariant-loop-s
invariant-loop-s l = first_unsized l.lengths ≡ unsized_from l.lengths (SLOTS - l.s) l.s
