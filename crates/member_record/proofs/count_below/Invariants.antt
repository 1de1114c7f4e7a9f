-- After i turns the count is that of the members below i.
use Rattle.std.proofs.Common.{◌≡◌, ◌≤◌}
use Rattle.quorum.specs.Count.{count}
use Rattle.member_record.specs.Record.{flag}
use Rattle.member_record.proofs.count_below.Given as goal

abbrev pub invariant-loop-flag : goal.invariant-loop-flag
invariant-loop-flag l = record { at_most : l.counted ≤ l.flag-index; counted : l.counted ≡ count (flag l.fn.flags) l.flag-index }
