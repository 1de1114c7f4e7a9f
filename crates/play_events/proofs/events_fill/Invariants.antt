-- `play_events::events_fill`: the events from byte 8 fill the list exactly if those still due fill what is left.
use Rattle.std.proofs.Common.{◌≡◌, ◌-◌, ◌≤◌, length, drop}
use Rattle.play_events.specs.List.{exact, body}
use Rattle.play_events.proofs.events_fill.Given as goal

abbrev pub invariant-loop-k : goal.invariant-loop-k
invariant-loop-k l = (l.at ≤ length l.list) × (exact l.count (body l.list) ≡ exact (l.count - l.k) (drop l.at l.list))
