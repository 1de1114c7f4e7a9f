-- What is told of the event at the front: its kind, if it is one of the two, and how many bytes it takes, if there is one.
use Rattle.std.specs.Prelude.{Option, Some, None, ℕ, cond, eqb}
use Rattle.play_events.specs.List.{EVENT_START, EVENT_DELIVER}
use Rattle.play_events.specs.declared.EventKind.{EventKind}
use Rattle.play_events.specs.declared.EventKind.TheVariants.{Start, Deliver}

abbrev pub kind_told : ℕ → Option EventKind
kind_told n = cond (eqb n EVENT_START) (Some Start) (cond (eqb n EVENT_DELIVER) (Some Deliver) None)

abbrev pub size_told : ℕ → Option ℕ
size_told n = cond (eqb n 0) None (Some n)
