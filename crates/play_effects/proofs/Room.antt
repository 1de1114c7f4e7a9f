-- A store that isn't full has the row of the next message. Assumes nothing.
use mathlib.Core.Path.{◌≡◌}
use mathlib.Core.Bool.{false}
use mathlib.Core.List.{List}
use Prim.Native.Nat.{ℕ}
use Rattle.laws.specs.Tests.{tests}
use Rattle.play_store.specs.Rows.{HasRow}
use Rattle.play_effects.specs.declared.Tally.{Tally}
use Rattle.play_effects.specs.Effects.{no_room_to_send}

pub row_free : (t : Tally) (store : List ℕ) → no_room_to_send t store ≡ false → HasRow store t.sent
row_free t store h = omega tests
