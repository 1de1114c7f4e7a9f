-- An event of the code as one of the model, and what reading one gives.
use Rattle.std.specs.Prelude.{◌≡◌, List, ℕ}
use Rattle.ids.specs.declared.Slot.{Slot}
use Rattle.model.specs.Model.{SlotEvent, Event, start, deliver}
use Rattle.play_events.specs.List.{event_size, event_at}
use Rattle.play_events.specs.declared.PlayEvent.{PlayEvent}
use Rattle.play_events.specs.declared.PlayEvent.TheVariants.{Start, Deliver}
use Rattle.play_events.specs.declared.EventRead.{EventRead}

abbrev pub slot_event : PlayEvent → SlotEvent
slot_event (Start m r x) = start m.0 r.0 x
slot_event (Deliver k m) = deliver k m.0

-- with its slot
abbrev pub model_event : Slot → PlayEvent → Event
model_event s e = record { slot = s.0; event = slot_event e }

-- the event at the front of s with its slot, and how many bytes it takes
pub record ReadsEvent (s : List ℕ) (r : EventRead) : Type 0 where
  pub event_is : model_event r.slot r.event ≡ event_at s
  pub size_is : r.size ≡ event_size s
