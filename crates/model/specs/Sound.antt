-- What a step of an event needs of the state that it starts from, whatever led there.
use Rattle.std.specs.Prelude.{◌≡◌, true, List, ℕ, ◌≤◌, ◌<◌, length}
use Rattle.laws.specs.Lists.{◌∈◌}
use Rattle.laws.specs.Widths.{BELOW_64_BITS}
use Rattle.ids.specs.Ranges.{SLOTS}
use Rattle.tree_theory.specs.Properties.{AllOk}
use Rattle.message.specs.declared.Message.{Message}
use Rattle.message.specs.Fields.{message_in_range}
use Rattle.message.specs.Layout.{ValueFits}
use Rattle.member_record.specs.declared.MemberState.{MemberState}
use Rattle.member_record.specs.Record.{sound, slot_number}
use Rattle.model.specs.Model.{Sizes, SlotEvent, Event, start, deliver, Office, member_number, slot_at, made_in, member_at}
use Rattle.model.specs.Demand.{calls}

-- an offer is a 64-bit number
abbrev pub SmallOffer : SlotEvent → Type 0
SmallOffer (start m r x) = x < BELOW_64_BITS
SmallOffer (deliver k m) = Unit {0}

-- each offer of a start is
abbrev pub SmallOffers : List Event → Type 0
SmallOffers es = (e : Event) → e ∈ es → SmallOffer e.event

-- member t of slot s in an office of n
pub record SoundMember (n s t : ℕ) (m : MemberState) : Type 0 where
  pub is_sound : sound m ≡ true
  pub seven : length m.lead.flags ≡ 7
  pub who_is : m.who ≡ record { slot = slot_number s; me = member_number t; n = n }

pub record SoundOffice (z : Sizes) (o : Office) : Type 0 where
  -- eight slots, each with N members, each of which is sound
  pub eight : length o.slots ≡ SLOTS
  pub count : (s : ℕ) → s < SLOTS → length (slot_at o s).members ≡ z.n
  pub each : (s t : ℕ) → s < SLOTS → t < z.n → SoundMember z.n s t (member_at z o s t)
  -- each message sent is within the ranges of its slot and kind and reads back as it was written, and the messages fit the store
  pub ranged : (g : Message) → g ∈ o.sent → message_in_range g ≡ true
  pub readable : (g : Message) → g ∈ o.sent → ValueFits g.body
  pub fits : length o.sent ≤ z.store
  -- the calls of what a slot made all get OK: the table that they leave is a tree with a row for each proposal
  pub all_ok : (s : ℕ) → s < SLOTS → AllOk true (z.tables s) (calls (made_in o s))
