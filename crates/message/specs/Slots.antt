-- Slots in messages, in the words of 02, ticket 6: where the slot word stands, when a slot is looked at, by readers and by the writer, and what a
-- member's reader takes beside a host's.
use Rattle.std.specs.Prelude.{◌≡◌, Bool, true, List, ℕ, ◌≤◌, ◌<◌, length, take}
use Rattle.laws.specs.First.{first}
use Rattle.ids.specs.declared.Slot.{Slot}
use Rattle.ids.specs.Ranges.{no_slot}
use Rattle.xdr.specs.Words.{word, word_at}
use Rattle.message.specs.declared.Message.{Message}
use Rattle.message.specs.Answers.{Got, Refused}
use Rattle.message.specs.Layout.{bytes}
use Rattle.message.specs.Reading.{other_slot, message_row, reading}
use Rattle.message.specs.Writing.{writer_row}

-- every message starts with its slot word
abbrev pub StartsWithSlot : Type 0
StartsWithSlot = (m : Message) → take 4 (bytes m) ≡ word m.slot.0

-- under 8 bytes: 14, whatever the slot; else a first word that is refused: 32, whatever the kind and all behind it
pub record SlotBeforeKind (wrong : ℕ → Bool) (s : List ℕ) : Type 0 where
  pub short : length s < 8 → first (message_row wrong s) ≡ 14
  pub refused : 8 ≤ length s → wrong (word_at s 0) ≡ true → first (message_row wrong s) ≡ 32

-- in a buffer of 32 bytes or more, a slot above 7 gets 32, whatever the message says
abbrev pub WriterRefusesSlot : Type 0
WriterRefusesSlot = (m : Message) (old : List ℕ) → 32 ≤ length old → 7 < m.slot.0 → first (writer_row m old) ≡ 32

-- of the messages that a host's reader takes, a member takes those of its slot, whichever that is, and nothing else: the others get 32
pub record TakesOwn (own : Slot) (s : List ℕ) (m : Message) : Type 0 where
  pub own_alone : reading (other_slot own) s ≡ Got m → (reading no_slot s ≡ Got m) × (m.slot ≡ own)
  pub every_own : reading no_slot s ≡ Got m → m.slot ≡ own → reading (other_slot own) s ≡ Got m
  pub others_refused : reading no_slot s ≡ Got m → (m.slot ≡ own → ⊥) → reading (other_slot own) s ≡ Refused 32

abbrev pub MembersTakeOwn : Type 0
MembersTakeOwn = (own : Slot) (s : List ℕ) (m : Message) → TakesOwn own s m

-- bytes that start with its slot read for a member as for a host, refused ones too
abbrev pub MembersReadOwn : Type 0
MembersReadOwn = (own : Slot) (s : List ℕ) → word_at s 0 ≡ own.0 → reading (other_slot own) s ≡ reading no_slot s
