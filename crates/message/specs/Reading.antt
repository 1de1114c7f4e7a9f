-- What bytes read as: the message row of 01's place table, top to bottom, with 32 behind the first 14 (02, ticket 6).
use Rattle.std.specs.Prelude.{◌≡◌, Bool, cond, ◌&&◌, ◌||◌, not, List, [], ◌∷◌, ℕ, length, ltb, eqb}
use Rattle.laws.specs.First.{Cause, ◌gives◌, first}
use Rattle.ids.specs.declared.Slot.{Slot}
use Rattle.ids.specs.Ranges.{no_slot}
use Rattle.numbers.specs.Numbers.{OK, MESSAGE_LENGTH, MESSAGE_KIND, MESSAGE_FIELD, WRONG_SLOT}
use Rattle.message.specs.declared.Body.{Body}
use Rattle.message.specs.declared.Body.TheVariants.{Start, Join, JoinVoted, Propose, Vote}
use Rattle.message.specs.declared.Message.{Message}
use Rattle.message.specs.Answers.{Read, Got, Refused}
use Rattle.message.specs.Fields.{in_range}
use Rattle.message.specs.Layout.{START_KIND, JOIN_KIND, PROPOSE_KIND, no_kind, kind_end, join_length, byte_count}
use Rattle.message.specs.Layout.{in_slot, slot_in, message_slot, kind_in, message_round, message_sender, presence_in, message_voted, voted_value_in, proposed_in}

-- 01's number of an answer: 0 is OK
abbrev pub read_number : Read → ℕ
read_number (Got m) = OK
read_number (Refused n) = n

abbrev pub is_join : List ℕ → Bool
is_join s = eqb (kind_in s) JOIN_KIND

-- what the message says that bytes of the length of their kind spell
unfoldable pub decoded_body : List ℕ → Body
decoded_body s =
    cond (eqb (kind_in s) START_KIND) (Start (message_round s) (message_sender s))
    (cond (is_join s)
    (cond (eqb (presence_in s) 1) (JoinVoted (message_round s) (message_sender s) (message_voted s) (voted_value_in s))
    (Join (message_round s) (message_sender s)))
    (cond (eqb (kind_in s) PROPOSE_KIND) (Propose (message_round s) (message_sender s) (proposed_in s))
    (Vote (message_round s) (message_sender s))))

-- and the message
unfoldable pub decoded : List ℕ → Message
unfolding decoded_body
decoded s = in_slot (message_slot s) (decoded_body s)

-- the length of a message of this kind and presence
unfoldable pub size : List ℕ → ℕ
size s = byte_count (decoded_body s)

-- too short to tell its slot and its kind
abbrev pub untold : List ℕ → Bool
untold s = ltb (length s) kind_end

-- none of the slots, or any but this one
abbrev pub other_slot : Slot → ℕ → Bool
other_slot own s = no_slot s || not (eqb s own.0)

-- not the length of its kind
abbrev pub inexact : List ℕ → Bool
inexact s = not (eqb (length s) (size s))

-- of a JOIN, before presence, a length without it
abbrev pub wrong_length : List ℕ → Bool
wrong_length s = cond (is_join s) (ltb (length s) join_length) (inexact s)

-- presence is 0 or 1
abbrev pub wrong_presence : List ℕ → Bool
wrong_presence s = is_join s && ltb 1 (presence_in s)

-- what refuses bytes that tell slot and kind, a cause and its number, in order; `wrong` says whether their slot is refused
unfoldable pub told_row : Bool → List ℕ → List Cause
told_row wrong s =
    wrong gives WRONG_SLOT ∷
    no_kind (kind_in s) gives MESSAGE_KIND ∷
    wrong_length s gives MESSAGE_LENGTH ∷
    wrong_presence s gives MESSAGE_FIELD ∷
    inexact s gives MESSAGE_LENGTH ∷
    not (in_range (decoded_body s)) gives MESSAGE_FIELD ∷ []

-- the message row. `wrong` says of a slot whether it is refused: a host's reader refuses those above 7, `no_slot`, and a member these and every one but
-- its own, `other_slot`
unfoldable pub message_row : (ℕ → Bool) → List ℕ → List Cause
unfolding told_row
message_row wrong s = untold s gives MESSAGE_LENGTH ∷ told_row (wrong (slot_in s)) s

-- the answer of a number; 0 comes with the message
abbrev pub read_answer : ℕ → Message → Read
read_answer n m = cond (eqb n OK) (Got m) (Refused n)

-- what a message reads as where only its ranges are open
abbrev pub ranged : Message → Read
ranged m = cond (in_range m.body) (Got m) (Refused MESSAGE_FIELD)

-- what bytes read as that tell slot and kind
unfoldable pub told_reading : Bool → List ℕ → Read
unfolding told_row
told_reading wrong s = read_answer (first (told_row wrong s)) (decoded s)

unfoldable pub reading : (ℕ → Bool) → List ℕ → Read
unfolding message_row
reading wrong s = read_answer (first (message_row wrong s)) (decoded s)

-- the reader's answer, and its number
pub record ReaderGives (wrong : ℕ → Bool) (s : List ℕ) (r : Read) : Type 0 where
  pub answer : r ≡ reading wrong s
  pub number_is : read_number r ≡ first (message_row wrong s)
