-- What the writer answers and leaves (01, "Messages", and the buffer and message rows of the place table; 02, ticket 6).
use Rattle.std.specs.Prelude.{◌≡◌, Bool, cond, not, List, [], ◌∷◌, ◌++◌, ℕ, length, drop, ltb, eqb}
use Rattle.laws.specs.First.{Cause, ◌gives◌, first}
use Rattle.ids.specs.Ranges.{no_slot}
use Rattle.numbers.specs.Numbers.{OK, REPLY_TOO_SHORT, MESSAGE_FIELD, WRONG_SLOT}
use Rattle.message.specs.declared.Message.{Message}
use Rattle.message.specs.Answers.{Written}
use Rattle.message.specs.Fields.{in_range}
use Rattle.message.specs.Layout.{bytes, longest_message}

-- a buffer of n bytes has no room for the longest message
abbrev pub short_buffer : ℕ → Bool
short_buffer n = ltb n longest_message

-- for a buffer of n bytes: its cause, then that of the slot, and then that of the fields
abbrev pub buffer_row : Message → ℕ → List Cause
buffer_row m n =
    short_buffer n gives REPLY_TOO_SHORT ∷
    no_slot m.slot.0 gives WRONG_SLOT ∷
    not (in_range m.body) gives MESSAGE_FIELD ∷ []

abbrev pub writer_row : Message → List ℕ → List Cause
writer_row m old = buffer_row m (length old)

-- the number; the length is that of the message, and 0 with a refusal
unfoldable pub writing : Message → List ℕ → Written
writing m old = record { number = first (writer_row m old); length = cond (eqb (first (writer_row m old)) OK) (length (bytes m)) 0 }

-- the message at the front, and the bytes behind it as they were
unfoldable pub in_front : Message → List ℕ → List ℕ
in_front m old = bytes m ++ drop (length (bytes m)) old

-- the buffer after the call: a refusal leaves it as it was
unfoldable pub buffer_after : Message → List ℕ → List ℕ
buffer_after m old = cond (eqb (first (writer_row m old)) OK) (in_front m old) old

-- the writer's answer, and the buffer after it
pub record WriterLeaves (m : Message) (old : List ℕ) (r : Written) (new : List ℕ) : Type 0 where
  pub answer : r ≡ writing m old
  pub buffer : new ≡ buffer_after m old
