-- What the rehearsal's function promises, and what it is lent inside.
use Rattle.std.specs.Prelude.{◌≡◌, List, ◌++◌, ℕ, ◌+◌, ◌*◌, ◌≤◌, ◌<◌, length, drop}
use Rattle.ids.specs.Ranges.{SLOTS}
use Rattle.decimal.specs.Text.{PutText}
use Rattle.play_events.specs.List.{MOST_EVENTS}
use Rattle.play_store.specs.Rows.{row_length}
use Rattle.rehearsal_output.specs.Output.{REHEARSAL_TABLE_ROWS, REHEARSAL_TABLE_WORDS, REHEARSAL_STORE_ROWS, rehearsal_output}

-- the output stands at the front, bytes behind it stay, and its length is answered
pub record Printed (list old : List ℕ) (n : ℕ) (new : List ℕ) : Type 0 where
  pub length_is : n ≡ length (rehearsal_output list)
  pub bytes_are : new ≡ rehearsal_output list ++ drop n old
  -- for who takes that part of them
  pub within : n ≤ length new

-- text put at a place, and how long it is at most
pub record PutWithin (old : List ℕ) (at : ℕ) (text : List ℕ) (next : ℕ) (new : List ℕ) (most : ℕ) : Type 0 where
  pub put : PutText old at text next new
  pub within : length text ≤ most

-- room for an answer: a blank, and the three digits of a byte
abbrev pub ROOM_FOR_ANSWER : ℕ
ROOM_FOR_ANSWER = 4

-- room for a number of 64 bits: a blank, and its 20 digits
abbrev pub ROOM_FOR_NUMBER : ℕ
ROOM_FOR_NUMBER = 21

-- room for a node: four numbers and a line feed
abbrev pub ROOM_FOR_NODE : ℕ
ROOM_FOR_NODE = 4 * ROOM_FOR_NUMBER + 1

-- room for the nodes of a slot, and for those of all slots
abbrev pub ROOM_FOR_SLOT : ℕ
ROOM_FOR_SLOT = ROOM_FOR_NODE * REHEARSAL_TABLE_ROWS

abbrev pub ROOM_FOR_SLOTS : ℕ
ROOM_FOR_SLOTS = ROOM_FOR_SLOT * SLOTS

-- room for any output: the answers, a line feed, the nodes of all slots
abbrev pub ROOM_FOR_OUTPUT : ℕ
ROOM_FOR_OUTPUT = ROOM_FOR_ANSWER * MOST_EVENTS + 1 + ROOM_FOR_SLOTS

-- the words of the eight tables
abbrev pub REHEARSAL_WORDS : ℕ
REHEARSAL_WORDS = REHEARSAL_TABLE_WORDS * SLOTS

-- 1,000 store rows, 64 table rows for each slot, an answer byte for each event, room for any output
pub record RehearsalLent (messages nodes answered out : List ℕ) : Type 0 where
  pub store_length : length messages ≡ row_length * REHEARSAL_STORE_ROWS
  pub tables_length : length nodes ≡ REHEARSAL_WORDS
  pub answers_length : length answered ≡ MOST_EVENTS
  pub room : ROOM_FOR_OUTPUT ≤ length out

-- a slot of the eight, and room for its nodes
pub record SlotFits (nodes : List ℕ) (s at : ℕ) (out : List ℕ) : Type 0 where
  pub slot : s < SLOTS
  pub words : length nodes ≡ REHEARSAL_WORDS
  pub room : at + ROOM_FOR_SLOT ≤ length out

-- room for the nodes of all slots
pub record SlotsFit (nodes : List ℕ) (at : ℕ) (out : List ℕ) : Type 0 where
  pub words : length nodes ≡ REHEARSAL_WORDS
  pub room : at + ROOM_FOR_SLOTS ≤ length out

-- answers and nodes for which there is room
pub record TakenFits (count : ℕ) (answered nodes : List ℕ) (at : ℕ) (out : List ℕ) : Type 0 where
  pub few : count ≤ MOST_EVENTS
  pub said : count ≤ length answered
  pub words : length nodes ≡ REHEARSAL_WORDS
  pub room : at + ROOM_FOR_OUTPUT ≤ length out
