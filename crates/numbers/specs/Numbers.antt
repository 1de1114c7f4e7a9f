-- The numbers of 01's place table and of 02, a name and a cause for each, and the rule for a full store or table.
use Rattle.std.specs.Prelude.{Bool, ℕ, leb, Result, Ok, Err}
use Rattle.numbers.specs.declared.Refusal.{Refusal}
use Rattle.numbers.specs.declared.Refusal.TheVariants.{TableLength, NotATree, RoundRange, RoundPresent, ParentAbsent, ParentNotBelow, ValueDiffers, CrossesCommitted, NoFreeRow, RoundAbsent, IsCommitted, IsGhost, PathTooLong, MessageLength, MessageKind, MessageField}
use Rattle.numbers.specs.declared.Refusal.TheVariants.{RecordUnsound, ReplyTooShort, NotLeader, NotAboveLed, WrongSender, MovedPast, AnotherValue, NotAwaited, CountedAlready, ListShape, OfficeSize, StoreOrAnswers, NoMemberOrMessage, StoreFull, LengthsDiffer, WrongSlot}

-- the call is done
abbrev pub OK : ℕ
OK = 0

-- the length of a table is not a multiple of 4 from 4 to 1,024, or the eight lengths of a play do not add up to its words (02, ticket 6)
abbrev pub TABLE_LENGTH : ℕ
TABLE_LENGTH = 1

-- no list of calls leaves the table
abbrev pub NOT_A_TREE : ℕ
NOT_A_TREE = 2

-- a round is 0 (not for path) or above 1,000,000
abbrev pub ROUND_RANGE : ℕ
ROUND_RANGE = 3

-- the round to add is present
abbrev pub ROUND_PRESENT : ℕ
ROUND_PRESENT = 4

-- its parent is absent
abbrev pub PARENT_ABSENT : ℕ
PARENT_ABSENT = 5

-- its parent is not below it
abbrev pub PARENT_NOT_BELOW : ℕ
PARENT_NOT_BELOW = 6

-- its value is not that of its parent
abbrev pub VALUE_DIFFERS : ℕ
VALUE_DIFFERS = 7

-- its edge crosses a COMMITTED round
abbrev pub CROSSES_COMMITTED : ℕ
CROSSES_COMMITTED = 8

-- no row of the table is free, when all else is OK
abbrev pub NO_FREE_ROW : ℕ
NO_FREE_ROW = 9

-- the round is absent
abbrev pub ROUND_ABSENT : ℕ
ROUND_ABSENT = 10

-- the round to commit is COMMITTED
abbrev pub IS_COMMITTED : ℕ
IS_COMMITTED = 11

-- the round to commit is GHOST
abbrev pub IS_GHOST : ℕ
IS_GHOST = 12

-- the slice lent for a path is too short
abbrev pub PATH_TOO_LONG : ℕ
PATH_TOO_LONG = 13

-- a message is under 8 bytes, or not of the length of its kind
abbrev pub MESSAGE_LENGTH : ℕ
MESSAGE_LENGTH = 14

-- the kind of a message is not 1 to 4
abbrev pub MESSAGE_KIND : ℕ
MESSAGE_KIND = 15

-- the presence or another field of a message is out of range
abbrev pub MESSAGE_FIELD : ℕ
MESSAGE_FIELD = 16

-- a record is not sound; of fresh, the slot, the number or N is not allowed
abbrev pub RECORD_UNSOUND : ℕ
RECORD_UNSOUND = 17

-- the reply buffer is shorter than the longest message
abbrev pub REPLY_TOO_SHORT : ℕ
REPLY_TOO_SHORT = 18

-- the member does not lead the round
abbrev pub NOT_LEADER : ℕ
NOT_LEADER = 19

-- the round is not above the one last led
abbrev pub NOT_ABOVE_LED : ℕ
NOT_ABOVE_LED = 20

-- the sender does not lead the round, or is no member
abbrev pub WRONG_SENDER : ℕ
WRONG_SENDER = 21

-- the member has moved past the round
abbrev pub MOVED_PAST : ℕ
MOVED_PAST = 22

-- the member voted for another value in the round
abbrev pub ANOTHER_VALUE : ℕ
ANOTHER_VALUE = 23

-- the message is not awaited
abbrev pub NOT_AWAITED : ℕ
NOT_AWAITED = 24

-- the sender is counted already
abbrev pub COUNTED_ALREADY : ℕ
COUNTED_ALREADY = 25

-- the count is above 1,000, or bytes, count and kinds do not match exactly
abbrev pub LIST_SHAPE : ℕ
LIST_SHAPE = 26

-- N is not 3, 5 or 7
abbrev pub OFFICE_SIZE : ℕ
OFFICE_SIZE = 27

-- the store is not 1 to 2,000 whole rows, or there are too few answer bytes
abbrev pub STORE_OR_ANSWERS : ℕ
STORE_OR_ANSWERS = 28

-- the member is N or above, or no such message was sent
abbrev pub NO_MEMBER_OR_MESSAGE : ℕ
NO_MEMBER_OR_MESSAGE = 29

-- a message would be sent, and the messages sent fill the store
abbrev pub STORE_FULL : ℕ
STORE_FULL = 30

-- the two tables of a preview differ in length (02, ticket 5)
abbrev pub LENGTHS_DIFFER : ℕ
LENGTHS_DIFFER = 31

-- the slot of a message or of an event is above 7, or a message is of another slot (02, ticket 6)
abbrev pub WRONG_SLOT : ℕ
WRONG_SLOT = 32

-- the number of a refusal
abbrev pub refusal_number : Refusal → ℕ
refusal_number TableLength = TABLE_LENGTH
refusal_number NotATree = NOT_A_TREE
refusal_number RoundRange = ROUND_RANGE
refusal_number RoundPresent = ROUND_PRESENT
refusal_number ParentAbsent = PARENT_ABSENT
refusal_number ParentNotBelow = PARENT_NOT_BELOW
refusal_number ValueDiffers = VALUE_DIFFERS
refusal_number CrossesCommitted = CROSSES_COMMITTED
refusal_number NoFreeRow = NO_FREE_ROW
refusal_number RoundAbsent = ROUND_ABSENT
refusal_number IsCommitted = IS_COMMITTED
refusal_number IsGhost = IS_GHOST
refusal_number PathTooLong = PATH_TOO_LONG
refusal_number MessageLength = MESSAGE_LENGTH
refusal_number MessageKind = MESSAGE_KIND
refusal_number MessageField = MESSAGE_FIELD
refusal_number RecordUnsound = RECORD_UNSOUND
refusal_number ReplyTooShort = REPLY_TOO_SHORT
refusal_number NotLeader = NOT_LEADER
refusal_number NotAboveLed = NOT_ABOVE_LED
refusal_number WrongSender = WRONG_SENDER
refusal_number MovedPast = MOVED_PAST
refusal_number AnotherValue = ANOTHER_VALUE
refusal_number NotAwaited = NOT_AWAITED
refusal_number CountedAlready = COUNTED_ALREADY
refusal_number ListShape = LIST_SHAPE
refusal_number OfficeSize = OFFICE_SIZE
refusal_number StoreOrAnswers = STORE_OR_ANSWERS
refusal_number NoMemberOrMessage = NO_MEMBER_OR_MESSAGE
refusal_number StoreFull = STORE_FULL
refusal_number LengthsDiffer = LENGTHS_DIFFER
refusal_number WrongSlot = WRONG_SLOT

-- the number of an answer: 0 where the call is done
abbrev pub number_of : {A : Type 0} → Result A Refusal → ℕ
number_of (Ok a) = OK
number_of (Err e) = refusal_number e

-- no row is left where so many of so many are used: the cause of 9 and of 30
abbrev pub no_row_left : ℕ → ℕ → Bool
no_row_left rows used = leb rows used
