-- The layout of an event list (01, "Play"; 02, ticket 6; XDR): the head, which is N and the event count, then the events.
use Rattle.std.specs.Prelude.{Bool, true, false, cond, ◌&&◌, not, List, [], ◌∷◌, ℕ, zero, suc, ◌+◌, ◌*◌, length, drop, leb, eqb}
use Rattle.xdr.specs.Words.{word_at, hyper_at}
use Rattle.model.specs.Model.{Event, start, deliver}
use Rattle.play_events.specs.declared.ListHead.{ListHead}

-- the bytes of the head; the events begin behind it
abbrev pub HEAD_BYTES : ℕ
HEAD_BYTES = 8

abbrev pub members_of : List ℕ → ℕ
members_of list = word_at list 0

abbrev pub count_of : List ℕ → ℕ
count_of list = word_at list 4

abbrev pub head_of : List ℕ → ListHead
head_of list = record { members = members_of list; count = count_of list; begin = HEAD_BYTES }

abbrev pub body : List ℕ → List ℕ
body list = drop HEAD_BYTES list

-- the kinds of events, and how many bytes each takes: kind, slot, member, round, offer; kind, slot, message number, member
abbrev pub EVENT_START : ℕ
EVENT_START = 1

abbrev pub EVENT_DELIVER : ℕ
EVENT_DELIVER = 2

abbrev pub START_BYTES : ℕ
START_BYTES = 24

abbrev pub DELIVER_BYTES : ℕ
DELIVER_BYTES = 16

-- no list has more events
abbrev pub MOST_EVENTS : ℕ
MOST_EVENTS = 1000

-- the longest list that fits: so many starts
abbrev pub LONGEST_LIST : ℕ
LONGEST_LIST = HEAD_BYTES + START_BYTES * MOST_EVENTS

-- the kind and the slot that the event at the front has
abbrev pub event_kind : List ℕ → ℕ
event_kind s = word_at s 0

abbrev pub event_slot : List ℕ → ℕ
event_slot s = word_at s 4

-- an event of this kind, of so many bytes, is at the front
abbrev pub begins_with : ℕ → ℕ → List ℕ → Bool
begins_with kind bytes s = eqb (event_kind s) kind && leb bytes (length s)

-- how many bytes the event at the front takes; 0 where there is none
unfoldable pub event_size : List ℕ → ℕ
event_size s = cond (begins_with EVENT_START START_BYTES s) START_BYTES (cond (begins_with EVENT_DELIVER DELIVER_BYTES s) DELIVER_BYTES 0)

-- the event at the front, of either kind
unfoldable pub event_at : List ℕ → Event
event_at s =
    record {
      slot = event_slot s;
      event = cond (eqb (event_kind s) EVENT_START) (start (word_at s 8) (word_at s 12) (hyper_at s 16)) (deliver (word_at s 8) (word_at s 12));
    }

-- what is left from where the event at the front ends
abbrev pub rest : List ℕ → List ℕ
rest s = drop (event_size s) s

-- what is left behind the first k events
unfoldable pub behind : ℕ → List ℕ → List ℕ
behind zero s = s
behind (suc k) s = behind k (rest s)

-- the first k events
unfoldable pub events_in : ℕ → List ℕ → List Event
unfolding event_size event_at
events_in zero s = []
events_in (suc k) s = event_at s ∷ events_in k (rest s)

abbrev pub empty : List ℕ → Bool
empty [] = true
empty (b ∷ s) = false

-- k events fill the bytes exactly
unfoldable pub exact : ℕ → List ℕ → Bool
unfolding event_size
exact zero s = empty s
exact (suc k) s = not (eqb (event_size s) 0) && exact k (rest s)

-- the count is at most 1,000, and bytes, count and kinds match exactly
unfoldable pub list_fits : List ℕ → Bool
unfolding exact
list_fits list = leb HEAD_BYTES (length list) && (leb (count_of list) MOST_EVENTS && exact (count_of list) (body list))

-- the events of a list
unfoldable pub events_of : List ℕ → List Event
unfolding events_in
events_of list = events_in (count_of list) (body list)
