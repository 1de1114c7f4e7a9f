-- The layout of a message (01, "Messages"; 02, ticket 6): its numbers in order, their places, and how many bytes they are. A change of the layout is made here.
use Rattle.std.specs.Prelude.{Bool, ◌||◌, List, [], ◌∷◌, ◌++◌, ℕ, ◌+◌, ◌<◌, ltb, eqb}
use Rattle.laws.specs.Widths.{BELOW_64_BITS}
use Rattle.ids.specs.declared.Round.{Round}
use Rattle.ids.specs.declared.Member.{Member}
use Rattle.ids.specs.declared.Slot.{Slot}
use Rattle.xdr.specs.Words.{word_at, hyper_at}
use Rattle.xdr.specs.Items.{Item, integer, long, encoded}
use Rattle.message.specs.declared.Body.{Body}
use Rattle.message.specs.declared.Body.TheVariants.{Start, Join, JoinVoted, Propose, Vote}
use Rattle.message.specs.declared.Message.{Message}

-- what is said in a slot, as a message
abbrev pub in_slot : Slot → Body → Message
in_slot i b = record { slot = i; body = b }

-- the kinds
abbrev pub START_KIND : ℕ
START_KIND = 1

abbrev pub JOIN_KIND : ℕ
JOIN_KIND = 2

abbrev pub PROPOSE_KIND : ℕ
PROPOSE_KIND = 3

abbrev pub VOTE_KIND : ℕ
VOTE_KIND = 4

-- none of them
abbrev pub no_kind : ℕ → Bool
no_kind k = eqb k 0 || ltb VOTE_KIND k

-- what every message starts with: slot, kind, round, sender
abbrev pub head : Slot → ℕ → Round → Member → List Item
head i k r s = integer i.0 ∷ integer k ∷ integer r.0 ∷ integer s.0 ∷ []

-- the layout of what is said in a slot; a JOIN has a presence word, and behind a presence of 1 the voted round and the value
unfoldable pub layout_in : Slot → Body → List Item
layout_in i (Start r s) = head i START_KIND r s
layout_in i (Join r s) = head i JOIN_KIND r s ++ integer 0 ∷ []
layout_in i (JoinVoted r s q w) = head i JOIN_KIND r s ++ integer 1 ∷ integer q.0 ∷ long w ∷ []
layout_in i (Propose r s v) = head i PROPOSE_KIND r s ++ long v ∷ []
layout_in i (Vote r s) = head i VOTE_KIND r s

unfoldable pub layout : Message → List Item
unfolding layout_in
layout m = layout_in m.slot m.body

unfoldable pub bytes : Message → List ℕ
unfolding layout
bytes m = encoded (layout m)

-- the place of each number
abbrev pub slot_place : ℕ
slot_place = 0

abbrev pub kind_place : ℕ
kind_place = slot_place + 4

abbrev pub round_place : ℕ
round_place = kind_place + 4

abbrev pub sender_place : ℕ
sender_place = round_place + 4

abbrev pub presence_place : ℕ
presence_place = sender_place + 4

abbrev pub voted_place : ℕ
voted_place = presence_place + 4

abbrev pub voted_value_place : ℕ
voted_value_place = voted_place + 4

abbrev pub proposed_place : ℕ
proposed_place = sender_place + 4

-- where the kind ends: as many bytes tell slot and kind
abbrev pub kind_end : ℕ
kind_end = kind_place + 4

-- the bytes of what every message starts with, which is all of a START and of a VOTE
abbrev pub head_length : ℕ
head_length = sender_place + 4

-- of a JOIN without a vote
abbrev pub join_length : ℕ
join_length = presence_place + 4

-- of a JOIN with a vote
abbrev pub join_voted_length : ℕ
join_voted_length = voted_value_place + 8

-- of a PROPOSE
abbrev pub propose_length : ℕ
propose_length = proposed_place + 8

-- of the longest message
abbrev pub longest_message : ℕ
longest_message = join_voted_length

-- how many bytes the message is that says this, slot and kind too
abbrev pub byte_count : Body → ℕ
byte_count (Start r s) = head_length
byte_count (Join r s) = join_length
byte_count (JoinVoted r s q w) = join_voted_length
byte_count (Propose r s v) = propose_length
byte_count (Vote r s) = head_length

-- the numbers that stand at these places
abbrev pub slot_in : List ℕ → ℕ
slot_in s = word_at s slot_place

abbrev pub message_slot : List ℕ → Slot
message_slot s = record { 0 = slot_in s }

abbrev pub kind_in : List ℕ → ℕ
kind_in s = word_at s kind_place

abbrev pub round_in : List ℕ → ℕ → Round
round_in s at = record { 0 = word_at s at }

abbrev pub message_round : List ℕ → Round
message_round s = round_in s round_place

abbrev pub message_sender : List ℕ → Member
message_sender s = record { 0 = word_at s sender_place }

abbrev pub presence_in : List ℕ → ℕ
presence_in s = word_at s presence_place

abbrev pub message_voted : List ℕ → Round
message_voted s = round_in s voted_place

abbrev pub voted_value_in : List ℕ → ℕ
voted_value_in s = hyper_at s voted_value_place

abbrev pub proposed_in : List ℕ → ℕ
proposed_in s = hyper_at s proposed_place

-- a value is a 64-bit number, as its type in the code says
abbrev pub ValueFits : Body → Type 0
ValueFits (Start r s) = Unit {0}
ValueFits (Join r s) = Unit {0}
ValueFits (JoinVoted r s q w) = w < BELOW_64_BITS
ValueFits (Propose r s v) = v < BELOW_64_BITS
ValueFits (Vote r s) = Unit {0}
