-- The ranges of a message's fields (01, "Messages"; 02, ticket 6).
use Rattle.std.specs.Prelude.{Bool, ◌&&◌, not, ltb, leb}
use Rattle.ids.specs.declared.Round.{Round}
use Rattle.ids.specs.declared.Member.{Member}
use Rattle.ids.specs.Ranges.{out_of_range, no_member, no_slot}
use Rattle.message.specs.declared.Body.{Body}
use Rattle.message.specs.declared.Body.TheVariants.{Start, Join, JoinVoted, Propose, Vote}
use Rattle.message.specs.declared.Message.{Message}

-- the round is 1 to 1,000,000 and the sender 0 to 6
abbrev pub head_in_range : Round → Member → Bool
head_in_range r s = not (out_of_range r.0) && not (no_member s.0)

-- a voted round is at least 1 and below the JOIN's round
abbrev pub vote_in_range : Round → Round → Bool
vote_in_range r q = leb 1 q.0 && ltb q.0 r.0

abbrev pub in_range : Body → Bool
in_range (Start r s) = head_in_range r s
in_range (Join r s) = head_in_range r s
in_range (JoinVoted r s q w) = head_in_range r s && vote_in_range r q
in_range (Propose r s v) = head_in_range r s
in_range (Vote r s) = head_in_range r s

-- the slot is 0 to 7 and the fields are in range
abbrev pub message_in_range : Message → Bool
message_in_range m = not (no_slot m.slot.0) && in_range m.body
