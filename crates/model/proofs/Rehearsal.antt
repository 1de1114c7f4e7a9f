-- 01's rehearsal list in the model, short lists with each of the other numbers that an event can get, lists in several slots, and what adds make GHOST. By
-- computation.
-- Assumes nothing.
use mathlib.Core.Path.{◌≡◌, refl}
use mathlib.Core.Bool.{Bool, true, false}
use mathlib.Core.List.{List, [], ◌∷◌, map}
use Prim.Native.Nat.{ℕ}
use lib.ListN.{get_or}
use Rattle.quorum.specs.Count.{some}
use Rattle.tree_theory.specs.Machine.{Call, ADDED, GHOST, COMMITTED, Node, node_of, fresh, answers, add, commit, struck, new_node, find, path_in, commit_node}
use Rattle.tree_theory.specs.Machine.{step}
use Rattle.tree_theory.specs.Machine.{after as after-calls}
use Rattle.tree_theory.specs.Ghosts.{ghosts_made, ghosts_born, at_add, over_adds}
use Rattle.message.specs.declared.Message.{Message}
use Rattle.message.specs.declared.Body.TheVariants.{Start, Join, JoinVoted, Propose, Vote}
use Rattle.message.specs.Layout.{in_slot}
use Rattle.member_record.specs.Record.{round_number, slot_number}
use Rattle.member.specs.Table.{proposal, decision}
use Rattle.model.specs.Model.{Sizes, Event, start, deliver, member_number, first_office, made_in, proposals, office_after, event_answers}
use Rattle.model.specs.Model.{offered}
use Rattle.model.specs.Demand.{calls, ended}
use Rattle.model.specs.Counts.{made_tree, made_ghosts, born_ghosts, sum_below, over_slots, decisions}

-- tables of equal length
abbrev sizes : ℕ → ℕ → Sizes
sizes store rows = record { n = 3; store = store; tables = λ s. rows }

-- s(member, round, offer) and d(message, member), in a slot
abbrev s : ℕ → ℕ → ℕ → ℕ → Event
s slot member round offer = record { slot = slot; event = start member round offer }

abbrev d : ℕ → ℕ → ℕ → Event
d slot message member = record { slot = slot; event = deliver message member }

abbrev answered : Sizes → List Event → List ℕ
answered z es = event_answers z (first_office z.n) es

abbrev rehearsal : List Event
rehearsal =
    s 0 1 1 70 ∷ d 0 0 0 ∷ d 0 0 1 ∷ d 0 1 1 ∷ d 0 1 1 ∷ d 0 2 1 ∷ d 0 3 0 ∷ s 0 2 2 80 ∷
    d 0 5 0 ∷ d 0 5 2 ∷ d 0 7 2 ∷ d 0 6 2 ∷ d 0 3 1 ∷ d 0 4 1 ∷ d 0 9 1 ∷ []

record RehearsalMet : Type 0 where
  answers_are : answered (sizes 1000 64) rehearsal ≡ 0 ∷ 0 ∷ 0 ∷ 0 ∷ 25 ∷ 0 ∷ 0 ∷ 0 ∷ 0 ∷ 0 ∷ 0 ∷ 0 ∷ 0 ∷ 0 ∷ 0 ∷ []
  -- round 2 proposes the value voted for in round 1, behind that round
  calls_are : calls (made_in (ended (sizes 1000 64) rehearsal) 0) ≡ add 1 70 0 ∷ add 2 70 1 ∷ commit 1 ∷ []
  -- the three nodes that 01 prints
  nodes_are : made_tree (sizes 1000 64) (ended (sizes 1000 64) rehearsal) 0 ≡ node_of 0 0 0 COMMITTED ∷ node_of 1 0 70 COMMITTED ∷ node_of 2 1 70 ADDED ∷ []
  offers_are : offered 0 (sizes 1000 64) (first_office 3) rehearsal ≡ 70 ∷ 80 ∷ []
  -- and seven more roots
  roots_are : map (made_tree (sizes 1000 64) (ended (sizes 1000 64) rehearsal)) (1 ∷ 2 ∷ 3 ∷ 4 ∷ 5 ∷ 6 ∷ 7 ∷ []) ≡
      fresh ∷ fresh ∷ fresh ∷ fresh ∷ fresh ∷ fresh ∷ fresh ∷ []

rehearsed : RehearsalMet
unfolding event_answers offered office_after first_office calls after-calls some struck new_node find path_in commit_node
rehearsed = record { answers_are = refl; calls_are = refl; nodes_are = refl; offers_are = refl; roots_are = refl }

-- Member 0 joins round 1, and its JOIN, message 1, is lost. START is delivered to it again, its second JOIN makes the quorum, and the round is
-- decided. Then START comes once more, where the vote is given; and START of round 2 comes twice to member 0, which tells its vote both times.
abbrev lost_join : List Event
lost_join =
    s 0 1 1 70 ∷ d 0 0 0 ∷ d 0 0 1 ∷ d 0 2 1 ∷ d 0 0 0 ∷ d 0 3 1 ∷ d 0 4 0 ∷ d 0 4 1 ∷ d 0 5 1 ∷ d 0 6 1 ∷
    d 0 0 0 ∷ s 0 2 2 80 ∷ d 0 7 0 ∷ d 0 7 0 ∷ d 0 0 0 ∷ []

record LostJoinMet : Type 0 where
  answers_are : answered (sizes 10 9) lost_join ≡ 0 ∷ 0 ∷ 0 ∷ 0 ∷ 0 ∷ 0 ∷ 0 ∷ 0 ∷ 0 ∷ 0 ∷ 22 ∷ 0 ∷ 0 ∷ 0 ∷ 22 ∷ []
  calls_are : calls (made_in (ended (sizes 10 9) lost_join) 0) ≡ add 1 70 0 ∷ commit 1 ∷ []
  sent_are : (ended (sizes 10 9) lost_join).sent ≡ map (in_slot (slot_number 0)) (
      Start (round_number 1) (member_number 1) ∷ Join (round_number 1) (member_number 0) ∷ Join (round_number 1) (member_number 1) ∷
      Join (round_number 1) (member_number 0) ∷ Propose (round_number 1) (member_number 1) 70 ∷ Vote (round_number 1) (member_number 0) ∷
      Vote (round_number 1) (member_number 1) ∷ Start (round_number 2) (member_number 2) ∷
      JoinVoted (round_number 2) (member_number 0) (round_number 1) 70 ∷ JoinVoted (round_number 2) (member_number 0) (round_number 1) 70 ∷ [])

lost_join_met : LostJoinMet
unfolding event_answers office_after first_office calls some
lost_join_met = record { answers_are = refl; calls_are = refl; sent_are = refl }

record NumberListsMet : Type 0 where
  -- rounds 0 and above 1,000,000; a member that doesn't lead the round; the round led already
  starts : answered (sizes 9 9) (s 0 0 0 5 ∷ s 0 1 1000001 5 ∷ s 0 1 2 5 ∷ s 0 1 1 5 ∷ s 0 1 1 5 ∷ []) ≡ 3 ∷ 3 ∷ 19 ∷ 0 ∷ 20 ∷ []
  -- no such member; no message sent yet; a number that is too high by one
  absent : answered (sizes 9 9) (s 0 3 3 5 ∷ d 0 0 0 ∷ s 0 1 1 5 ∷ d 0 1 0 ∷ d 0 0 3 ∷ []) ≡ 29 ∷ 29 ∷ 0 ∷ 29 ∷ 29 ∷ []
  -- START of a round below the one joined; JOIN to a member that didn't start the round
  late : answered (sizes 9 9) (s 0 1 1 5 ∷ s 0 2 2 6 ∷ d 0 1 0 ∷ d 0 0 0 ∷ d 0 2 0 ∷ []) ≡ 0 ∷ 0 ∷ 0 ∷ 22 ∷ 24 ∷ []
  -- the store is full: a step that sends is refused, one that doesn't is not; the refused START leaves the member as it was, and a repeated one
  -- would send too
  full : answered (sizes 3 9) (s 0 1 1 5 ∷ d 0 0 0 ∷ d 0 0 2 ∷ d 0 0 1 ∷ d 0 0 1 ∷ d 0 0 0 ∷ d 0 1 1 ∷ d 0 2 1 ∷ []) ≡
      0 ∷ 0 ∷ 0 ∷ 30 ∷ 30 ∷ 30 ∷ 0 ∷ 30 ∷ []
  -- no row beside the root: a step that proposes is refused with 9
  rowless : answered (sizes 9 1) (s 0 1 1 5 ∷ d 0 0 0 ∷ d 0 0 1 ∷ d 0 1 1 ∷ d 0 2 1 ∷ []) ≡ 0 ∷ 0 ∷ 0 ∷ 0 ∷ 9 ∷ []
  -- one row beside the root: the first proposal takes it
  last_row : answered (sizes 9 2) (s 0 1 1 5 ∷ d 0 0 0 ∷ d 0 0 1 ∷ d 0 1 1 ∷ d 0 2 1 ∷ []) ≡ 0 ∷ 0 ∷ 0 ∷ 0 ∷ 0 ∷ []
  -- 30 before 9
  both : answered (sizes 3 1) (s 0 1 1 5 ∷ d 0 0 0 ∷ d 0 0 1 ∷ d 0 1 1 ∷ d 0 2 1 ∷ []) ≡ 0 ∷ 0 ∷ 0 ∷ 0 ∷ 30 ∷ []
  -- the offer of a refused start isn't offered
  offers : offered 0 (sizes 9 9) (first_office 3) (s 0 1 2 5 ∷ s 0 1 1 6 ∷ s 0 1 1 7 ∷ []) ≡ 6 ∷ []

number_lists : NumberListsMet
unfolding event_answers offered first_office some
number_lists = record { starts = refl; absent = refl; late = refl; full = refl; rowless = refl; last_row = refl; both = refl; offers = refl }

-- Round 1 in slots 0 and 5, event by event in turn: 70 is decided in slot 0 and 80 in slot 5. Message numbers are those of the shared store.
abbrev two_slots : List Event
two_slots =
    s 0 1 1 70 ∷ s 5 1 1 80 ∷ d 0 0 0 ∷ d 5 1 0 ∷ d 0 0 1 ∷ d 5 1 1 ∷ d 0 2 1 ∷ d 5 3 1 ∷ d 0 4 1 ∷ d 5 5 1 ∷
    d 0 6 0 ∷ d 5 7 0 ∷ d 0 6 1 ∷ d 5 7 1 ∷ d 0 8 1 ∷ d 5 9 1 ∷ d 0 10 1 ∷ d 5 11 1 ∷ []

-- slot 0 has no row beside the root, slot 1 has one, the others eight
abbrev unequal : Sizes
unequal = record { n = 3; store = 20; tables = λ s. get_or (1 ∷ 2 ∷ []) s 9 }

record SlotListsMet : Type 0 where
  -- slot 8: 32, whatever the member and the message
  above : answered (sizes 9 9) (s 8 1 1 5 ∷ s 8 3 1 5 ∷ d 8 0 0 ∷ s 7 1 1 5 ∷ s 4294967295 1 1 5 ∷ []) ≡ 32 ∷ 32 ∷ 32 ∷ 0 ∷ 32 ∷ []
  -- a message of another slot: 29 first, then 32, where the member would take it and where it would refuse it
  other : answered (sizes 9 9) (s 0 1 1 5 ∷ d 1 1 0 ∷ d 1 0 3 ∷ d 1 0 0 ∷ d 0 0 0 ∷ d 1 1 1 ∷ d 0 1 1 ∷ []) ≡ 0 ∷ 29 ∷ 29 ∷ 32 ∷ 0 ∷ 32 ∷ 0 ∷ []
  -- each slot by itself
  both_answered : answered (sizes 20 9) two_slots ≡
      0 ∷ 0 ∷ 0 ∷ 0 ∷ 0 ∷ 0 ∷ 0 ∷ 0 ∷ 0 ∷ 0 ∷ 0 ∷ 0 ∷ 0 ∷ 0 ∷ 0 ∷ 0 ∷ 0 ∷ 0 ∷ []
  made_in_0 : made_in (ended (sizes 20 9) two_slots) 0 ≡ proposal 1 70 0 ∷ decision 1 70 ∷ []
  made_in_5 : made_in (ended (sizes 20 9) two_slots) 5 ≡ proposal 1 80 0 ∷ decision 1 80 ∷ []
  made_in_1 : made_in (ended (sizes 20 9) two_slots) 1 ≡ []
  offers_0 : offered 0 (sizes 20 9) (first_office 3) two_slots ≡ 70 ∷ []
  offers_5 : offered 5 (sizes 20 9) (first_office 3) two_slots ≡ 80 ∷ []
  sent_slots : map (λ (g : Message). g.slot.0) (ended (sizes 20 9) two_slots).sent ≡ 0 ∷ 5 ∷ 0 ∷ 5 ∷ 0 ∷ 5 ∷ 0 ∷ 5 ∷ 0 ∷ 5 ∷ 0 ∷ 5 ∷ []
  -- 9 by the slot's own proposals and its own table's rows: slot 0 has none left, slot 1 takes its one
  own_rows : answered unequal (
      s 0 1 1 5 ∷ d 0 0 0 ∷ d 0 0 1 ∷ d 0 1 1 ∷ d 0 2 1 ∷ s 1 1 1 5 ∷ d 1 3 0 ∷ d 1 3 1 ∷ d 1 4 1 ∷ d 1 5 1 ∷
      s 1 2 2 6 ∷ d 1 7 0 ∷ d 1 7 2 ∷ d 1 8 2 ∷ d 1 9 2 ∷ []) ≡ 0 ∷ 0 ∷ 0 ∷ 0 ∷ 9 ∷ 0 ∷ 0 ∷ 0 ∷ 0 ∷ 0 ∷ 0 ∷ 0 ∷ 0 ∷ 0 ∷ 9 ∷ []
  -- sums over the slots have each slot once: here that of their numbers, of proposals, of decisions
  slot_sum : over_slots (λ k. k) ≡ 28
  proposal_sum : over_slots (λ k. proposals (made_in (ended (sizes 20 9) two_slots) k)) ≡ 2
  decision_sum : over_slots (λ k. decisions (made_in (ended (sizes 20 9) two_slots) k)) ≡ 2

slot_lists : SlotListsMet
unfolding event_answers offered office_after first_office some sum_below proposals decisions
slot_lists = record {
  above = refl;
  other = refl;
  both_answered = refl;
  made_in_0 = refl;
  made_in_5 = refl;
  made_in_1 = refl;
  offers_0 = refl;
  offers_5 = refl;
  sent_slots = refl;
  own_rows = refl;
  slot_sum = refl;
  proposal_sum = refl;
  decision_sum = refl;
}

-- how many rounds each call of a list makes GHOST
unfoldable each_ghosts : Bool → List Node → List Call → List ℕ
each_ghosts valued ns [] = []
each_ghosts valued ns (c ∷ cs) = at_add ghosts_made valued 64 ns c ∷ each_ghosts valued (step valued 64 ns c) cs

-- Rounds 1 and 2 stand below the root, one behind the other; a second add of round 2, whose edge crosses round 1, is refused. Round 4 crosses both.
-- Round 3 is born GHOST. Round 5 crosses four rounds, of which 4 alone was ADDED. Round 6 would cross it, and is refused for its value; then, for round
-- 5 is COMMITTED by now, for its edge. A commit makes none GHOST.
abbrev struck_calls : List Call
struck_calls = add 1 5 0 ∷ add 2 5 1 ∷ add 2 5 0 ∷ add 4 6 0 ∷ add 3 5 2 ∷ add 5 7 0 ∷ add 6 8 4 ∷ commit 5 ∷ add 6 6 4 ∷ []

-- Round 1 proposes; before anyone votes, members 0 and 2 join round 2, whose proposal crosses it.
abbrev struck_list : List Event
struck_list =
    s 0 1 1 70 ∷ d 0 0 0 ∷ d 0 0 1 ∷ d 0 1 1 ∷ d 0 2 1 ∷ s 0 2 2 80 ∷ d 0 4 0 ∷ d 0 4 2 ∷ d 0 5 2 ∷ d 0 6 2 ∷ []

-- The JOINs of round 1 come to its leader after round 2 has proposed: the proposal of round 1 is born GHOST.
abbrev born_list : List Event
born_list =
    s 0 1 1 70 ∷ d 0 0 0 ∷ d 0 0 1 ∷ s 0 2 2 80 ∷ d 0 3 0 ∷ d 0 3 2 ∷ d 0 4 2 ∷ d 0 5 2 ∷ d 0 1 1 ∷ d 0 2 1 ∷ []

record GhostsMet : Type 0 where
  values : each_ghosts true fresh struck_calls ≡ 0 ∷ 0 ∷ 0 ∷ 2 ∷ 0 ∷ 1 ∷ 0 ∷ 0 ∷ 0 ∷ []
  numbers : answers true 64 fresh struck_calls ≡ 0 ∷ 0 ∷ 4 ∷ 0 ∷ 0 ∷ 0 ∷ 7 ∷ 0 ∷ 8 ∷ []
  commands : each_ghosts false fresh (add 1 5 0 ∷ add 2 6 1 ∷ add 2 6 0 ∷ add 4 7 0 ∷ add 3 8 2 ∷ add 5 9 0 ∷ []) ≡ 0 ∷ 0 ∷ 0 ∷ 2 ∷ 0 ∷ 1 ∷ []
  sum : over_adds ghosts_made true 64 fresh struck_calls ≡ 3
  born : over_adds ghosts_born true 64 fresh struck_calls ≡ 1
  rehearsal_sum : made_ghosts (sizes 1000 64) (ended (sizes 1000 64) rehearsal) 0 ≡ 0
  struck_tree : made_tree (sizes 9 9) (ended (sizes 9 9) struck_list) 0 ≡ node_of 0 0 0 COMMITTED ∷ node_of 1 0 70 GHOST ∷ node_of 2 0 80 ADDED ∷ []
  struck_sum : made_ghosts (sizes 9 9) (ended (sizes 9 9) struck_list) 0 ≡ 1
  struck_born : born_ghosts (sizes 9 9) (ended (sizes 9 9) struck_list) 0 ≡ 0
  born_tree : made_tree (sizes 9 9) (ended (sizes 9 9) born_list) 0 ≡ node_of 0 0 0 COMMITTED ∷ node_of 2 0 80 ADDED ∷ node_of 1 0 70 GHOST ∷ []
  born_sum : made_ghosts (sizes 9 9) (ended (sizes 9 9) born_list) 0 ≡ 0
  born_born : born_ghosts (sizes 9 9) (ended (sizes 9 9) born_list) 0 ≡ 1

ghosts_met : GhostsMet
unfolding each_ghosts ghosts_made ghosts_born over_adds answers event_answers office_after first_office calls after-calls some struck new_node find path_in commit_node
ghosts_met = record {
  values = refl;
  numbers = refl;
  commands = refl;
  sum = refl;
  born = refl;
  rehearsal_sum = refl;
  struck_tree = refl;
  struck_sum = refl;
  struck_born = refl;
  born_tree = refl;
  born_sum = refl;
  born_born = refl;
}
