-- The model (01, "The model"; 02, ticket 6): eight slots, each with members 0 to N−1 and one sequence of proposals and decisions; and the messages
-- sent, which the slots share. Of the tables it has the numbers of rows alone.
use Rattle.std.specs.Prelude.{Bool, true, false, cond, ◌&&◌, ◌||◌, not, List, [], ◌∷◌, ◌++◌, map, ℕ, zero, suc, length, get_or, set, leb, eqb}
use Rattle.laws.specs.First.{Cause, ◌gives◌, first}
use Rattle.ids.specs.declared.Member.{Member}
use Rattle.ids.specs.Ranges.{SLOTS, no_slot}
use Rattle.numbers.specs.Numbers.{OK, NO_FREE_ROW, NO_MEMBER_OR_MESSAGE, STORE_FULL, WRONG_SLOT, no_row_left}
use Rattle.message.specs.declared.Body.{Body}
use Rattle.message.specs.declared.Body.TheVariants.{Start}
use Rattle.message.specs.declared.Message.{Message}
use Rattle.message.specs.Layout.{in_slot}
use Rattle.member_record.specs.declared.MemberState.{MemberState}
use Rattle.member_record.specs.Record.{fresh_record, round_number, slot_number}
use Rattle.member.specs.Table.{Named, nothing, proposal, decision, Outcome, member_step}
use Rattle.member.specs.Table.{MemberEvent, starts, delivers}

-- what the model is fed beside the events: N, the rows of the store, and those of each slot's table
pub record Sizes : Type 0 where
  pub n : ℕ
  pub store : ℕ
  pub tables : ℕ → ℕ

-- an event of a slot
pub data SlotEvent : Type 0 where
  start : (member round_number offer : ℕ) → SlotEvent
  deliver : (message member : ℕ) → SlotEvent

-- an event of a list
pub record Event : Type 0 where
  pub slot : ℕ
  pub event : SlotEvent

-- what the model keeps of a slot
pub record SlotState : Type 0 where
  pub members : List MemberState
  pub made : List Named

-- what the model keeps
pub record Office : Type 0 where
  pub slots : List SlotState
  pub sent : List Message

abbrev pub member_number : ℕ → Member
member_number k = record { 0 = k }

-- the fresh members of slot s from k on, d of them
unfoldable pub fresh_members : ℕ → ℕ → ℕ → ℕ → List MemberState
fresh_members s n k zero = []
fresh_members s n k (suc d) = fresh_record (slot_number s) (member_number k) n ∷ fresh_members s n (suc k) d

-- the fresh slots from s on, d of them
unfoldable pub fresh_slots : ℕ → ℕ → ℕ → List SlotState
unfolding fresh_members
fresh_slots n s zero = []
fresh_slots n s (suc d) = record { members = fresh_members s n 0 n; made = [] } ∷ fresh_slots n (suc s) d

-- at first the members are fresh and the rest is empty
unfoldable pub first_office : ℕ → Office
unfolding fresh_slots
first_office n = record { slots = fresh_slots n 0 SLOTS; sent = [] }

-- slot s; above 7, which gets 32, one without members stands in
abbrev pub slot_at : Office → ℕ → SlotState
slot_at o s = get_or o.slots s (record { members = []; made = [] })

-- the proposals and decisions of slot s, in the order made
abbrev pub made_in : Office → ℕ → List Named
made_in o s = (slot_at o s).made

-- member k of slot s; for k ≥ N, which gets 29, a fresh record stands in
abbrev pub member_at : Sizes → Office → ℕ → ℕ → MemberState
member_at z o s k = get_or (slot_at o s).members k (fresh_record (slot_number s) (member_number k) z.n)

-- message k; for a number that wasn't sent, which gets 29, some message stands in
abbrev pub message_at : Office → ℕ → Message
message_at o k = get_or o.sent k (in_slot (slot_number 0) (Start (round_number 0) (member_number 0)))

abbrev pub at_member : SlotEvent → ℕ
at_member (start m r x) = m
at_member (deliver k m) = m

-- the event is of no message that was sent
abbrev pub unsent : Office → SlotEvent → Bool
unsent o (start m r x) = false
unsent o (deliver k m) = leb (length o.sent) k

-- in slot s, the event is of a message of another slot
abbrev pub foreign : Office → ℕ → SlotEvent → Bool
foreign o s (start m r x) = false
foreign o s (deliver k m) = not (eqb (message_at o k).slot.0 s)

-- the event as one of its member
abbrev pub event_of : Office → SlotEvent → MemberEvent
event_of o (start m r x) = starts (round_number r) x
event_of o (deliver k m) = delivers (message_at o k).body

-- its member's step
unfoldable pub event_outcome : Sizes → Office → Event → Outcome
unfolding member_step
event_outcome z o e = member_step (member_at z o e.slot (at_member e.event)) (event_of o e.event)

abbrev pub sends_one : List Body → Bool
sends_one [] = false
sends_one (b ∷ bs) = true

abbrev pub proposes_one : Named → Bool
proposes_one nothing = false
proposes_one (proposal r x b) = true
proposes_one (decision r x) = false

-- how many proposals a sequence has
unfoldable pub proposals : List Named → ℕ
proposals [] = 0
proposals (nothing ∷ ns) = proposals ns
proposals (proposal r x b ∷ ns) = suc (proposals ns)
proposals (decision r x ∷ ns) = proposals ns

-- its member is N or above, or its message isn't among those sent
abbrev pub absent : Sizes → Office → SlotEvent → Bool
absent z o e = leb z.n (at_member e) || unsent o e

-- it would send, and the messages sent fill the store
abbrev pub no_store_row : Sizes → Office → Event → Bool
no_store_row z o e = sends_one (event_outcome z o e).sent && no_row_left z.store (length o.sent)

-- it would propose, and its slot has as many proposals as its table has rows beside the root
abbrev pub no_table_row : Sizes → Office → Event → Bool
no_table_row z o e = proposes_one (event_outcome z o e).named && no_row_left (z.tables e.slot) (suc (proposals (made_in o e.slot)))

-- the numbers of the place table without its add and commit rows: 32, 29, 32 for a message of another slot, the member's own, 30, 9
unfoldable pub event_causes : Sizes → Office → Event → List Cause
unfolding event_outcome proposals
event_causes z o e =
    no_slot e.slot gives WRONG_SLOT ∷
    absent z o e.event gives NO_MEMBER_OR_MESSAGE ∷
    foreign o e.slot e.event gives WRONG_SLOT ∷
    not (eqb (event_outcome z o e).number OK) gives (event_outcome z o e).number ∷
    no_store_row z o e gives STORE_FULL ∷
    no_table_row z o e gives NO_FREE_ROW ∷ []

unfoldable pub event_answer : Sizes → Office → Event → ℕ
unfolding event_causes
event_answer z o e = first (event_causes z o e)

-- what a step names goes behind what was made
abbrev pub made_by : Named → List Named
made_by nothing = []
made_by (proposal r x b) = proposal r x b ∷ []
made_by (decision r x) = decision r x ∷ []

-- a slot whose member k took a step
abbrev pub slot_taken : SlotState → ℕ → Outcome → SlotState
slot_taken a k u = record { members = set a.members k u.state; made = a.made ++ made_by u.named }

-- an accepted event: the member of its slot takes the step, a message sent, which is of that slot, goes behind the others, and what the answer names is
-- made there
unfoldable pub taken : Sizes → Office → Event → Office
unfolding event_outcome
taken z o e =
    record {
      slots = set o.slots e.slot (slot_taken (slot_at o e.slot) (at_member e.event) (event_outcome z o e));
      sent = o.sent ++ map (in_slot (slot_number e.slot)) (event_outcome z o e).sent;
    }

-- a refused event changes nothing
unfoldable pub next : Sizes → Office → Event → Office
unfolding event_answer taken
next z o e = cond (eqb (event_answer z o e) OK) (taken z o e) o

-- the office after a list of events
unfoldable pub office_after : Sizes → Office → List Event → Office
unfolding next
office_after z o [] = o
office_after z o (e ∷ es) = office_after z (next z o e) es

-- the answers to a list of events
unfoldable pub event_answers : Sizes → Office → List Event → List ℕ
unfolding event_answer next
event_answers z o [] = []
event_answers z o (e ∷ es) = event_answer z o e ∷ event_answers z (next z o e) es

abbrev pub offer_of : SlotEvent → List ℕ
offer_of (start m r x) = x ∷ []
offer_of (deliver k m) = []

-- the event is of slot s, and accepted
abbrev pub accepted_in : ℕ → Sizes → Office → Event → Bool
accepted_in s z o e = eqb (event_answer z o e) OK && eqb e.slot s

-- what an event offers in slot s: its offer, if it is an accepted start of that slot
abbrev pub offers_at : ℕ → Sizes → Office → Event → List ℕ
offers_at s z o e = cond (accepted_in s z o e) (offer_of e.event) []

-- the offers of the accepted starts of slot s in a list
unfoldable pub offered : ℕ → Sizes → Office → List Event → List ℕ
unfolding event_answer next
offered s z o [] = []
offered s z o (e ∷ es) = offers_at s z o e ++ offered s z (next z o e) es
