-- How records by value, the store and the tables represent a state of the model, and what a step of an event has before and after it.
use Rattle.std.specs.Prelude.{◌≡◌, true, false, cond, ◌&&◌, not, List, [], ◌∷◌, ℕ, ◌+◌, ◌*◌, ◌%◌, ◌<◌, length, get_or, set, ltb, leb, eqb}
use Rattle.laws.specs.First.{Cause, ◌gives◌}
use Rattle.ids.specs.declared.Slot.{Slot}
use Rattle.ids.specs.Ranges.{SLOTS, no_slot}
use Rattle.numbers.specs.declared.Refusal.{Refusal}
use Rattle.numbers.specs.Numbers.{OK, NO_MEMBER_OR_MESSAGE, WRONG_SLOT, refusal_number}
use Rattle.tree_theory.specs.Table.{rows, sized, table}
use Rattle.message.specs.declared.Message.{Message}
use Rattle.member_record.specs.declared.MemberState.{MemberState}
use Rattle.member_record.specs.Record.{allowed, fresh_record, slot_number}
use Rattle.member.specs.declared.StepAnswer.{StepAnswer}
use Rattle.member.specs.declared.StepAnswer.TheVariants.{Refused, Sent, Done, Proposed, Decided}
use Rattle.member.specs.declared.MemberStep.{MemberStep}
use Rattle.member.specs.Answers.{answer_outcome}
use Rattle.member.specs.Table.{Outcome}
use Rattle.model.specs.Model.{Sizes, Event, Office, member_number, made_in, member_at, event_answer, next, event_outcome, at_member, unsent, foreign, proposals}
use Rattle.model.specs.Counts.{made_tree, made_ghosts, decisions, over_slots}
use Rattle.model.specs.Sound.{SoundOffice}
use Rattle.play_store.specs.Rows.{store_rows, store_sized, stored}
use Rattle.play_effects.specs.Effects.{EventEffect}
use Rattle.play_effects.specs.declared.Tally.{Tally}
use Rattle.play_effects.specs.Memory.{Memory}
use Rattle.play_office.specs.declared.HeldLead.{HeldLead}
use Rattle.play_office.specs.declared.HeldRounds.{HeldRounds}

-- seven records for each slot
abbrev pub RECORDS : ℕ
RECORDS = 7 * SLOTS

-- what is held of a member's record: all but who it is, which the event says
pub record HeldRecord : Type 0 where
  pub rounds : HeldRounds
  pub lead : HeldLead

-- its rounds and its vote
abbrev pub rounds_of : MemberState → HeldRounds
rounds_of m =
    record {
      joined = m.durable.joined;
      voted = m.durable.voted;
      vote = m.durable.vote;
      led = m.durable.led;
      source = m.lead.source;
    }

-- its value to propose, its flags, and its phase, which in a sound record is at most 3: a byte holds it
abbrev pub lead_of : MemberState → HeldLead
lead_of m = record { value = m.lead.value; flags = m.lead.flags; phase = m.lead.phase % 256 }

abbrev pub held_of : MemberState → HeldRecord
held_of m = record { rounds = rounds_of m; lead = lead_of m }

-- at first zeros, as of any fresh record
abbrev pub no_record : HeldRecord
no_record = held_of (fresh_record (slot_number 0) (member_number 0) 0)

-- the record of an event's member, by what is held of it
abbrev pub event_record : ℕ → Event → HeldRecord → MemberState
event_record n e h =
    record {
      who = record { slot = slot_number e.slot; me = member_number (at_member e.event); n = n };
      durable = record { joined = h.rounds.joined; voted = h.rounds.voted; vote = h.rounds.vote; led = h.rounds.led };
      lead = record { phase = h.lead.phase; source = h.rounds.source; value = h.lead.value; flags = h.lead.flags };
    }

-- nothing sent and nothing made
abbrev pub fresh_tally : ℕ → Tally
fresh_tally n = record { n = n; sent = 0; proposals = 0; decisions = 0; ghosts = 0 }

-- the place of the record of member k of slot s; there is none above slot 7 or member 6, and the first stands in
abbrev pub place_of : ℕ → ℕ → ℕ
place_of s k = cond (not (no_slot s) && ltb k 7) (7 * s + k) 0

abbrev pub event_place : Event → ℕ
event_place e = place_of e.slot (at_member e.event)

-- the slot whose table is lent for an event; there is none above slot 7, and the first stands in
abbrev pub table_slot : ℕ → ℕ
table_slot s = cond (no_slot s) 0 s

-- member k of slot s has the record m
pub record HeldAt (ms : List HeldRecord) (s k : ℕ) (m : MemberState) : Type 0 where
  pub within : 7 * s + k < length ms
  pub is : (d : HeldRecord) → get_or ms (7 * s + k) d ≡ held_of m

-- the sizes of what is lent are those of the model, and allowed
pub record MemorySizes (z : Sizes) (store : List ℕ) (tables : ℕ → List ℕ) : Type 0 where
  pub allowed_size : allowed z.n ≡ true
  pub store_length : store_sized store ≡ true
  pub store_is : z.store ≡ store_rows store
  pub table_length : (s : ℕ) → s < SLOTS → sized (tables s) ≡ true
  pub table_is : (s : ℕ) → s < SLOTS → z.tables s ≡ rows (tables s)

-- the shared store and its count represent the messages sent
pub record RepresentsStore (sent : List Message) (count : ℕ) (store : List ℕ) : Type 0 where
  pub sent_count : count ≡ length sent
  pub messages : store ≡ stored (length store) sent

-- the records and the table of slot s represent its members and what they made
pub record RepresentsSlot (z : Sizes) (o : Office) (s : ℕ) (ms : List HeldRecord) (ws : List ℕ) : Type 0 where
  pub members : (k : ℕ) → k < z.n → HeldAt ms s k (member_at z o s k)
  pub nodes_are : ws ≡ table (length ws) (made_tree z o s)

-- records, counts, store and tables represent the state o
pub record Represents (z : Sizes) (o : Office) (t : Tally) (ms : List HeldRecord) (store : List ℕ) (tables : ℕ → List ℕ) : Type 0 where
  pub size : t.n ≡ z.n
  pub places : length ms ≡ RECORDS
  pub shared : RepresentsStore o.sent t.sent store
  pub slots : (s : ℕ) → s < SLOTS → RepresentsSlot z o s ms (tables s)
  -- the counts run over all slots
  pub proposed : t.proposals ≡ over_slots (λ s. proposals (made_in o s))
  pub decided : t.decisions ≡ over_slots (λ s. decisions (made_in o s))
  pub struck : t.ghosts ≡ over_slots (made_ghosts z o)

-- before a step: store and tables represent some state that a step may start from
pub record StepBefore (t : Tally) (store : List ℕ) : Type 0 where
  pub z : Sizes
  pub o : Office
  pub members : List HeldRecord
  pub tables : ℕ → List ℕ
  pub sizes : MemorySizes z store tables
  pub sound : SoundOffice z o
  pub represents : Represents z o t members store tables

-- the tables with that of slot s written over; any other is what it was
abbrev pub tables_with : (ℕ → List ℕ) → ℕ → List ℕ → ℕ → List ℕ
tables_with tables s ws u = cond (eqb u s) ws (tables u)

-- the records after an event at place i: a refused one leaves them, an accepted one has taken the step to m
abbrev pub records_after : List HeldRecord → ℕ → MemberState → ℕ → List HeldRecord
records_after ms i m number = cond (eqb number OK) (set ms i (held_of m)) ms

-- after the event e, to which the table of its slot was lent and whose step leads to the record m: the model's number, and the memory represents the
-- model's next state
pub record StepAfter {t : Tally} {store : List ℕ} (B : StepBefore t store) (e : Event) (m : MemberState) (w : EventEffect) (M' : Memory) : Type 0 where
  pub number_is : w.number ≡ event_answer B.z B.o e
  -- an answer byte holds it
  pub small : w.number < 256
  pub represents : Represents B.z (next B.z B.o e) w.tally (records_after B.members (event_place e) m w.number) M'.store
      (tables_with B.tables (table_slot e.slot) M'.table)

-- before an event: m is the record of its member, if it has one
pub record EventBefore (t : Tally) (m : MemberState) (e : Event) (store : List ℕ) : Type 0 where
  pub before : StepBefore t store
  pub is : e.slot < SLOTS → at_member e.event < before.z.n → m ≡ member_at before.z before.o e.slot (at_member e.event)

-- the step of the event's member comes to u
pub record ModelStep (z : Sizes) (o : Office) (e : Event) (u : Outcome) : Type 0 where
  pub slot : e.slot < SLOTS
  pub member : at_member e.event < z.n
  pub there : unsent o e.event ≡ false
  pub own : foreign o e.slot e.event ≡ false
  pub equals : u ≡ event_outcome z o e

-- the event e is refused with k
pub record RefusedWith (z : Sizes) (o : Office) (e : Event) (k : ℕ) : Type 0 where
  pub number_is : event_answer z o e ≡ k
  pub some : k ≡ OK → ⊥
  pub small : k < 256

-- what an answer to the event e says of the model: its refusal, or a step of its member to the record m
unfoldable pub AnswerIs : Sizes → Office → Event → MemberState → StepAnswer → Type 0
AnswerIs z o e m (Refused r) = RefusedWith z o e (refusal_number r)
AnswerIs z o e m (Sent b) = ModelStep z o e (answer_outcome m (Sent b))
AnswerIs z o e m Done = ModelStep z o e (answer_outcome m Done)
AnswerIs z o e m (Proposed b r x p) = ModelStep z o e (answer_outcome m (Proposed b r x p))
AnswerIs z o e m (Decided r x) = ModelStep z o e (answer_outcome m (Decided r x))

-- refused before the member's step: the record stays
abbrev pub missed_step : MemberState → Refusal → MemberStep
missed_step m r = record { state = m; answer = Refused r; lasting = false }

-- in front of the member's step, of any event: 32 its slot is above 7; 29 its member is N or above
abbrev pub event_row : Tally → ℕ → ℕ → List Cause
event_row t s k = no_slot s gives WRONG_SLOT ∷ leb t.n k gives NO_MEMBER_OR_MESSAGE ∷ []

-- the step is an answer to the event
abbrev pub AnswerTo : {t : Tally} {m : MemberState} {e : Event} {store : List ℕ} → EventBefore t m e store → MemberStep → Type 0
AnswerTo {e = e} E s = AnswerIs E.before.z E.before.o e s.state s.answer

-- the step was taken: whatever the memory represented
abbrev pub StepTaken : Tally → MemberState → Event → List ℕ → MemberStep → Type 0
StepTaken t m e store s = (E : EventBefore t m e store) → AnswerTo E s

-- a start isn't lent the store
pub record StartDue (t : Tally) (m : MemberState) (e : Event) : Type 0 where
  pub store : List ℕ
  pub event : EventBefore t m e store

abbrev pub StartTaken : Tally → MemberState → Event → MemberStep → Type 0
StartTaken t m e s = (store : List ℕ) (E : EventBefore t m e store) → AnswerTo E s

-- before an answer takes effect, on the store and the table of its slot: it was given to the event e, and its step leads to the record m
pub record AnswerBefore (t : Tally) (slot : Slot) (a : StepAnswer) (M : Memory) : Type 0 where
  pub before : StepBefore t M.store
  pub e : Event
  pub of_slot : e.slot ≡ slot.0
  pub lent : before.tables (table_slot e.slot) ≡ M.table
  pub m : MemberState
  pub is : AnswerIs before.z before.o e m a

-- the answer took effect: whatever the memory represented before, and whatever the event was
abbrev pub AnswerSettled : Tally → Slot → StepAnswer → Memory → EventEffect → Memory → Type 0
AnswerSettled t slot a M w M' = (F : AnswerBefore t slot a M) → StepAfter F.before F.e F.m w M'
