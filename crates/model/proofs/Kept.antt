-- What every event keeps, for N allowed: each of the eight slots has N members, member t is sound with t as its number, N as its size and its slot; every
-- message sent is of a slot and in range, its sender is a member, and the messages fit the store. So each step of the model is the step of a sound
-- record at a message within its ranges, and 17 and 16 never occur. Assumes nothing.
use mathlib.Core.Path.{◌≡◌, refl, sym, ap, ◌∙◌, subst}
use mathlib.Core.Bool.{true, false}
use mathlib.Core.List.Memᴰ
use mathlib.Core.List.Memᴰ.{head as here}
use mathlib.Core.List.Memᴰ.{tail as there}
use mathlib.Core.List.{List, [], ◌∷◌, map}
use mathlib.Core.Logic.{⊎_elim}
use Prim.Native.Nat.{ℕ, zero, suc, ◌+◌, ◌<◌, ◌≤◌, ◌%◌}
use native.Mathlib.Omega.{arith}
use lib.ListN.{length, get_or, length-set, length-append, length-map}
use lib.Dec.{leb, eqb}
use borrow.Author.Tests.{not-true, not-false, lt-ltb, le-ltb, eqb-true}
use Rattle.laws.specs.Tests.{tests, by_test, clash, or_left, or_right, or_none, and_left, and_cases}
use Rattle.laws.specs.Lists.{◌∈◌}
use Rattle.laws.specs.Elements.{getD_in, set_each}
use Rattle.laws.specs.First.{first}
use Rattle.ids.specs.Ranges.{SLOTS, no_slot, above_range, out_of_range}
use Rattle.numbers.specs.Numbers.{OK}
use Rattle.message.specs.declared.Body.{Body}
use Rattle.message.specs.declared.Message.{Message}
use Rattle.message.specs.Layout.{in_slot}
use Rattle.message.specs.Fields.{in_range}
use Rattle.member_record.specs.declared.Who.{Who}
use Rattle.member_record.specs.declared.MemberState.{MemberState}
use Rattle.member_record.specs.Phases.{IDLE, COLLECTING}
use Rattle.member_record.specs.Record.{allowed, fresh_record, slot_number, sound}
use Rattle.member.specs.Table.{sound_step, fitting, step_causes, step_row}
use Rattle.member.specs.Kept.{Kept}
use Rattle.member_record.proofs.Sound.{SoundParts, parts, vote_parts, leading_parts, SoundLeading, fresh_sound}
use Rattle.member.proofs.Keeping.{step_kept, step_of_sound}
use Rattle.model.specs.Model.{Sizes, SlotEvent, Event, start, deliver, SlotState, Office, member_number, fresh_members, fresh_slots, first_office}
use Rattle.model.specs.Model.{slot_at, made_in, member_at, message_at, at_member, unsent, foreign, event_of, event_outcome, absent}
use Rattle.model.specs.Model.{no_store_row, no_table_row, sends_one, proposes_one, proposals, event_answer, taken, next, office_after}
use Rattle.model.specs.Demand.{ended}
use Rattle.model.proofs.Senders.{sender, Own, own_step}
use Rattle.model.proofs.View.{SlotSizes, SlotView, sizes_in, of_slot, view, view_member, becomes, seen_in, view_taken, view_other}

-- of a member of the slot
pub record KeptMember (z : SlotSizes) (t : ℕ) (m : MemberState) : Type 0 where
  pub is_sound : sound m ≡ true
  pub seven : length m.lead.flags ≡ 7
  pub slot : m.who.slot ≡ slot_number z.slot
  pub number : m.who.me ≡ member_number t
  pub size : m.who.n ≡ z.n

-- of what is seen of a slot
pub record KeptView (z : SlotSizes) (o : SlotView) : Type 0 where
  -- the slot has N members
  pub count : length o.members ≡ z.n
  pub each : (t : ℕ) → t < z.n → KeptMember z t (view_member z o t)
  -- each message of the slot is within the ranges of its kind, its sender is a member
  pub ranged : (b : Body) → b ∈ o.sent → in_range b ≡ true
  pub senders : (b : Body) → b ∈ o.sent → sender b < z.n

-- of the whole
pub record KeptOffice (z : Sizes) (o : Office) : Type 0 where
  pub eight : length o.slots ≡ SLOTS
  pub views : (s : ℕ) → s < SLOTS → KeptView (sizes_in z s) (view o s)
  -- each message sent is of a slot, and the messages sent fit the store
  pub slots_sent : (g : Message) → g ∈ o.sent → g.slot.0 < SLOTS
  pub fits : length o.sent ≤ z.store

-- a member that isn't idle leads a round of its own, in range, and B is below it
pub leads_one : (z : SlotSizes) (t : ℕ) (m : MemberState) → KeptMember z t m → COLLECTING ≤ m.lead.phase → (eqb m.durable.led.0 0 ≡ false) × SoundLeading m
leads_one z t m M h =
    let s : SoundParts m = parts m M.is_sound in
    by_test (eqb m.durable.led.0 0)
    (λ e. absurd (omega (tests, and_left (eqb m.lead.phase IDLE) _ (rw e at s.led))))
    (λ e. (e, leading_parts m s e))

pub own_round : (z : SlotSizes) (t : ℕ) (m : MemberState) → KeptMember z t m → COLLECTING ≤ m.lead.phase → m.durable.led.0 % z.n ≡ t
own_round z t m M h =
    let (e, l) = leads_one z t m M h in
    let q : eqb (m.durable.led.0 % z.n) t ≡ true = rw (M.size, M.number) at l.leader in
    omega tests

pub led_ranged : (z : SlotSizes) (t : ℕ) (m : MemberState) → KeptMember z t m → COLLECTING ≤ m.lead.phase → out_of_range m.durable.led.0 ≡ false
led_ranged z t m M h =
    let (e, l) = leads_one z t m M h in
    or_none e (not-true (above_range m.durable.led.0) l.ranged)

pub source_lower : (z : SlotSizes) (t : ℕ) (m : MemberState) → KeptMember z t m → COLLECTING ≤ m.lead.phase → m.lead.source.0 < m.durable.led.0
source_lower z t m M h = let (e, l) = leads_one z t m M h in omega (tests, l.lower)

-- V is at most J
pub vote_lower : (z : SlotSizes) (t : ℕ) (m : MemberState) → KeptMember z t m → m.durable.voted.0 ≤ m.durable.joined.0
vote_lower z t m M = omega (tests, (vote_parts m.durable (parts m M.is_sound).lasting).ordered)

-- what an event that gets 0 has passed
pub record EventAccepted (z : Sizes) (o : Office) (e : Event) : Type 0 where
  pub slot : e.slot < SLOTS
  pub member : at_member e.event < z.n
  pub there : unsent o e.event ≡ false
  pub own : foreign o e.slot e.event ≡ false
  pub ok : (event_outcome z o e).number ≡ OK
  pub stored : sends_one (event_outcome z o e).sent ≡ true → length o.sent < z.store
  pub room : proposes_one (event_outcome z o e).named ≡ true → suc (proposals (made_in o e.slot)) < z.tables e.slot

pub was_accepted : (z : Sizes) (o : Office) (e : Event) → event_answer z o e ≡ OK → EventAccepted z o e
unfolding event_answer
was_accepted z o e h =
    by_test (no_slot e.slot)
    (λ x. absurd (omega (arith, rw x at h)))
    (λ x. by_test (absent z o e.event)
    (λ a. absurd (omega (arith, rw (x, a) at h)))
    (λ a. by_test (foreign o e.slot e.event)
    (λ f. absurd (omega (arith, rw (x, a, f) at h)))
    (λ f. by_test (eqb (event_outcome z o e).number OK)
    (λ b. by_test (no_store_row z o e)
    (λ c. absurd (omega (arith, rw (x, a, f, b, c) at h)))
    (λ c. by_test (no_table_row z o e)
    (λ d. absurd (omega (arith, rw (x, a, f, b, c, d) at h)))
    (λ d. record {
      slot = omega tests;
      member = omega (tests, or_left (leb z.n (at_member e.event)) (unsent o e.event) a);
      there = or_right (leb z.n (at_member e.event)) (unsent o e.event) a;
      own = f;
      ok = omega tests;
      stored = λ s. and_cases (sends_one (event_outcome z o e).sent) (leb z.store (length o.sent)) c (λ f. clash s f) (λ f. omega tests);
      room = λ s. and_cases (proposes_one (event_outcome z o e).named) (leb (z.tables e.slot) (suc (proposals (made_in o e.slot)))) d
          (λ f. clash s f) (λ f. omega tests);
    })))
    (λ b. absurd (omega (tests, rw (x, a, f, b) at h))))))

-- a message delivered is one of those sent
pub message_in : (o : Office) (k m : ℕ) → unsent o (deliver k m) ≡ false → message_at o k ∈ o.sent
message_in o k m h = getD_in o.sent k _ (omega tests)

-- and one of its slot
pub message_seen : (o : Office) (s k m : ℕ) → unsent o (deliver k m) ≡ false → foreign o s (deliver k m) ≡ false → (message_at o k).body ∈ of_slot s o.sent
message_seen o s k m h f =
    seen_in s o.sent (message_in o k m h) (eqb-true (message_at o k).slot.0 s (not-false (eqb (message_at o k).slot.0 s) f))

-- whatever its number, a step is of a sound record, at a message within its ranges, if 29 and 32 aren't given
module _ (z : Sizes) (o : Office) (e : Event) (ranged : (b : Body) → b ∈ of_slot e.slot o.sent → in_range b ≡ true) where
  pub event_fits : unsent o e.event ≡ false → foreign o e.slot e.event ≡ false → fitting (event_of o e.event) ≡ true
  event_fits = fits_of e.event
    where
      fits_of : (d : SlotEvent) → unsent o d ≡ false → foreign o e.slot d ≡ false → fitting (event_of o d) ≡ true
      fits_of (start m r x) h f = refl
      fits_of (deliver k m) h f = ranged (message_at o k).body (message_seen o e.slot k m h f)

  pub step_is_sound : sound (member_at z o e.slot (at_member e.event)) ≡ true → unsent o e.event ≡ false →
      foreign o e.slot e.event ≡ false →
      event_outcome z o e ≡ sound_step (member_at z o e.slot (at_member e.event)) (event_of o e.event)
  unfolding event_outcome
  step_is_sound s h f = step_of_sound (member_at z o e.slot (at_member e.event)) (event_of o e.event) s (event_fits h f)

module _ (z : Sizes) (o : Office) (K : KeptOffice z o) (e : Event) where
  -- the member's record before the step
  abbrev own_record : MemberState
  own_record = member_at z o e.slot (at_member e.event)

  member_kept : EventAccepted z o e → KeptMember (sizes_in z e.slot) (at_member e.event) own_record
  member_kept a = (K.views e.slot a.slot).each (at_member e.event) a.member

  accepted_sound : EventAccepted z o e → event_outcome z o e ≡ sound_step own_record (event_of o e.event)
  accepted_sound a = step_is_sound z o e (K.views e.slot a.slot).ranged (member_kept a).is_sound a.there a.own

  -- an accepted event is its row of the member table, none of whose causes holds
  pub accepted_row : EventAccepted z o e →
      (first (step_causes own_record (event_of o e.event)) ≡ OK) × (event_outcome z o e ≡ step_row own_record (event_of o e.event))
  unfolding sound_step
  accepted_row a =
      let m : MemberState = own_record in
      let same : event_outcome z o e ≡ sound_step m (event_of o e.event) = accepted_sound a in
      by_test (eqb (first (step_causes m (event_of o e.event))) OK)
      (λ t. (omega tests, same ∙ rw t refl))
      (λ t. let n : (event_outcome z o e).number ≡ first (step_causes m (event_of o e.event)) = ap (λ u. u.number) same ∙ rw t refl in
      absurd (omega (tests, a.ok)))

  taken_own : Own own_record (event_outcome z o e)
  unfolding event_outcome
  taken_own = own_step own_record (event_of o e.event)

  outcome_kept : EventAccepted z o e → Kept (event_outcome z o e)
  outcome_kept a =
      subst Kept (sym (accepted_sound a))
      (step_kept own_record (event_of o e.event) (member_kept a).seven (member_kept a).is_sound
      (event_fits z o e (K.views e.slot a.slot).ranged a.there a.own))

  pub taken_member : EventAccepted z o e → KeptMember (sizes_in z e.slot) (at_member e.event) (event_outcome z o e).state
  taken_member a =
      let M = member_kept a in
      record {
        is_sound = (outcome_kept a).sound_after;
        seven = (outcome_kept a).seven_after;
        slot = ap (λ (w : Who). w.slot) taken_own.who ∙ M.slot;
        number = ap (λ (w : Who). w.me) taken_own.who ∙ M.number;
        size = ap (λ (w : Who). w.n) taken_own.who ∙ M.size;
      }

  -- what it sends is its member's
  pub sent_by : EventAccepted z o e → (b : Body) → b ∈ (event_outcome z o e).sent → sender b ≡ at_member e.event
  sent_by a b i = taken_own.from b i ∙ ap (λ s. s.0) (member_kept a).number

  -- what is seen of its slot
  view_kept : EventAccepted z o e → KeptView (sizes_in z e.slot) (becomes (view o e.slot) (at_member e.event) (event_outcome z o e))
  view_kept a =
      let s = e.slot in
      let seen = K.views s a.slot in
      record {
        count = simp length-set seen.count;
        each = λ t l. set_each (KeptMember (sizes_in z s)) (λ k. fresh_record (slot_number s) (member_number k) z.n) (slot_at o s).members
            (at_member e.event) (event_outcome z o e).state
            (omega (arith, seen.count, a.member)) (taken_member a) (λ k b d. seen.each k (omega (arith, seen.count))) t (omega (arith, seen.count));
        ranged = λ b i. ⊎_elim (seen.ranged b) ((outcome_kept a).sent_in_range b) (Memᴰ.append_cases (of_slot s o.sent) i);
        senders = λ b i. ⊎_elim (seen.senders b) (λ j. rw (sent_by a b j) a.member) (Memᴰ.append_cases (of_slot s o.sent) i);
      }

  pub taken_kept : EventAccepted z o e → KeptOffice z (taken z o e)
  unfolding taken
  taken_kept a = record {
    eight = simp length-set K.eight;
    views = λ s l. by_test (eqb s e.slot)
        (λ t. subst (λ k. KeptView (sizes_in z k) (view (taken z o e) k)) (sym (eqb-true s e.slot t))
        (subst (KeptView (sizes_in z e.slot)) (sym (view_taken z o e (omega (arith, K.eight, a.slot)))) (view_kept a)))
        (λ t. subst (KeptView (sizes_in z s)) (sym (view_other z o e s (omega tests))) (K.views s l));
    slots_sent = λ g i. ⊎_elim (K.slots_sent g) (λ j. of_own g (event_outcome z o e).sent j) (Memᴰ.append_cases o.sent i);
    fits = rw (
      length-append o.sent (map (in_slot (slot_number e.slot)) (event_outcome z o e).sent),
      length-map (event_outcome z o e).sent (in_slot (slot_number e.slot)),
    )
        (room_for (event_outcome z o e).sent taken_own.one a.stored);
  }
    where
      of_own : (g : Message) (bs : List Body) → g ∈ map (in_slot (slot_number e.slot)) bs → g.slot.0 < SLOTS
      of_own g [] i = elim i [ ]
      of_own g (b ∷ bs) (here q) = let same : g.slot.0 ≡ e.slot = ap (λ (x : Message). x.slot.0) q in omega (arith, a.slot)
      of_own g (b ∷ bs) (there i) = of_own g bs i

      room_for : (bs : List Body) → length bs ≤ 1 → (sends_one bs ≡ true → length o.sent < z.store) → length o.sent + length bs ≤ z.store
      room_for [] b f = omega (arith, K.fits)
      room_for (g ∷ gs) b f = omega (arith, f refl)

  pub next_kept : KeptOffice z (next z o e)
  unfolding next
  next_kept =
      by_test (eqb (event_answer z o e) OK)
      (λ t. rw t (taken_kept (was_accepted z o e (omega tests))))
      (λ t. rw t K)

-- at first
length_fresh : (s n k d : ℕ) → length (fresh_members s n k d) ≡ d
unfolding fresh_members
length_fresh s n k zero = refl
length_fresh s n k (suc d) = ap suc (length_fresh s n (suc k) d)

pub fresh_at : (s n k d i : ℕ) (x : MemberState) → i < d → get_or (fresh_members s n k d) i x ≡ fresh_record (slot_number s) (member_number (k + i)) n
unfolding fresh_members
fresh_at s n k zero i x h = absurd (omega arith)
fresh_at s n k (suc d) zero x h = let e : k + 0 ≡ k = omega arith in rw e refl
fresh_at s n k (suc d) (suc i) x h = let e : k + suc i ≡ suc k + i = omega arith in rw e (fresh_at s n (suc k) d i x (omega arith))

length_slots : (n s d : ℕ) → length (fresh_slots n s d) ≡ d
unfolding fresh_slots
length_slots n s zero = refl
length_slots n s (suc d) = ap suc (length_slots n (suc s) d)

slots_at : (n s d i : ℕ) (x : SlotState) → i < d → get_or (fresh_slots n s d) i x ≡ record { members = fresh_members (s + i) n 0 n; made = [] }
unfolding fresh_slots
slots_at n s zero i x h = absurd (omega arith)
slots_at n s (suc d) zero x h = let e : s + 0 ≡ s = omega arith in rw e refl
slots_at n s (suc d) (suc i) x h = let e : s + suc i ≡ suc s + i = omega arith in rw e (slots_at n (suc s) d i x (omega arith))

pub first_slot : (n s : ℕ) → s < SLOTS → slot_at (first_office n) s ≡ record { members = fresh_members s n 0 n; made = [] }
unfolding first_office
first_slot n s l =
    let e : 0 + s ≡ s = omega arith in
    slots_at n 0 SLOTS s (record { members = []; made = [] }) l ∙ ap (λ k. record { members = fresh_members k n 0 n; made = [] }) e

pub first_view : (n s : ℕ) → s < SLOTS → view (first_office n) s ≡ record { members = fresh_members s n 0 n; sent = []; made = [] }
unfolding first_office of_slot
first_view n s l = let q = first_slot n s l in λ i. record { members = (q i).members; sent = []; made = (q i).made }

pub first_member : (z : Sizes) (s t : ℕ) → s < SLOTS → t < z.n →
    member_at z (first_office z.n) s t ≡ fresh_record (slot_number s) (member_number t) z.n
first_member z s t b l =
    let e : 0 + t ≡ t = omega arith in
    let x = fresh_record (slot_number s) (member_number t) z.n in
    ap (λ (a : SlotState). get_or a.members t x) (first_slot z.n s b) ∙ fresh_at s z.n 0 z.n t x l ∙
    ap (λ k. fresh_record (slot_number s) (member_number k) z.n) e

pub first_kept : (z : Sizes) → allowed z.n ≡ true → KeptOffice z (first_office z.n)
unfolding first_office
first_kept z h = record {
  eight = length_slots z.n 0 SLOTS;
  views = λ s l. subst (KeptView (sizes_in z s)) (sym (first_view z.n s l)) (record {
    count = length_fresh s z.n 0 z.n;
    each = λ t b. rw (fresh_at s z.n 0 z.n t (fresh_record (slot_number s) (member_number t) z.n) b) (fresh_kept s t l b);
    ranged = λ b i. elim i [ ];
    senders = λ b i. elim i [ ];
  });
  slots_sent = λ g i. elim i [ ];
  fits = omega arith;
}
  where
    fresh_kept : (s t : ℕ) → s < SLOTS → t < z.n → KeptMember (sizes_in z s) t (fresh_record (slot_number s) (member_number (0 + t)) z.n)
    fresh_kept s t b l =
        let e : 0 + t ≡ t = omega arith in
        let low : no_slot s ≡ false = le-ltb 7 s (omega arith) in
        rw e (record {
          is_sound = fresh_sound (slot_number s) (member_number t) z.n ∙ rw (h, lt-ltb t z.n l, low) refl;
          seven = refl;
          slot = refl;
          number = refl;
          size = refl;
        })

-- from there on, after any list of events
pub all_kept : (z : Sizes) (o : Office) (es : List Event) → KeptOffice z o → KeptOffice z (office_after z o es)
unfolding office_after
all_kept z o [] K = K
all_kept z o (e ∷ es) K = all_kept z (next z o e) es (next_kept z o K e)

pub ended_kept : (z : Sizes) (es : List Event) → allowed z.n ≡ true → KeptOffice z (ended z es)
ended_kept z es ok = all_kept z (first_office z.n) es (first_kept z ok)
