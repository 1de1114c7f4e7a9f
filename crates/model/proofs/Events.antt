-- The invariant holds of each slot after any list of events: of the first office, and every event keeps it, that of its slot by its step and that of
-- any other since nothing of it changes. Assumes nothing.
use mathlib.Core.Path.{◌≡◌, refl, sym, ap, subst}
use mathlib.Core.Bool.{true, false, not}
use mathlib.Core.List.{List, [], ◌∷◌, ◌++◌, append-nil, append_assoc}
use mathlib.Core.Logic.{◌≢◌}
use Prim.Native.Nat.{ℕ, suc, ◌+◌, ◌<◌, ◌≤◌}
use native.Mathlib.Omega.{arith}
use lib.Dec.{ltb, leb, eqb}
use borrow.Author.Tests.{not-false, eqb-true}
use Rattle.laws.specs.Tests.{tests, by_test, and_left, and_right}
use Rattle.laws.specs.Lists.{◌∈◌}
use Rattle.laws.specs.First.{first, passed}
use Rattle.ids.specs.declared.Round.{Round}
use Rattle.ids.specs.declared.Member.{Member}
use Rattle.ids.specs.Ranges.{SLOTS}
use Rattle.numbers.specs.Numbers.{OK}
use Rattle.tree_theory.proofs.Calls.{none}
use Rattle.message.specs.declared.Body.{Body}
use Rattle.message.specs.declared.Body.TheVariants.{Start, Join, JoinVoted, Propose, Vote}
use Rattle.message.specs.Fields.{in_range, head_in_range, vote_in_range}
use Rattle.member_record.specs.declared.MemberState.{MemberState}
use Rattle.member_record.specs.Phases.{COLLECTING, PROPOSED}
use Rattle.member_record.specs.Record.{allowed, fresh_record, round_number, slot_number}
use Rattle.member_rules.specs.Causes.{START_causes, start_call_causes, count_causes, PROPOSE_causes, awaits}
use Rattle.member_rules.specs.Changes.{adopted, adopting}
use Rattle.member.specs.Table.{count_row, delivers, step_causes, step_row}
use Rattle.model.specs.Model.{Sizes, SlotEvent, Event, start, deliver, Office, member_number, first_office, member_at, message_at, at_member}
use Rattle.model.specs.Model.{event_outcome, proposes_one}
use Rattle.model.specs.Model.{proposals, event_answer, taken, next, office_after, offer_of, offers_at, offered}
use Rattle.model.specs.Demand.{calls, ended}
use Rattle.model.specs.Joins.{JoinOf}
use Rattle.model.proofs.View.{SlotSizes, SlotView, sizes_in, view, view_taken, view_other}
use Rattle.model.proofs.Kept.{KeptMember, KeptOffice, EventAccepted, was_accepted, message_seen, accepted_row, sent_by, next_kept, fresh_at, first_view}
use Rattle.model.proofs.Kept.{first_kept}
use Rattle.model.proofs.Invariant.{join_quorum, vote_quorum, carried, Joined, MemberHolds, Invariant}
use Rattle.model.proofs.Grows.{New, keep}
use Rattle.model.proofs.Meeting.{allowed_meets}
use Rattle.model.proofs.Counts.{Counts, counts_of, counts_adopted}
use Rattle.model.proofs.Rows.{start_call_new, START_new, PROPOSE_new, JOIN_new, VOTE_new}

-- the events of one member of a slot, whose record is m
module _ (z : SlotSizes) (o : SlotView) (offers : List ℕ) (I : Invariant z o offers) (meets : z.n < join_quorum z.n + vote_quorum z.n)
    (t : ℕ) (m : MemberState) (M : KeptMember z t m) (S : MemberHolds z.n o.sent o.made offers t m) where
  awaited_round : (phase : ℕ) (r : Round) → not (awaits m phase r) ≡ false → r ≡ m.durable.led
  awaited_round phase r h =
      let e : eqb r.0 m.durable.led.0 ≡ true =
      and_left (eqb r.0 m.durable.led.0) (eqb m.lead.phase phase) (not-false (awaits m phase r) h) in
      let q : r.0 ≡ m.durable.led.0 = omega tests in
      ap round_number q

  awaited_phase : (phase : ℕ) (r : Round) → not (awaits m phase r) ≡ false → m.lead.phase ≡ phase
  awaited_phase phase r h =
      omega (tests, and_right (eqb r.0 m.durable.led.0) (eqb m.lead.phase phase) (not-false (awaits m phase r) h))

  -- a JOIN's vote is taken over if it is above B
  adopting_cases : (P : MemberState → Type 0) (q : Round) (w : ℕ) → (m.lead.source.0 < q.0 → P (adopted m q w)) → (q.0 ≤ m.lead.source.0 → P m)
      → P (adopting m q w)
  unfolding adopting
  adopting_cases P q w f g = by_test (ltb m.lead.source.0 q.0) (λ h. rw h (f (omega tests))) (λ h. rw h (g (omega tests)))

  -- the member with the vote of a JOIN taken over
  adopted_stands : (r : Round) (s : Member) (q : Round) (w : ℕ) → JoinVoted r s q w ∈ o.sent → m.lead.phase ≡ COLLECTING → m.lead.source.0 < q.0 →
      MemberHolds z.n o.sent o.made offers t (adopted m q w)
  adopted_stands r s q w i now up = record {
    spoken = S.spoken;
    leading = record {
      highest = S.leading.highest;
      collects = S.leading.collects;
      proposed = λ a b. absurd (omega arith);
      undecided = S.leading.undecided;
      joins = λ p k h. let j : Joined o.sent m.durable.led.0 m.lead.source.0 k = S.leading.joins p k h in
          record { message = j.message; is_sent = j.is_sent; is_join = j.is_join; at_most = omega (arith, j.at_most) };
      source_added = λ p h. I.backed (JoinVoted r s q w) i;
      votes = S.leading.votes;
      value_offered = λ a b. I.made_so.offered_so q.0 w (I.backed (JoinVoted r s q w) i).parent (I.backed (JoinVoted r s q w) i).is_made;
    };
    vote_added = S.vote_added;
  }

  -- a JOIN of the round awaited, k being m or m with the vote taken over
  join_new : (g : Body) (r : Round) (s : Member) (k : MemberState) → g ∈ o.sent → JoinOf k.durable.led.0 s.0 g → carried g ≤ k.lead.source.0 →
      leb m.who.n s.0 ≡ false → k.lead.phase ≡ COLLECTING → r ≡ k.durable.led → Counts z t k → MemberHolds z.n o.sent o.made offers t k →
      (proposes_one (count_row COLLECTING k r s).named ≡ true → suc (proposals o.made) < z.table) → New z o offers t (count_row COLLECTING k r s) []
  join_new g r s k i join carries low now e C St =
      rw e (JOIN_new z o offers I meets t k C St s (omega (tests, M.size)) now (record { message = g; is_sent = i; is_join = join; at_most = carries }))

  message_new : (g : Body) → g ∈ o.sent → in_range g ≡ true → first (step_causes m (delivers g)) ≡ OK →
      (proposes_one (step_row m (delivers g)).named ≡ true → suc (proposals o.made) < z.table) → New z o offers t (step_row m (delivers g)) []
  unfolding step_causes step_row
  message_new (Start r s) i f c room = START_new z o offers I t m M S r s (passed (START_causes m r s) refl c)
  message_new (Join r s) i f c room =
      let (sender, (await, rest)) = passed (count_causes COLLECTING m r s) refl c in
      let e : r ≡ m.durable.led = awaited_round COLLECTING r await in
      let now : m.lead.phase ≡ COLLECTING = awaited_phase COLLECTING r await in
      join_new (Join r s) r s m i (ap (λ x. x.0) e, refl) (omega arith) sender now e (counts_of z t m M (omega arith)) S room
  message_new (JoinVoted r s q w) i f c room =
      let (sender, (await, rest)) = passed (count_causes COLLECTING m r s) refl c in
      let e : r ≡ m.durable.led = awaited_round COLLECTING r await in
      let now : m.lead.phase ≡ COLLECTING = awaited_phase COLLECTING r await in
      let C : Counts z t m = counts_of z t m M (omega arith) in
      let below : q.0 < m.durable.led.0 = omega
      (tests, and_right (leb 1 q.0) (ltb q.0 r.0) (and_right (head_in_range r s) (vote_in_range r q) f), ap (λ x. x.0) e) in
      adopting_cases (λ k. (proposes_one (count_row COLLECTING k r s).named ≡ true → suc (proposals o.made) < z.table)
      → New z o offers t (count_row COLLECTING k r s) []) q w
      (λ up. join_new (JoinVoted r s q w) r s (adopted m q w) i (ap (λ x. x.0) e, refl) (omega arith) sender now e
      (counts_adopted z t m q w below C) (adopted_stands r s q w i now up))
      (λ down. join_new (JoinVoted r s q w) r s m i (ap (λ x. x.0) e, refl) (omega arith) sender now e C S)
      room
  message_new (Propose r s v) i f c room = PROPOSE_new z o offers I t m M S r s v i (passed (PROPOSE_causes m r s v) refl c)
  message_new (Vote r s) i f c room =
      let (sender, (await, rest)) = passed (count_causes PROPOSED m r s) refl c in
      let e : r ≡ m.durable.led = awaited_round PROPOSED r await in
      let now : m.lead.phase ≡ PROPOSED = awaited_phase PROPOSED r await in
      rw e (VOTE_new z o offers I meets t m (counts_of z t m M (omega arith)) S s (omega (tests, M.size)) now (subst (λ x. Vote x s ∈ o.sent) e i))

module _ (z : Sizes) (ok : allowed z.n ≡ true) where
  abbrev event_in : ℕ → SlotEvent → Event
  event_in s d = record { slot = s; event = d }

  module _ (o : Office) (K : KeptOffice z o) where
    -- what is new in the slot of an accepted event
    event_new : (s : ℕ) (d : SlotEvent) (offers : List ℕ) → Invariant (sizes_in z s) (view o s) offers → EventAccepted z o (event_in s d) →
        New (sizes_in z s) (view o s) offers (at_member d) (event_outcome z o (event_in s d)) (offer_of d)
    unfolding step_causes step_row
    event_new s (start k r x) offers I a =
        let (c, same) = accepted_row z o K (event_in s (start k r x)) a in
        let m : MemberState = member_at z o s k in
        rw same (start_call_new (sizes_in z s) (view o s) offers I k m ((K.views s a.slot).each k a.member) (I.members k a.member)
        (round_number r) x (passed (start_call_causes m (round_number r)) refl c))
    event_new s (deliver j k) offers I a =
        let (c, same) = accepted_row z o K (event_in s (deliver j k)) a in
        let m : MemberState = member_at z o s k in
        let b : Body = (message_at o j).body in
        let i : b ∈ (view o s).sent = message_seen o s j k a.there a.own in
        rw same (message_new (sizes_in z s) (view o s) offers I (allowed_meets z.n ok) k m ((K.views s a.slot).each k a.member)
        (I.members k a.member) b i ((K.views s a.slot).ranged b i) c (rw same at a.room))

    -- an event of the slot
    own_holds : (e : Event) (offers : List ℕ) → Invariant (sizes_in z e.slot) (view o e.slot) offers → EventAccepted z o e →
        Invariant (sizes_in z e.slot) (view (taken z o e) e.slot) (offers ++ offer_of e.event)
    own_holds e offers I a =
        subst (λ v. Invariant (sizes_in z e.slot) v (offers ++ offer_of e.event))
        (sym (view_taken z o e (omega (arith, K.eight, a.slot))))
        (keep (sizes_in z e.slot) (view o e.slot) offers (at_member e.event) (event_outcome z o e) (offer_of e.event)
        (K.views e.slot a.slot) I a.member (sent_by z o K e a) (event_new e.slot e.event offers I a))

    pub next_holds : (s : ℕ) (offers : List ℕ) → Invariant (sizes_in z s) (view o s) offers → (e : Event) →
        Invariant (sizes_in z s) (view (next z o e) s) (offers ++ offers_at s z o e)
    unfolding next
    next_holds s offers I e =
        by_test (eqb (event_answer z o e) OK)
        (λ t. let a : EventAccepted z o e = was_accepted z o e (omega tests) in
        by_test (eqb e.slot s)
        (λ q. rw (t, q) (of_slot_new e a (eqb-true e.slot s q)))
        (λ q. let d : s ≢ e.slot = omega tests in rw (t, q) (rw (append-nil offers) (subst (λ v. Invariant (sizes_in z s) v offers) (sym (view_other z o e s d)) I))))
        (λ t. rw t (rw (append-nil offers) I))
      where
        of_slot_new : (e : Event) → EventAccepted z o e → e.slot ≡ s → Invariant (sizes_in z s) (view (taken z o e) s) (offers ++ offer_of e.event)
        of_slot_new e a q =
            subst (λ k. Invariant (sizes_in z k) (view (taken z o e) k) (offers ++ offer_of e.event)) q
            (own_holds e offers (subst (λ k. Invariant (sizes_in z k) (view o k) offers) (sym q) I) a)

  module _ (s : ℕ) where
    pub all_hold : (o : Office) (offers : List ℕ) (es : List Event) → KeptOffice z o → Invariant (sizes_in z s) (view o s) offers
        → Invariant (sizes_in z s) (view (office_after z o es) s) (offers ++ offered s z o es)
    unfolding office_after offered
    all_hold o offers [] K I = rw (append-nil offers) I
    all_hold o offers (e ∷ es) K I =
        rw (← append_assoc offers (offers_at s z o e) (offered s z (next z o e) es))
        (all_hold (next z o e) (offers ++ offers_at s z o e) es (next_kept z o K e) (next_holds o K s offers I e))

    module _ (low : s < SLOTS) where
      first_holds : Invariant (sizes_in z s) (view (first_office z.n) s) []
      unfolding calls proposals
      first_holds = subst (λ v. Invariant (sizes_in z s) v []) (sym (first_view z.n s low)) (record {
        members = λ t l. rw (fresh_at s z.n 0 z.n t (fresh_record (slot_number s) (member_number t) z.n) l) (fresh_stands t);
        leaders = λ g i. elim i [ ];
        backed = λ g i. elim i [ ];
        made_so = record {
          properties = none true;
          ranged = λ c i. elim i [ ];
          join_met = λ r x b i. elim i [ ];
          vote_met = λ r x i. elim i [ ];
          decided_added = λ r x i. elim i [ ];
          offered_so = λ r x b i. elim i [ ];
          room = λ h. h;
        };
      })
        where
          fresh_stands : (t : ℕ) → MemberHolds z.n [] [] [] t (fresh_record (slot_number s) (member_number (0 + t)) z.n)
          fresh_stands t = record {
            spoken = record { reached = λ g i. elim i [ ]; past = λ g r c i. elim i [ ]; told = λ g i. elim i [ ]; same = λ r g h i. elim i [ ] };
            leading = record {
              highest = λ r x b i. elim i [ ];
              collects = λ p. absurd (omega arith);
              proposed = λ p. absurd (omega arith);
              undecided = λ p. absurd (omega arith);
              joins = λ p. absurd (omega arith);
              source_added = λ p. absurd (omega arith);
              votes = λ p. absurd (omega arith);
              value_offered = λ p. absurd (omega arith);
            };
            vote_added = λ h. absurd (omega arith);
          }

      -- the invariant of the slot at the end of any list of events
      pub holds : (es : List Event) → Invariant (sizes_in z s) (view (ended z es) s) (offered s z (first_office z.n) es)
      holds es = all_hold (first_office z.n) [] es (first_kept z ok) first_holds
