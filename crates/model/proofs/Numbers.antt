-- The numbers that an event of a list can get, 32 among them. 17 and 16 don't occur, for members are sound and messages in range; nor does 21, for STARTs
-- and PROPOSEs come from the leaders of their rounds; nor 23, for a round is proposed with one value. Assumes nothing.
use mathlib.Core.Path.{◌≡◌, refl, sym}
use mathlib.Core.Bool.{Bool, true, false, cond, ◌&&◌, not}
use mathlib.Core.List.Memᴰ.{head as here}
use mathlib.Core.List.Memᴰ.{tail as there}
use mathlib.Core.List.{List, [], ◌∷◌}
use Prim.Native.Nat.{ℕ, suc, ◌<◌, ◌≤◌, ◌%◌}
use lib.ListN.{length}
use lib.Dec.{leb, eqb}
use borrow.Author.Tests.{eqb-true, eq-eqb, not-true}
use native.Mathlib.Omega.{arith}
use Rattle.laws.specs.Tests.{tests, by_test, clash, or_left, or_right, and_left, and_right}
use Rattle.laws.specs.Lists.{◌∈◌, any, any_intro, any_elim}
use Rattle.laws.specs.First.{Cause, ◌gives◌, first}
use Rattle.laws.specs.Numbers.{first_has}
use Rattle.numbers.specs.Numbers.{OK, COUNTED_ALREADY, MOVED_PAST, NO_FREE_ROW, NO_MEMBER_OR_MESSAGE, NOT_ABOVE_LED, NOT_AWAITED, NOT_LEADER}
use Rattle.numbers.specs.Numbers.{ROUND_RANGE, STORE_FULL, WRONG_SLOT}
use Rattle.ids.specs.declared.Round.{Round}
use Rattle.ids.specs.declared.Member.{Member}
use Rattle.ids.specs.Ranges.{SLOTS, no_slot, out_of_range, above_range}
use Rattle.tree_theory.proofs.Calls.{unique}
use Rattle.message.specs.declared.Body.{Body}
use Rattle.message.specs.declared.Body.TheVariants.{Start, Join, JoinVoted, Propose, Vote}
use Rattle.member_record.specs.declared.MemberState.{MemberState}
use Rattle.member_record.specs.Record.{allowed, leads, round_number}
use Rattle.member_record.specs.Phases.{COLLECTING, PROPOSED}
use Rattle.member_rules.specs.Causes.{start_call_causes, START_causes, count_causes, other_vote, PROPOSE_causes}
use Rattle.member_rules.specs.Changes.{counting, adopting}
use Rattle.member.specs.Table.{Outcome, silent, complete, proposes, decides, step_causes, step_row, sound_step}
use Rattle.member.specs.Table.{MemberEvent, starts, delivers}
use Rattle.model.specs.Model.{Sizes, SlotEvent, Event, start, deliver, Office, first_office, made_in, member_at, message_at, at_member, unsent, foreign}
use Rattle.model.specs.Model.{event_of, event_outcome, absent, no_store_row, no_table_row, sends_one, proposes_one, proposals, event_answer, offered}
use Rattle.model.specs.Demand.{calls, ended}
use Rattle.model.specs.Counts.{made_tree}
use Rattle.model.proofs.Made.{proposal_call}
use Rattle.model.proofs.View.{SlotSizes, SlotView, sizes_in, view}
use Rattle.model.proofs.Kept.{KeptMember, KeptView, KeptOffice, message_seen, step_is_sound, ended_kept}
use Rattle.model.proofs.Invariant.{ProposalMade, MemberHolds, Invariant}
use Rattle.model.proofs.Events.{holds}
use Rattle.model.proofs.Demanded.{all_ok}
use Rattle.model.proofs.Tree.{nodes_counted}

-- 0, and what the rows round, start and deliver of the place table give, 21 and 23 apart
abbrev pub step_numbers : List ℕ
step_numbers = OK ∷ ROUND_RANGE ∷ NOT_LEADER ∷ NOT_ABOVE_LED ∷ MOVED_PAST ∷ NOT_AWAITED ∷ COUNTED_ALREADY ∷ []

-- and the rows event and last
abbrev pub event_numbers : List ℕ
event_numbers =
    OK ∷ ROUND_RANGE ∷ NO_FREE_ROW ∷ NOT_LEADER ∷ NOT_ABOVE_LED ∷ MOVED_PAST ∷ NOT_AWAITED ∷ COUNTED_ALREADY ∷ NO_MEMBER_OR_MESSAGE ∷ STORE_FULL ∷
    WRONG_SLOT ∷ []

among : (k : ℕ) (l : List ℕ) → any (eqb k) l ≡ true → k ∈ l
among k l h = any_elim (eqb k) l h (λ a i e. rw (eqb-true k a e) i)

abbrev all_in : List ℕ → List ℕ → Bool
all_in [] k = true
all_in (a ∷ l) k = any (eqb a) k && all_in l k

within : (l k : List ℕ) {a : ℕ} → all_in l k ≡ true → a ∈ l → a ∈ k
within [] k h i = elim i [ ]
within (b ∷ l) k h (here e) = rw e (among b k (and_left (any (eqb b) k) (all_in l k) h))
within (b ∷ l) k h (there i) = within l k (and_right (any (eqb b) k) (all_in l k) h) i

-- what a row of the member table does is accepted
either_zero : (b : Bool) (u v : Outcome) → u.number ≡ OK → v.number ≡ OK → (cond b u v).number ≡ OK
either_zero true u v p q = p
either_zero false u v p q = q

row_number : (m : MemberState) (e : MemberEvent) → (step_row m e).number ≡ OK
unfolding step_row
row_number m (starts r x) = refl
row_number m (delivers (Start r s)) = refl
row_number m (delivers (Join r s)) = either_zero (complete (counting m s)) (proposes (counting m s) r) (silent (counting m s)) refl refl
row_number m (delivers (JoinVoted r s q w)) =
    either_zero (complete (counting (adopting m q w) s)) (proposes (counting (adopting m q w) s) r) (silent (counting (adopting m q w) s)) refl refl
row_number m (delivers (Propose r s v)) = refl
row_number m (delivers (Vote r s)) = either_zero (complete (counting m s)) (decides (counting m s) r) (silent (counting m s)) refl refl

step_number : (m : MemberState) (e : MemberEvent) → (sound_step m e).number ≡ first (step_causes m e)
unfolding sound_step
step_number m e =
    by_test (eqb (first (step_causes m e)) OK)
    (λ t. let z : first (step_causes m e) ≡ OK = omega tests in rw z (row_number m e))
    (λ t. rw t refl)

-- the row "last" of the place table
abbrev last_causes : Sizes → Office → Event → List Cause
last_causes z o e =
    no_store_row z o e gives STORE_FULL ∷ no_table_row z o e gives NO_FREE_ROW ∷ []

-- of one slot
module _ (z : SlotSizes) (o : SlotView) (offers : List ℕ) (K : KeptView z o) (I : Invariant z o offers) where
  -- a message from the leader of its round
  led : (t : ℕ) (m : MemberState) (M : KeptMember z t m) (r : Round) (s : Member) → r.0 % z.n ≡ s.0 → not (leads m.who.n s r) ≡ true → ⊥
  led t m M r s h e = let l : leads m.who.n s r ≡ true = rw M.size (eq-eqb (r.0 % z.n) s.0 h) in clash e (rw l refl)

  -- a round is proposed with one value
  one_value : (r x y : ℕ) → ProposalMade o.made r x → ProposalMade o.made r y → x ≡ y
  one_value r x y a b =
      (unique true (calls o.made) I.made_so.properties r x a.parent y b.parent
      (proposal_call o.made a.is_made) (proposal_call o.made b.is_made)).0

  same_vote : (t : ℕ) (m : MemberState) (S : MemberHolds z.n o.sent o.made offers t m) (r : Round) (s : Member) (v : ℕ) → Propose r s v ∈ o.sent →
      out_of_range r.0 ≡ false → other_vote m r v ≡ true → ⊥
  same_vote t m S r s v i f h =
      let e : m.durable.voted.0 ≡ r.0 = omega (tests, and_left (eqb m.durable.voted.0 r.0) (not (eqb m.durable.vote v)) h) in
      let pos : 0 < m.durable.voted.0 = omega (tests, or_left (eqb r.0 0) (above_range r.0) f) in
      let a : ProposalMade o.made r.0 m.durable.vote = rw e at (S.vote_added pos) in
      omega (
        tests,
        one_value r.0 m.durable.vote v a (I.backed (Propose r s v) i),
        not-true (eqb m.durable.vote v) (and_right (eqb m.durable.voted.0 r.0) (not (eqb m.durable.vote v)) h),
      )

  -- a JOIN or VOTE from a member
  count_numbers : (t : ℕ) (m : MemberState) → KeptMember z t m → (phase : ℕ) (r : Round) (s : Member) → s.0 < z.n →
      first (count_causes phase m r s) ∈ step_numbers
  count_numbers t m M phase r s l =
      first_has (λ k. k ∈ step_numbers) (count_causes phase m r s) (among OK step_numbers refl)
      (λ e. absurd (omega (tests, M.size)), (λ e. among NOT_AWAITED step_numbers refl, (λ e. among COUNTED_ALREADY step_numbers refl, tt)))

  pub message_numbers : (t : ℕ) (m : MemberState) → KeptMember z t m → MemberHolds z.n o.sent o.made offers t m →
      (g : Body) → g ∈ o.sent → first (step_causes m (delivers g)) ∈ step_numbers
  unfolding step_causes
  message_numbers t m M S (Start r s) i =
      first_has (λ k. k ∈ step_numbers) (START_causes m r s) (among OK step_numbers refl)
      (λ e. absurd (led t m M r s (I.leaders (Start r s) i) e), (λ e. among MOVED_PAST step_numbers refl, tt))
  message_numbers t m M S (Join r s) i = count_numbers t m M COLLECTING r s (K.senders (Join r s) i)
  message_numbers t m M S (JoinVoted r s q w) i = count_numbers t m M COLLECTING r s (K.senders (JoinVoted r s q w) i)
  message_numbers t m M S (Propose r s v) i =
      first_has (λ k. k ∈ step_numbers) (PROPOSE_causes m r s v) (among OK step_numbers refl) (
        λ e. absurd (led t m M r s (I.leaders (Propose r s v) i) e),
        (
          λ e. among MOVED_PAST step_numbers refl,
          (λ e. absurd (same_vote t m S r s v i (not-true (out_of_range r.0) (and_left (not (out_of_range r.0)) _ (K.ranged (Propose r s v) i))) e), tt),
        ),
      )
  message_numbers t m M S (Vote r s) i = count_numbers t m M PROPOSED r s (K.senders (Vote r s) i)

-- of all
module _ (z : Sizes) (o : Office) (offers : ℕ → List ℕ) (K : KeptOffice z o)
    (I : (s : ℕ) → s < SLOTS → Invariant (sizes_in z s) (view o s) (offers s)) where
  -- the member's own number for an event of a member and of a message of its slot
  own_number : (s : ℕ) (d : SlotEvent) → s < SLOTS → at_member d < z.n → unsent o d ≡ false → foreign o s d ≡ false →
      first (step_causes (member_at z o s (at_member d)) (event_of o d)) ∈ step_numbers
  unfolding step_causes
  own_number s (start k r x) low l h f =
      first_has (λ k. k ∈ step_numbers) (start_call_causes (member_at z o s k) (round_number r)) (among OK step_numbers refl)
      (λ e. among ROUND_RANGE step_numbers refl, (λ e. among NOT_LEADER step_numbers refl, (λ e. among NOT_ABOVE_LED step_numbers refl, tt)))
  own_number s (deliver j k) low l h f =
      let seen = K.views s low in
      message_numbers (sizes_in z s) (view o s) (offers s) seen (I s low) k (member_at z o s k) (seen.each k l) ((I s low).members k l)
      (message_at o j).body (message_seen o s j k h f)

  -- the number of its member's step, where neither 32 nor 29 is given
  step_numbered : (e : Event) → no_slot e.slot ≡ false → absent z o e.event ≡ false → foreign o e.slot e.event ≡ false →
      (event_outcome z o e).number ∈ step_numbers
  step_numbered e x h f =
      let low : e.slot < SLOTS = omega tests in
      let member : at_member e.event < z.n = omega (tests, or_left (leb z.n (at_member e.event)) (unsent o e.event) h) in
      let sent : unsent o e.event ≡ false = or_right (leb z.n (at_member e.event)) (unsent o e.event) h in
      let seen = K.views e.slot low in
      let same = step_is_sound z o e seen.ranged (seen.each (at_member e.event) member).is_sound sent f in
      rw (same, step_number (member_at z o e.slot (at_member e.event)) (event_of o e.event)) (own_number e.slot e.event low member sent f)

  pub answer_numbers : (e : Event) → event_answer z o e ∈ event_numbers
  unfolding event_answer
  answer_numbers e =
      by_test (no_slot e.slot)
      (λ x. rw x (among WRONG_SLOT event_numbers refl))
      (λ x. rw x (by_test (absent z o e.event)
      (λ a. rw a (among NO_MEMBER_OR_MESSAGE event_numbers refl))
      (λ a. rw a (by_test (foreign o e.slot e.event)
      (λ f. rw f (among WRONG_SLOT event_numbers refl))
      (λ f. rw f (by_test (eqb (event_outcome z o e).number OK)
      (λ b. rw b (first_has (λ k. k ∈ event_numbers) (last_causes z o e) (among OK event_numbers refl)
      (λ c. among STORE_FULL event_numbers refl, (λ c. among NO_FREE_ROW event_numbers refl, tt))))
      (λ b. rw b (within step_numbers event_numbers refl (step_numbered e x a f)))))))))

  -- the numbers in front of the row last
  abbrev front_numbers : List ℕ
  front_numbers = OK ∷ NO_MEMBER_OR_MESSAGE ∷ WRONG_SLOT ∷ step_numbers

  -- a number of the row last is given only by its cause
  last_number : (e : Event) (k : ℕ) → any (eqb k) front_numbers ≡ false → event_answer z o e ≡ k → first (last_causes z o e) ≡ k
  unfolding event_answer
  last_number e k apart h =
      by_test (no_slot e.slot)
      (λ x. other WRONG_SLOT (there (there (here refl))) (rw x at h))
      (λ x. by_test (absent z o e.event)
      (λ a. other NO_MEMBER_OR_MESSAGE (there (here refl)) (rw (x, a) at h))
      (λ a. by_test (foreign o e.slot e.event)
      (λ f. other WRONG_SLOT (there (there (here refl))) (rw (x, a, f) at h))
      (λ f. by_test (eqb (event_outcome z o e).number OK)
      (λ b. rw (x, a, f, b) at h)
      (λ b. other (event_outcome z o e).number (there (there (there (step_numbered e x a f)))) (rw (x, a, f, b) at h)))))
    where
      other : (n : ℕ) → n ∈ front_numbers → n ≡ k → first (last_causes z o e) ≡ k
      other n i q = clash (any_intro (eqb k) front_numbers i (eq-eqb k n (sym q))) apart

  -- 30 is given only where the store is full
  pub thirty_full : (e : Event) → event_answer z o e ≡ STORE_FULL → length o.sent ≡ z.store
  thirty_full e h =
      let q : first (last_causes z o e) ≡ STORE_FULL = last_number e STORE_FULL refl h in
      by_test (no_store_row z o e)
      (λ c. omega (tests, K.fits, and_right (sends_one (event_outcome z o e).sent) (leb z.store (length o.sent)) c))
      (λ c. by_test (no_table_row z o e)
      (λ d. absurd (omega (arith, rw (c, d) at q)))
      (λ d. absurd (omega (arith, rw (c, d) at q))))

  -- and 9 only where the proposals of its slot fill the slot's table
  pub nine_full : (e : Event) → event_answer z o e ≡ NO_FREE_ROW → z.tables e.slot ≤ suc (proposals (made_in o e.slot))
  nine_full e h =
      let q : first (last_causes z o e) ≡ NO_FREE_ROW = last_number e NO_FREE_ROW refl h in
      by_test (no_store_row z o e)
      (λ c. absurd (omega (arith, rw c at q)))
      (λ c. by_test (no_table_row z o e)
      (λ d. omega (tests, and_right (proposes_one (event_outcome z o e).named) (leb (z.tables e.slot) (suc (proposals (made_in o e.slot)))) d))
      (λ d. absurd (omega (arith, rw (c, d) at q))))

module _ (z : Sizes) (es : List Event) (e : Event) (ok : allowed z.n ≡ true) where
  abbrev all_offers : ℕ → List ℕ
  all_offers s = offered s z (first_office z.n) es

  -- an event after any list gets one of these numbers
  pub numbers : event_answer z (ended z es) e ∈ event_numbers
  numbers = answer_numbers z (ended z es) all_offers (ended_kept z es ok) (λ s l. holds z ok s l es) e

  -- 30 only where no store row is free, and 9 only where no row of its slot's table is
  pub store_is_full : event_answer z (ended z es) e ≡ STORE_FULL → length (ended z es).sent ≡ z.store
  store_is_full = thirty_full z (ended z es) all_offers (ended_kept z es ok) (λ s l. holds z ok s l es) e

  pub table_is_full : e.slot < SLOTS → 0 < z.tables e.slot → event_answer z (ended z es) e ≡ NO_FREE_ROW →
      length (made_tree z (ended z es) e.slot) ≡ z.tables e.slot
  table_is_full low rows h =
      omega (
        arith,
        nodes_counted (z.tables e.slot) (made_in (ended z es) e.slot) (all_ok z es ok e.slot low rows),
        (holds z ok e.slot low es).made_so.room rows,
        nine_full z (ended z es) all_offers (ended_kept z es ok) (λ s l. holds z ok s l es) e h,
      )
