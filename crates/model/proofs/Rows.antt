-- Each row of the member table keeps the invariant: what is new of the member, of what it sends and of what is made. Assumes nothing.
use mathlib.Core.Path.{◌≡◌, refl, sym, ap, subst, ◌∙◌}
use mathlib.Core.Bool.{true, false, not}
use mathlib.Core.List.Memᴰ
use mathlib.Core.List.{List, [], ◌∷◌, ◌++◌, append-nil}
use mathlib.Core.Logic.{⊎_elim}
use Prim.Native.Nat.{ℕ, suc, ◌+◌, ◌<◌, ◌≤◌, ◌%◌}
use native.Mathlib.Omega.{arith}
use lib.Dec.{ltb, eqb}
use borrow.Author.Tests.{not-false}
use Rattle.laws.specs.Tests.{tests, by_test, clash, impossible}
use Rattle.laws.specs.Lists.{◌∈◌, by_last, in_last}
use Rattle.laws.specs.First.{AllPassed}
use Rattle.ids.specs.declared.Round.{Round}
use Rattle.ids.specs.declared.Member.{Member}
use Rattle.quorum.specs.Quorum.{HasQuorum}
use Rattle.tree_theory.proofs.Calls.{adds_elim, committed_added}
use Rattle.message.specs.declared.Body.{Body}
use Rattle.message.specs.declared.Body.TheVariants.{Start, Join, JoinVoted, Propose, Vote}
use Rattle.member_record.specs.declared.MemberState.{MemberState}
use Rattle.member_record.specs.Phases.{COLLECTING, PROPOSED}
use Rattle.member_record.specs.Record.{leads, round_number}
use Rattle.member_rules.specs.Causes.{start_call_causes, START_causes, PROPOSE_causes}
use Rattle.member_rules.specs.Changes.{joining, join_of, counting, voting}
use Rattle.member_rules.proofs.Late.{joined_within, vote_below}
use Rattle.member.specs.Table.{proposal, decision, silent, start_call_row, START_row, complete, proposes, decides, count_row, PROPOSE_row}
use Rattle.model.specs.Model.{member_number, proposals, proposes_one}
use Rattle.model.specs.Demand.{calls}
use Rattle.model.specs.Joins.{JoinOf}
use Rattle.model.proofs.Made.{decision_call, call_proposal}
use Rattle.model.proofs.Senders.{only}
use Rattle.model.proofs.View.{SlotSizes, SlotView}
use Rattle.model.proofs.Kept.{KeptMember, vote_lower}
use Rattle.model.proofs.Invariant.{join_quorum, vote_quorum, carried, Joined, Voted, Reached, Leading, MemberHolds, FromLeader, Backed}
use Rattle.model.proofs.Invariant.{Invariant}
use Rattle.model.proofs.Grows.{join_sender, join_reached, added_grows, joined_grows, leading_grows, made_calm, New}
use Rattle.model.proofs.Meeting.{Pasts, proposes_so, decides_so}
use Rattle.model.proofs.Counts.{Counts, counts_of, flag_set, no_flag, flagged_quorum, with_led, spoken_new, spoken_quiet}

module _ (z : SlotSizes) (o : SlotView) (offers : List ℕ) (I : Invariant z o offers) (t : ℕ) (m : MemberState) (M : KeptMember z t m)
    (S : MemberHolds z.n o.sent o.made offers t m) where
  -- the member leads a round that passed 19
  own_lead : (r : Round) → not (leads m.who.n m.who.me r) ≡ false → r.0 % z.n ≡ t
  own_lead r h =
      let q : eqb (r.0 % z.n) t ≡ true = rw (M.size, M.number) at (not-false (leads m.who.n m.who.me r) h) in
      omega tests

  own_number : m.who.me.0 ≡ t
  own_number = ap (λ s. s.0) M.number

  -- the leader's part, while only messages and offers are new
  leading_calm : (gs : List Body) (xs : List ℕ) →
      Leading z.n (o.sent ++ gs) (o.made ++ []) (offers ++ xs) t m.durable.led.0 m.lead.phase m.lead.value m.lead.source.0
      m.lead.flags
  leading_calm gs xs = leading_grows gs [] xs (λ a i. elim i [ ]) (λ h. (counts_of z t m M h).own) S.leading

  pub start_call_new : (r : Round) (x : ℕ) → AllPassed (start_call_causes m r) → New z o offers t (start_call_row m r x) (x ∷ [])
  start_call_new r x (range, (leader, (above, end))) = record {
    stands = record {
      spoken = spoken_quiet o.sent (Start r m.who.me ∷ []) t m.durable S.spoken r (omega tests)
          (only (Reached (with_led m.durable r)) (Start r m.who.me) (omega arith)) (only _ (Start r m.who.me) tt);
      leading = record {
        highest = λ s y b i e. omega (tests, S.leading.highest s y b (rw (append-nil o.made) at i) e);
        collects = λ p y b i. absurd (omega (tests, S.leading.highest r.0 y b (rw (append-nil o.made) at i) (own_lead r leader)));
        proposed = λ p q. absurd (omega arith);
        undecided = λ p. absurd (omega arith);
        joins = λ p s h. clash h (no_flag s);
        source_added = λ p h. absurd (omega arith);
        votes = λ p. absurd (omega arith);
        value_offered = λ p q. in_last offers x;
      };
      vote_added = λ h. added_grows [] (S.vote_added h);
    };
    leaders = only (FromLeader z.n) (Start r m.who.me) (own_lead r leader ∙ sym own_number);
    backed = only (Backed (o.made ++ [])) (Start r m.who.me) tt;
    names = λ a i. elim i [ ];
    made_so = made_calm (Start r m.who.me ∷ []) (x ∷ []) I.made_so;
  }

  -- the JOIN that the member sends
  abbrev own_join : Round → Body
  own_join r = join_of m.who.me m.durable r

  -- what holds of a JOIN with the member's vote and of one without
  of_join : (r : Round) (P : Body → Type 0) → (0 < m.durable.voted.0 → P (JoinVoted r m.who.me m.durable.voted m.durable.vote))
      → (m.durable.voted.0 ≡ 0 → P (Join r m.who.me)) → P (own_join r)
  of_join r P f g = by_test (ltb 0 m.durable.voted.0) (λ h. rw h (f (omega tests))) (λ h. rw h (g (omega tests)))

  no_vote : (r : Round) (k : ℕ) → Voted (own_join r ∷ []) k t → ⊥
  no_vote r k i =
      of_join r (λ g. Vote (round_number k) (member_number t) ≡ g → ⊥) (λ v e. impossible (cc)) (λ v e. impossible (cc)) (Memᴰ.eq_of_singleton i)

  pub START_new : (r : Round) (s : Member) → AllPassed (START_causes m r s) → New z o offers t (START_row m r) []
  START_new r s (leader, (early, end)) = record {
    stands = record {
      spoken = spoken_new o.sent (own_join r ∷ []) t m.durable S.spoken (joining m r).durable
          (only (Reached (joining m r).durable) (own_join r) (of_join r (Reached (joining m r).durable) (λ v. omega arith) (λ v. omega arith)))
          up (omega arith) (omega arith)
          (λ g r₁ k i j w low. only (λ x. k ≤ carried x) (own_join r) (of_join r (λ x. k ≤ carried x) (λ v. lower k w) (λ v. omega (arith, lower k w))) g i)
          (λ g r₁ k i j w low. absurd (no_vote r k w))
          (λ g r₁ i j. (of_round g r₁ i j, unvoted))
          (λ g i j v. ⊎_elim (λ k. first_told g k j) (λ k. Memᴰ.eq_of_singleton k ∙ own) (Memᴰ.append_cases o.sent i));
      leading = leading_calm (own_join r ∷ []) [];
      vote_added = λ h. added_grows [] (S.vote_added h);
    };
    leaders = only (FromLeader z.n) (own_join r) (of_join r (FromLeader z.n) (λ v. tt) (λ v. tt));
    backed = only (Backed (o.made ++ [])) (own_join r) (of_join r (Backed (o.made ++ [])) (λ h. added_grows [] (S.vote_added h)) (λ v. tt));
    names = λ a i. elim i [ ];
    made_so = made_calm (own_join r ∷ []) [] I.made_so;
  }
    where
      up : m.durable.joined.0 ≤ r.0
      up = joined_within m r early

      unvoted : m.durable.voted.0 < r.0
      unvoted = vote_below m r early (vote_lower z t m M)

      -- the JOIN sent is of r
      of_round : (g : Body) (k : ℕ) → g ∈ own_join r ∷ [] → JoinOf k t g → k ≡ r.0
      of_round g k =
          only (λ x. JoinOf k t x → k ≡ r.0) (own_join r) (of_join r (λ x. JoinOf k t x → k ≡ r.0) (λ v q. sym q.0) (λ v q. sym q.0)) g

      own : own_join r ≡ join_of (member_number t) m.durable r
      own = ap (λ s. join_of s m.durable r) M.number

      -- a JOIN of r sent before: START was repeated, and V and W are as they were
      first_told : (g : Body) → g ∈ o.sent → JoinOf r.0 t g → g ≡ join_of (member_number t) m.durable r
      first_told g i j =
          let at_most : r.0 ≤ m.durable.joined.0 = join_reached r.0 t m.durable g j (S.spoken.reached g i (join_sender r.0 t g j)) in
          let e : r.0 ≡ m.durable.joined.0 = omega (arith, up) in
          S.spoken.told g i (subst (λ k. JoinOf k t g) e j) (omega (arith, unvoted)) ∙
          ap (λ k. join_of (member_number t) m.durable (round_number k)) (sym e)

      -- each vote was for a round at most V
      lower : (k : ℕ) → Voted (o.sent ++ own_join r ∷ []) k t → k ≤ m.durable.voted.0
      lower k w =
          ⊎_elim (λ i. S.spoken.reached (Vote (round_number k) (member_number t)) i refl) (λ i. absurd (no_vote r k i)) (Memᴰ.append_cases o.sent w)

  pub PROPOSE_new : (r : Round) (s : Member) (v : ℕ) → Propose r s v ∈ o.sent → AllPassed (PROPOSE_causes m r s v) → New z o offers t (PROPOSE_row m r v) []
  PROPOSE_new r s v sent (leader, (past, (same, end))) =
      let up : m.durable.voted.0 ≤ m.durable.joined.0 = vote_lower z t m M in
      record {
        stands = record {
          spoken = spoken_new o.sent (Vote r m.who.me ∷ []) t m.durable S.spoken (voting m r v).durable
              (only (Reached (voting m r v).durable) (Vote r m.who.me) (omega arith)) (omega tests) (omega tests) (omega arith)
              (λ g r₁ k i j w low. absurd (no_join_sent g r₁ i j))
              (λ g r₁ k i j w low.
              let e : Vote (round_number k) (member_number t) ≡ Vote r m.who.me = Memᴰ.eq_of_singleton w in
              let q : round_number k ≡ r = cc in
              absurd (omega (
                tests,
                ap (λ x. x.0) q,
                join_reached r₁ t m.durable g j (S.spoken.reached g i (join_sender r₁ t g j)),
              )))
              (λ g r₁ i j. absurd (no_join_sent g r₁ i j))
              (λ g i j w. absurd (omega arith));
          leading = leading_calm (Vote r m.who.me ∷ []) [];
          vote_added = λ h. added_grows [] (I.backed (Propose r s v) sent);
        };
        leaders = only (FromLeader z.n) (Vote r m.who.me) tt;
        backed = only (Backed (o.made ++ [])) (Vote r m.who.me) tt;
        names = λ a i. elim i [ ];
        made_so = made_calm (Vote r m.who.me ∷ []) [] I.made_so;
      }
    where
      no_join_sent : (g : Body) (k : ℕ) → g ∈ Vote r m.who.me ∷ [] → JoinOf k t g → ⊥
      no_join_sent g k = only (λ x. JoinOf k t x → ⊥) (Vote r m.who.me) (λ x. x) g

-- JOINs and VOTEs counted; k is the member's record once the JOIN's vote is taken over
module _ (z : SlotSizes) (o : SlotView) (offers : List ℕ) (I : Invariant z o offers) (meets : z.n < join_quorum z.n + vote_quorum z.n)
    (t : ℕ) (k : MemberState) (C : Counts z t k) (S : MemberHolds z.n o.sent o.made offers t k) (s : Member) (low : s.0 < z.n) where
  pasts : Pasts z.n o.sent
  pasts i l = (I.members i l).spoken.past

  own_number_of : k.who.me.0 ≡ t
  own_number_of = ap (λ x. x.0) C.number

  -- one more flag, short of the quorum
  counted_new : (k.lead.phase ≡ COLLECTING → Joined o.sent k.durable.led.0 k.lead.source.0 s.0)
      → (k.lead.phase ≡ PROPOSED → Voted o.sent k.durable.led.0 s.0) →
      New z o offers t (silent (counting k s)) []
  counted_new join vote =
      let L : Leading z.n (o.sent ++ []) (o.made ++ []) (offers ++ []) t k.durable.led.0 k.lead.phase k.lead.value k.lead.source.0
      k.lead.flags =
      leading_grows [] [] [] (λ a i. elim i [ ]) (λ h. C.own) S.leading in
      record {
        stands = record {
          spoken = spoken_quiet o.sent [] t k.durable S.spoken k.durable.led (omega arith) (λ g i. elim i [ ]) (λ g i. elim i [ ]);
          leading = record {
            highest = L.highest;
            collects = L.collects;
            proposed = L.proposed;
            undecided = L.undecided;
            joins = λ p i h. flag_set k.lead.flags s.0 i h (λ e. rw e (joined_grows [] (join p))) (λ h. L.joins p i h);
            source_added = L.source_added;
            votes = λ p i h. flag_set k.lead.flags s.0 i h (λ e. rw e (Memᴰ.append_left [] (vote p))) (λ h. L.votes p i h);
            value_offered = L.value_offered;
          };
          vote_added = λ h. added_grows [] (S.vote_added h);
        };
        leaders = λ g i. elim i [ ];
        backed = λ g i. elim i [ ];
        names = λ a i. elim i [ ];
        made_so = made_calm [] [] I.made_so;
      }

  -- the JOIN that makes the quorum
  proposes_new : k.lead.phase ≡ COLLECTING → Joined o.sent k.durable.led.0 k.lead.source.0 s.0 → complete (counting k s) ≡ true
      → suc (proposals o.made) < z.table →
      New z o offers t (proposes (counting k s) k.durable.led) []
  proposes_new now join full row =
      record {
        stands = record {
          spoken = spoken_quiet o.sent (Propose k.durable.led k.who.me k.lead.value ∷ []) t k.durable S.spoken k.durable.led
              (omega arith) (only (Reached k.durable) (Propose k.durable.led k.who.me k.lead.value) (omega arith))
              (only _ (Propose k.durable.led k.who.me k.lead.value) tt);
          leading = record {
            highest = λ r y b i e. by_last o.made i (λ j. S.leading.highest r y b j e) (λ q. let w : r ≡ k.durable.led.0 = cc in omega arith);
            collects = λ p. absurd (omega arith);
            proposed = λ p q. in_last o.made (proposal k.durable.led.0 k.lead.value k.lead.source.0);
            undecided = λ p y i. by_last o.made i (undecided_before y) (λ q. impossible (cc));
            joins = λ p. absurd (omega arith);
            source_added = λ p. absurd (omega arith);
            votes = λ p i h. clash h (no_flag i);
            value_offered = λ p q. Memᴰ.append_left [] (S.leading.value_offered (omega arith) (omega arith));
          };
          vote_added = λ h. added_grows (proposal k.durable.led.0 k.lead.value k.lead.source.0 ∷ []) (S.vote_added h);
        };
        leaders = only (FromLeader z.n) (Propose k.durable.led k.who.me k.lead.value) (C.own ∙ sym own_number_of);
        backed = only (Backed (o.made ++ proposal k.durable.led.0 k.lead.value k.lead.source.0 ∷ []))
            (Propose k.durable.led k.who.me k.lead.value)
            (record { parent = k.lead.source.0; is_made = in_last o.made (proposal k.durable.led.0 k.lead.value k.lead.source.0) });
        names = λ a i. rw (Memᴰ.eq_of_singleton i) C.own;
        made_so = proposes_so z o.sent o.made offers I.made_so pasts meets k.durable.led.0 k.lead.value k.lead.source.0 C.ranged
            (S.leading.collects now) C.lower (S.leading.source_added now) quorum_joined (S.leading.value_offered (omega arith) (omega arith)) row
            (Propose k.durable.led k.who.me k.lead.value ∷ []) [];
      }
    where
      quorum_joined : HasQuorum z.n (join_quorum z.n) (Joined o.sent k.durable.led.0 k.lead.source.0)
      quorum_joined = rw (← now) (flagged_quorum z t k s (Joined o.sent k.durable.led.0 k.lead.source.0) C (omega (arith, C.size)) full
          (λ i h. flag_set k.lead.flags s.0 i h (λ e. rw e join) (S.leading.joins now i)))

      -- what isn't proposed isn't decided
      undecided_before : (y : ℕ) → decision k.durable.led.0 y ∈ o.made → ⊥
      undecided_before y i =
          adds_elim k.durable.led.0 (calls o.made)
          (committed_added true (calls o.made) I.made_so.properties k.durable.led.0 (decision_call o.made i))
          (λ v p j. S.leading.collects now v p (call_proposal o.made j))

  -- the VOTE that makes the quorum
  decides_new : k.lead.phase ≡ PROPOSED → Voted o.sent k.durable.led.0 s.0 → complete (counting k s) ≡ true
      → New z o offers t (decides (counting k s) k.durable.led) []
  decides_new now vote full = record {
    stands = record {
      spoken = spoken_quiet o.sent [] t k.durable S.spoken k.durable.led (omega arith) (λ g i. elim i [ ]) (λ g i. elim i [ ]);
      leading = record {
        highest = λ r y b i e. by_last o.made i (λ j. S.leading.highest r y b j e) (λ q. impossible (cc));
        collects = λ p. absurd (omega arith);
        proposed = λ p q. Memᴰ.append_left (decision k.durable.led.0 k.lead.value ∷ []) follows;
        undecided = λ p. absurd (omega arith);
        joins = λ p. absurd (omega arith);
        source_added = λ p. absurd (omega arith);
        votes = λ p. absurd (omega arith);
        value_offered = λ p q. Memᴰ.append_left [] (S.leading.value_offered (omega arith) (omega arith));
      };
      vote_added = λ h. added_grows (decision k.durable.led.0 k.lead.value ∷ []) (S.vote_added h);
    };
    leaders = λ g i. elim i [ ];
    backed = λ g i. elim i [ ];
    names = λ a i. rw (Memᴰ.eq_of_singleton i) C.own;
    made_so = decides_so z o.sent o.made offers I.made_so pasts meets k.durable.led.0 k.lead.value k.lead.source.0 C.ranged
        (S.leading.undecided now) follows quorum_voted [] [];
  }
    where
      follows : proposal k.durable.led.0 k.lead.value k.lead.source.0 ∈ o.made
      follows = S.leading.proposed (omega arith) (omega arith)

      quorum_voted : HasQuorum z.n (vote_quorum z.n) (Voted o.sent k.durable.led.0)
      quorum_voted = rw (← now) (flagged_quorum z t k s (Voted o.sent k.durable.led.0) C (omega (arith, C.size)) full
          (λ i h. flag_set k.lead.flags s.0 i h (λ e. rw e vote) (S.leading.votes now i)))

  pub JOIN_new : k.lead.phase ≡ COLLECTING → Joined o.sent k.durable.led.0 k.lead.source.0 s.0 →
      (proposes_one (count_row COLLECTING k k.durable.led s).named ≡ true → suc (proposals o.made) < z.table)
      → New z o offers t (count_row COLLECTING k k.durable.led s) []
  JOIN_new now join row =
      by_test (complete (counting k s))
      (λ h. rw h (proposes_new now join h (row (rw h refl))))
      (λ h. rw h (counted_new (λ p. join) (λ p. absurd (omega arith))))

  pub VOTE_new : k.lead.phase ≡ PROPOSED → Voted o.sent k.durable.led.0 s.0 → New z o offers t (count_row PROPOSED k k.durable.led s) []
  VOTE_new now vote =
      by_test (complete (counting k s))
      (λ h. rw h (decides_new now vote h))
      (λ h. rw h (counted_new (λ p. absurd (omega arith)) (λ p. vote)))
