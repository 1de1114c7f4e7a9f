-- What holds stays so as messages, proposals and offers go behind the others: of members that did not take the step, and of the whole.
-- `keep` asks of an accepted step only what is new. Assumes nothing.
use mathlib.Core.Path.{◌≡◌, refl, sym, ◌∙◌}
use mathlib.Core.Bool.{Bool}
use mathlib.Core.List.Memᴰ
use mathlib.Core.List.{List, [], ◌++◌, append-nil}
use mathlib.Core.Logic.{◌≢◌, ⊎_elim}
use Prim.Native.Nat.{ℕ, ◌<◌, ◌≤◌, ◌%◌}
use native.Mathlib.Omega.{arith}
use Rattle.laws.specs.Lists.{◌∈◌}
use Rattle.laws.specs.Elements.{set_each}
use Rattle.quorum.proofs.Meet.{wider}
use Rattle.message.specs.declared.Body.{Body}
use Rattle.message.specs.declared.Body.TheVariants.{Start, Join, JoinVoted, Propose, Vote}
use Rattle.member_record.specs.declared.Durable.{Durable}
use Rattle.member_record.specs.Phases.{COLLECTING}
use Rattle.member_record.specs.Record.{fresh_record, slot_number}
use Rattle.member.specs.Table.{Outcome, Named, nothing, proposal, decision}
use Rattle.model.specs.Model.{member_number, made_by}
use Rattle.model.specs.Joins.{JoinOf}
use Rattle.model.proofs.Senders.{sender}
use Rattle.model.proofs.View.{SlotSizes, SlotView, view_member, becomes}
use Rattle.model.proofs.Kept.{KeptView, own_round}
use Rattle.model.proofs.Invariant.{Joined, ProposalMade, Reached, Spoken, Leading, MemberHolds, FromLeader, Backed, MadeSo, Invariant}

abbrev pub round_named : Named → ℕ
round_named nothing = 0
round_named (proposal r x b) = r
round_named (decision r x) = r

pub added_grows : {made : List Named} {r x : ℕ} (ns : List Named) → ProposalMade made r x → ProposalMade (made ++ ns) r x
added_grows ns a = record { parent = a.parent; is_made = Memᴰ.append_left ns a.is_made }

pub joined_grows : {sent : List Body} {r b s : ℕ} (gs : List Body) → Joined sent r b s → Joined (sent ++ gs) r b s
joined_grows gs j = record { message = j.message; is_sent = Memᴰ.append_left gs j.is_sent; is_join = j.is_join; at_most = j.at_most }

pub backed_grows : (made ns : List Named) (g : Body) → Backed made g → Backed (made ++ ns) g
backed_grows made ns (Start r s) b = b
backed_grows made ns (Join r s) b = b
backed_grows made ns (JoinVoted r s q w) b = added_grows ns b
backed_grows made ns (Propose r s v) b = added_grows ns b
backed_grows made ns (Vote r s) b = b

-- J, V and L only rise
pub reached_rises : (d e : Durable) (g : Body) → d.joined.0 ≤ e.joined.0 → d.voted.0 ≤ e.voted.0 → d.led.0 ≤ e.led.0 → Reached d g → Reached e g
reached_rises d e (Start r s) a b c h = omega arith
reached_rises d e (Join r s) a b c h = omega arith
reached_rises d e (JoinVoted r s q w) a b c h = omega arith
reached_rises d e (Propose r s x) a b c h = omega arith
reached_rises d e (Vote r s) a b c h = omega arith

pub join_sender : (r s : ℕ) (g : Body) → JoinOf r s g → sender g ≡ s
join_sender r₁ s₁ (Start r s) h = absurd h
join_sender r₁ s₁ (Join r s) h = h.1
join_sender r₁ s₁ (JoinVoted r s q w) h = h.1
join_sender r₁ s₁ (Propose r s v) h = absurd h
join_sender r₁ s₁ (Vote r s) h = absurd h

pub join_reached : (r t : ℕ) (d : Durable) (g : Body) → JoinOf r t g → Reached d g → r ≤ d.joined.0
join_reached r t d (Start r₁ s) o h = absurd o
join_reached r t d (Join r₁ s) o h = omega (arith, o.0)
join_reached r t d (JoinVoted r₁ s q w) o h = omega (arith, o.0)
join_reached r t d (Propose r₁ s x) o h = absurd o
join_reached r t d (Vote r₁ s) o h = absurd o

-- a member other than the sender said nothing new
pub spoken_other : {sent : List Body} {t : ℕ} {d : Durable} (gs : List Body) → ((g : Body) → g ∈ gs → sender g ≢ t) →
    Spoken sent t d → Spoken (sent ++ gs) t d
spoken_other {sent} {t} {d} gs f S = record {
  reached = λ g i e. ⊎_elim (λ k. S.reached g k e) (λ k. absurd (f g k e)) (Memᴰ.append_cases sent i);
  past = λ g r c i o w b.
      ⊎_elim (λ h. S.past g r c (before g r i o) o h b) (λ h. absurd (f (Vote _ _) h refl)) (Memᴰ.append_cases sent w);
  told = λ g i o. S.told g (before g d.joined.0 i o) o;
  same = λ r g h i j o p. S.same r g h (before g r i o) (before h r j p) o p;
}
  where
    -- its JOINs were there before
    before : (g : Body) (r : ℕ) → g ∈ sent ++ gs → JoinOf r t g → g ∈ sent
    before g r i o = ⊎_elim (λ k. k) (λ k. absurd (f g k (join_sender r t g o))) (Memᴰ.append_cases sent i)

-- a leader stays as it is while none of the proposals and decisions made is of a round of its own
pub leading_grows : {n : ℕ} {sent : List Body} {made : List Named} {offers : List ℕ} {t led phase value source : ℕ} {flags : List Bool}
    (gs : List Body) (ns : List Named) (xs : List ℕ) → ((a : Named) → a ∈ ns → round_named a % n ≢ t) → (COLLECTING ≤ phase → led % n ≡ t) →
    Leading n sent made offers t led phase value source flags → Leading n (sent ++ gs) (made ++ ns) (offers ++ xs) t led phase value source flags
leading_grows {made = made} gs ns xs f own L = record {
  highest = λ r x b i e. ⊎_elim (λ k. L.highest r x b k e) (λ k. absurd (f (proposal r x b) k e)) (Memᴰ.append_cases made i);
  collects = λ p x b i. ⊎_elim (L.collects p x b) (λ k. f (proposal _ x b) k (own (omega arith))) (Memᴰ.append_cases made i);
  proposed = λ p q. Memᴰ.append_left ns (L.proposed p q);
  undecided = λ p x i. ⊎_elim (L.undecided p x) (λ k. f (decision _ x) k (own (omega arith))) (Memᴰ.append_cases made i);
  joins = λ p s h. joined_grows gs (L.joins p s h);
  source_added = λ p h. added_grows ns (L.source_added p h);
  votes = λ p s h. Memᴰ.append_left gs (L.votes p s h);
  value_offered = λ p q. Memᴰ.append_left xs (L.value_offered p q);
}

-- nothing new was made
pub made_calm : {z : SlotSizes} {sent : List Body} {made : List Named} {offers : List ℕ} (gs : List Body) (xs : List ℕ) →
    MadeSo z sent made offers → MadeSo z (sent ++ gs) (made ++ []) (offers ++ xs)
made_calm {made = made} gs xs M = rw (append-nil made) (record {
  properties = M.properties;
  ranged = M.ranged;
  join_met = λ r x b i. wider (λ s j. joined_grows gs j) (M.join_met r x b i);
  vote_met = λ r x i. wider (λ s j. Memᴰ.append_left gs j) (M.vote_met r x i);
  decided_added = M.decided_added;
  offered_so = λ r x b i. Memᴰ.append_left xs (M.offered_so r x b i);
  room = M.room;
})

-- what is asked of a step of member t with outcome u, at which xs was offered
pub record New (z : SlotSizes) (o : SlotView) (offers : List ℕ) (t : ℕ) (u : Outcome) (xs : List ℕ) : Type 0 where
  pub stands : MemberHolds z.n (o.sent ++ u.sent) (o.made ++ made_by u.named) (offers ++ xs) t u.state
  pub leaders : (g : Body) → g ∈ u.sent → FromLeader z.n g
  pub backed : (g : Body) → g ∈ u.sent → Backed (o.made ++ made_by u.named) g
  -- what is made is of a round that t leads
  pub names : (a : Named) → a ∈ made_by u.named → round_named a % z.n ≡ t
  pub made_so : MadeSo z (o.sent ++ u.sent) (o.made ++ made_by u.named) (offers ++ xs)

pub keep : (z : SlotSizes) (o : SlotView) (offers : List ℕ) (t : ℕ) (u : Outcome) (xs : List ℕ) → KeptView z o → Invariant z o offers → t < z.n →
    ((g : Body) → g ∈ u.sent → sender g ≡ t) → New z o offers t u xs → Invariant z (becomes o t u) (offers ++ xs)
keep z o offers t u xs K I low mine N = record {
  members = λ s l. set_each (MemberHolds z.n (o.sent ++ u.sent) (o.made ++ made_by u.named) (offers ++ xs))
      (λ k. fresh_record (slot_number z.slot) (member_number k) z.n)
      o.members t u.state (omega (arith, K.count)) N.stands (λ k b d. other k (omega (arith, K.count)) d) s (omega (arith, K.count));
  leaders = λ g i. ⊎_elim (I.leaders g) (N.leaders g) (Memᴰ.append_cases o.sent i);
  backed = λ g i. ⊎_elim (λ k. backed_grows o.made (made_by u.named) g (I.backed g k)) (N.backed g) (Memᴰ.append_cases o.sent i);
  made_so = N.made_so;
}
  where
    other : (k : ℕ) → k < z.n → k ≢ t → MemberHolds z.n (o.sent ++ u.sent) (o.made ++ made_by u.named) (offers ++ xs) k (view_member z o k)
    other k l d =
        let S : MemberHolds z.n o.sent o.made offers k (view_member z o k) = I.members k l in
        record {
          spoken = spoken_other u.sent (λ g i e. d (sym e ∙ mine g i)) S.spoken;
          leading = leading_grows u.sent (made_by u.named) xs (λ a i e. d (sym e ∙ N.names a i))
              (own_round z k (view_member z o k) (K.each k l)) S.leading;
          vote_added = λ h. added_grows (made_by u.named) (S.vote_added h);
        }
