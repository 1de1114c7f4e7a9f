-- A proposal or a decision more. Where a join quorum and a vote quorum meet, a member voted for c and joined r with a vote at most b, so
-- the edge (r, b) doesn't cross c: the four properties stay. Assumes nothing.
use mathlib.Core.Path.{◌≡◌, refl}
use mathlib.Core.Bool.{true, false}
use mathlib.Core.List.Memᴰ
use mathlib.Core.List.{List, [], ◌∷◌, ◌++◌}
use Prim.Native.Nat.{ℕ, suc, ◌+◌, ◌<◌, ◌≤◌}
use native.Mathlib.Omega.{arith}
use lib.Dec.{ltb, eqb}
use Rattle.laws.specs.Tests.{tests, by_test, impossible, and_left, and_right}
use Rattle.laws.specs.Lists.{◌∈◌, by_last, every_snoc, none_any}
use Rattle.ids.specs.Ranges.{out_of_range}
use Rattle.quorum.specs.Quorum.{HasQuorum}
use Rattle.quorum.proofs.Meet.{wider, both, exceeds}
use Rattle.member_record.specs.Phases.{needed}
use Rattle.tree_theory.specs.Machine.{Call, add, commit, crosses}
use Rattle.tree_theory.specs.Properties.{round_of, adds, commits, edge_crosses}
use Rattle.tree_theory.proofs.Calls.{NextCall, grow, adds_intro, adds_with_intro}
use Rattle.message.specs.declared.Body.{Body}
use Rattle.member_record.specs.Record.{allowed}
use Rattle.member_record.proofs.Quorums.{allowed_majority}
use Rattle.member.specs.Table.{Named, proposal, decision}
use Rattle.model.specs.Model.{proposals}
use Rattle.model.specs.Demand.{calls}
use Rattle.model.specs.Joins.{JoinOf}
use Rattle.model.proofs.View.{SlotSizes}
use Rattle.model.proofs.Made.{calls_append, proposals_append, proposal_call, call_proposal, call_decision}
use Rattle.model.proofs.Invariant.{join_quorum, vote_quorum, carried, Joined, Voted, ProposalMade, MadeSo}
use Rattle.model.proofs.Grows.{added_grows, joined_grows}

-- joins and votes needed are more than N together, since each is f+1 of 2f+1
pub allowed_meets : (n : ℕ) → allowed n ≡ true → n < join_quorum n + vote_quorum n
unfolding needed
allowed_meets n h = allowed_majority n h (λ f m. exceeds m)

-- `past` of every member
abbrev pub Pasts : ℕ → List Body → Type 0
Pasts n sent = (s : ℕ) → s < n → (g : Body) (r c : ℕ) → g ∈ sent → JoinOf r s g → Voted sent c s → c < r → c ≤ carried g

module _ (z : SlotSizes) (sent : List Body) (made : List Named) (offers : List ℕ) (M : MadeSo z sent made offers) (past : Pasts z.n sent)
    (meets : z.n < join_quorum z.n + vote_quorum z.n) where
  uncrossed_by : (r b c : ℕ) → HasQuorum z.n (join_quorum z.n) (Joined sent r b) → HasQuorum z.n (vote_quorum z.n) (Voted sent c) →
      crosses r b c ≡ false
  uncrossed_by r b c J W =
      by_test (crosses r b c)
      (λ t. both meets J W (λ s l j w.
      let at_least : c ≤ carried j.message = past s l j.message r c j.is_sent j.is_join w (omega (tests, and_right (ltb b c) (ltb c r) t)) in
      absurd (omega (tests, j.at_most, and_left (ltb b c) (ltb c r) t))))
      (λ t. t)

  -- one more proposal
  module _ (r x b : ℕ) (ranged : out_of_range r ≡ false) (new : (y c : ℕ) → proposal r y c ∈ made → ⊥) (lower : b < r)
      (parent : 0 < b → ProposalMade made b x) (J : HasQuorum z.n (join_quorum z.n) (Joined sent r b)) (from : x ∈ offers)
      (row : suc (proposals made) < z.table) (gs : List Body) (xs : List ℕ) where
    add_next : NextCall true (calls made) (add r x b)
    add_next = record {
      new = none_any (adds r) (calls made) fresh_round;
      lower = lower;
      parent = λ h. adds_with_intro true x (calls made) (proposal_call made (parent h).is_made) (λ e. refl);
      clear = λ c i. call_decision made i (λ y j. uncrossed_by r b c J (M.vote_met c y j));
    }
      where
        fresh_round : (a : Call) → a ∈ calls made → adds r a ≡ false
        fresh_round (add s y c) i =
            by_test (eqb s r) (λ t. let e : s ≡ r = omega tests in absurd (new y c (call_proposal made (rw e at i)))) (λ t. t)
        fresh_round (commit s) i = refl

    pub proposes_so : MadeSo z (sent ++ gs) (made ++ proposal r x b ∷ []) (offers ++ xs)
    unfolding proposals calls
    proposes_so = record {
      properties = rw (calls_append made (proposal r x b ∷ [])) (grow true (calls made) (add r x b) M.properties add_next);
      ranged = rw (calls_append made (proposal r x b ∷ [])) (every_snoc (λ c. out_of_range (round_of c) ≡ false) (calls made) (add r x b) M.ranged ranged);
      join_met = λ s y c i. by_last made i
          (λ k. wider (λ t j. joined_grows gs j) (M.join_met s y c k))
          (λ e. let p : s ≡ r = cc in let q : c ≡ b = cc in rw (p, q) (wider (λ t j. joined_grows gs j) J));
      vote_met = λ s y i. by_last made i (λ k. wider (λ t j. Memᴰ.append_left gs j) (M.vote_met s y k)) (λ e. impossible (cc));
      decided_added = λ s y i. by_last made i (λ k. added_grows (proposal r x b ∷ []) (M.decided_added s y k)) (λ e. impossible (cc));
      offered_so = λ s y c i. by_last made i
          (λ k. Memᴰ.append_left xs (M.offered_so s y c k))
          (λ e. let p : y ≡ x = cc in rw p (Memᴰ.append_left xs from));
      room = λ h. rw (proposals_append made (proposal r x b ∷ [])) (omega arith);
    }

  -- one more decision
  module _ (r x b : ℕ) (ranged : out_of_range r ≡ false) (new : (y : ℕ) → decision r y ∈ made → ⊥) (follows : proposal r x b ∈ made)
      (W : HasQuorum z.n (vote_quorum z.n) (Voted sent r)) (gs : List Body) (xs : List ℕ) where
    commit_next : NextCall true (calls made) (commit r)
    commit_next = record {
      follows = adds_intro (calls made) (proposal_call made follows);
      new = none_any (commits r) (calls made) fresh_round;
      clear = none_any (edge_crosses r) (calls made) clear;
    }
      where
        fresh_round : (a : Call) → a ∈ calls made → commits r a ≡ false
        fresh_round (add s y c) i = refl
        fresh_round (commit s) i =
            by_test (eqb s r) (λ t. let e : s ≡ r = omega tests in absurd (call_decision made (rw e at i) (λ y j. new y j))) (λ t. t)

        clear : (a : Call) → a ∈ calls made → edge_crosses r a ≡ false
        clear (add s y c) i = uncrossed_by s c r (M.join_met s y c (call_proposal made i)) W
        clear (commit s) i = refl

    pub decides_so : MadeSo z (sent ++ gs) (made ++ decision r x ∷ []) (offers ++ xs)
    unfolding proposals calls
    decides_so = record {
      properties = rw (calls_append made (decision r x ∷ [])) (grow true (calls made) (commit r) M.properties commit_next);
      ranged = rw (calls_append made (decision r x ∷ [])) (every_snoc (λ c. out_of_range (round_of c) ≡ false) (calls made) (commit r) M.ranged ranged);
      join_met = λ s y c i. by_last made i (λ k. wider (λ t j. joined_grows gs j) (M.join_met s y c k)) (λ e. impossible (cc));
      vote_met = λ s y i. by_last made i
          (λ k. wider (λ t j. Memᴰ.append_left gs j) (M.vote_met s y k))
          (λ e. let p : s ≡ r = cc in rw p (wider (λ t j. Memᴰ.append_left gs j) W));
      decided_added = λ s y i. by_last made i
          (λ k. added_grows (decision r x ∷ []) (M.decided_added s y k))
          (λ e. let p : s ≡ r = cc in let q : y ≡ x = cc in rw (p, q) (added_grows (decision r x ∷ []) (record { parent = b; is_made = follows })));
      offered_so = λ s y c i. by_last made i (λ k. Memᴰ.append_left xs (M.offered_so s y c k)) (λ e. impossible (cc));
      room = λ h. rw (proposals_append made (decision r x ∷ [])) (omega (arith, M.room h));
    }
