-- A leader that counts JOINs or VOTEs: its flags with one more, and the quorum that they are when the count is complete. What a
-- member said, with what it says now. Assumes nothing.
use mathlib.Core.Path.{◌≡◌, refl, sym, subst, ◌∙◌}
use mathlib.Core.Bool.{Bool, true, false, not}
use mathlib.Core.List.Memᴰ
use mathlib.Core.List.{List, ◌++◌}
use mathlib.Core.Logic.{◌≢◌, ⊎_elim}
use Prim.Native.Nat.{ℕ, ◌<◌, ◌≤◌, ◌%◌}
use native.Mathlib.Omega.{arith}
use lib.ListN.{length, set, replicate, get_or-replicate, get_or-eq_default}
use lib.Seq.{get_or-set_other}
use lib.Dec.{ltb, eqb}
use Rattle.laws.specs.Tests.{tests, by_test}
use Rattle.laws.specs.Lists.{◌∈◌}
use Rattle.ids.specs.declared.Round.{Round}
use Rattle.ids.specs.declared.Member.{Member}
use Rattle.ids.specs.Ranges.{out_of_range}
use Rattle.quorum.specs.Count.{count, some}
use Rattle.quorum.specs.Quorum.{HasQuorum}
use Rattle.message.specs.declared.Body.{Body}
use Rattle.message.specs.declared.Body.TheVariants.{Start, Join, JoinVoted, Propose, Vote}
use Rattle.member_record.specs.declared.Durable.{Durable}
use Rattle.member_record.specs.declared.MemberState.{MemberState}
use Rattle.member_record.specs.Phases.{COLLECTING, needed}
use Rattle.member_record.specs.Record.{flag, flagged, flag_from, no_flags}
use Rattle.member_rules.specs.Changes.{join_of, counting, adopted}
use Rattle.member.specs.Table.{complete}
use Rattle.member_record.proofs.Sound.{parts, sound_size}
use Rattle.member_record.proofs.Flags.{counts_agree, set_from}
use Rattle.member_record.proofs.Quorums.{needed_alike}
use Rattle.model.specs.Model.{member_number}
use Rattle.model.specs.Joins.{JoinOf}
use Rattle.model.proofs.View.{SlotSizes}
use Rattle.model.proofs.Kept.{KeptMember, own_round, led_ranged, source_lower}
use Rattle.model.proofs.Invariant.{office_who, carried, Voted, Reached, Spoken}
use Rattle.model.proofs.Grows.{reached_rises}

-- what soundness says of a member that isn't idle, its vote count apart
pub record Counts (z : SlotSizes) (t : ℕ) (m : MemberState) : Type 0 where
  pub number : m.who.me ≡ member_number t
  pub size : m.who.n ≡ z.n
  pub own : m.durable.led.0 % z.n ≡ t
  pub ranged : out_of_range m.durable.led.0 ≡ false
  pub lower : m.lead.source.0 < m.durable.led.0
  pub seven : length m.lead.flags ≡ 7
  pub small : m.who.n ≤ 7
  pub none_from : not (some (flag_from m.who.n m.lead.flags) 7) ≡ true

pub counts_of : (z : SlotSizes) (t : ℕ) (m : MemberState) → KeptMember z t m → COLLECTING ≤ m.lead.phase → Counts z t m
counts_of z t m M h = record {
  number = M.number;
  size = M.size;
  own = own_round z t m M h;
  ranged = led_ranged z t m M h;
  lower = source_lower z t m M h;
  seven = M.seven;
  small = (sound_size m M.is_sound).1;
  none_from = (parts m M.is_sound).flags;
}

-- a vote below L taken over
pub counts_adopted : (z : SlotSizes) (t : ℕ) (m : MemberState) (q : Round) (w : ℕ) → q.0 < m.durable.led.0 → Counts z t m → Counts z t (adopted m q w)
counts_adopted z t m q w h c = record {
  number = c.number;
  size = c.size;
  own = c.own;
  ranged = c.ranged;
  lower = h;
  seven = c.seven;
  small = c.small;
  none_from = c.none_from;
}

-- a flag after that of s was set is that of s or was there before
pub flag_set {κ} : {C : Type κ} (fs : List Bool) (s i : ℕ) → flag (set fs s true) i ≡ true → (i ≡ s → C) → (flag fs i ≡ true → C) → C
flag_set fs s i h f g =
    by_test (eqb i s)
    (λ t. f (omega tests))
    (λ t. let d : i ≢ s = omega tests in g (rw (get_or-set_other fs s i true false d) at h))

pub no_flag : (s : ℕ) → flag no_flags s ≡ false
no_flag s =
    by_test (ltb s 7)
    (λ t. get_or-replicate 7 s false false (omega tests))
    (λ t. get_or-eq_default (replicate 7 false) false {n = s} (omega tests))

-- a complete count is a quorum
pub flagged_quorum : (z : SlotSizes) (t : ℕ) (m : MemberState) (s : Member) (P : ℕ → Type 0) → Counts z t m → s.0 < m.who.n → complete (counting m s) ≡ true →
    ((i : ℕ) → flag (set m.lead.flags s.0 true) i ≡ true → P i) → HasQuorum z.n (needed (office_who z.n) m.lead.phase) P
unfolding flagged
flagged_quorum z t m s P c low full f =
    let all : eqb (count (flag (set m.lead.flags s.0 true)) m.who.n) (count (flag (set m.lead.flags s.0 true)) 7) ≡ true =
    counts_agree m.who.n (set m.lead.flags s.0 true) c.small ∙ set_from m.lead.flags s.0 c.seven (omega (arith, c.small)) m.who.n
    low c.none_from in
    let asked : needed m.who m.lead.phase ≡ needed (office_who m.who.n) m.lead.phase =
    needed_alike m.who (office_who m.who.n) m.lead.phase refl in
    rw (← c.size) (record { who = flag (set m.lead.flags s.0 true); enough = omega (tests, asked); each = λ i l h. f i h })

-- neither a JOIN nor a VOTE
abbrev pub Quiet : Body → Type 0
Quiet (Start r s) = Unit {0}
Quiet (Join r s) = ⊥
Quiet (JoinVoted r s q w) = ⊥
Quiet (Propose r s x) = Unit {0}
Quiet (Vote r s) = ⊥

no_join : (r t : ℕ) (g : Body) → Quiet g → JoinOf r t g → ⊥
no_join r t (Start r₁ s) q o = o
no_join r t (Join r₁ s) q o = q
no_join r t (JoinVoted r₁ s p w) q o = q
no_join r t (Propose r₁ s x) q o = o
no_join r t (Vote r₁ s) q o = o

-- what must last, with another L
abbrev pub with_led : Durable → Round → Durable
with_led d l = record { joined = d.joined; voted = d.voted; vote = d.vote; led = l }

-- what member t says beside what it said, while its J, V and L rise
module _ (sent gs : List Body) (t : ℕ) (d : Durable) (S : Spoken sent t d) where
  module _ (e : Durable) (more : (g : Body) → g ∈ gs → Reached e g) (a : d.joined.0 ≤ e.joined.0) (b : d.voted.0 ≤ e.voted.0)
      (c : d.led.0 ≤ e.led.0) where
    -- asked of what is new: each VOTE for a round below that of a JOIN, where one of the two is new; that a new JOIN is of J, which has no vote
    -- yet; and that all JOINs of J are the one that V and W make
    pub spoken_new : ((g : Body) (r k : ℕ) → g ∈ gs → JoinOf r t g → Voted (sent ++ gs) k t → k < r → k ≤ carried g) →
        ((g : Body) (r k : ℕ) → g ∈ sent → JoinOf r t g → Voted gs k t → k < r → k ≤ carried g) →
        ((g : Body) (r : ℕ) → g ∈ gs → JoinOf r t g → (r ≡ e.joined.0) × (e.voted.0 < e.joined.0)) →
        ((g : Body) → g ∈ sent ++ gs → JoinOf e.joined.0 t g → e.voted.0 < e.joined.0 → g ≡ join_of (member_number t) e e.joined) →
        Spoken (sent ++ gs) t e
    spoken_new joins votes newest told = record {
      reached = λ g i s. ⊎_elim (λ h. reached_rises d e g a b c (S.reached g h s)) (more g) (Memᴰ.append_cases sent i);
      past = λ g r k i o w low. ⊎_elim
          (λ h. ⊎_elim (λ u. S.past g r k h o u low) (λ u. votes g r k h o u low) (Memᴰ.append_cases sent w))
          (λ h. joins g r k h o w low) (Memᴰ.append_cases sent i);
      told = told;
      same = λ r g h i j o p.
          let of-last : (r ≡ e.joined.0) × (e.voted.0 < e.joined.0) → g ≡ h =
          λ q. told g i (subst (λ n. JoinOf n t g) q.0 o) q.1 ∙ sym (told h j (subst (λ n. JoinOf n t h) q.0 p) q.1) in
          ⊎_elim (λ k. ⊎_elim (λ l. S.same r g h k l o p) (λ l. of-last (newest h r l p)) (Memᴰ.append_cases sent j))
          (λ k. of-last (newest g r k o)) (Memᴰ.append_cases sent i);
    }

  -- neither a JOIN nor a VOTE is said, and only L rises
  pub spoken_quiet : (l : Round) → d.led.0 ≤ l.0 → ((g : Body) → g ∈ gs → Reached (with_led d l) g) → ((g : Body) → g ∈ gs → Quiet g) →
      Spoken (sent ++ gs) t (with_led d l)
  spoken_quiet l c more f =
      spoken_new (with_led d l) more (omega arith) (omega arith) c
      (λ g r k i o w low. absurd (no_join r t g (f g i) o)) (λ g r k i o w low. absurd (f (Vote _ _) w))
      (λ g r i o. absurd (no_join r t g (f g i) o))
      (λ g i o. ⊎_elim (λ k. S.told g k o) (λ k. absurd (no_join d.joined.0 t g (f g k) o)) (Memᴰ.append_cases sent i))
