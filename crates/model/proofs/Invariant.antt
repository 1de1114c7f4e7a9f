-- The invariant of the third demand, of one slot: what holds of one member, and what holds of all. J, V, W, L, X, B are 01's letters of the
-- member record. Votes, joins and proposals are spoken of by the messages sent and the proposals made, both of which only grow.
use mathlib.Core.Path.{◌≡◌}
use mathlib.Core.Bool.{Bool, true}
use mathlib.Core.List.{List}
use Prim.Native.Nat.{ℕ, ◌<◌, ◌≤◌, ◌%◌}
use Rattle.laws.specs.Lists.{◌∈◌}
use Rattle.quorum.specs.Quorum.{HasQuorum}
use Rattle.tree_theory.specs.Properties.{Properties, InRange}
use Rattle.message.specs.declared.Body.{Body}
use Rattle.message.specs.declared.Body.TheVariants.{Start, Join, JoinVoted, Propose, Vote}
use Rattle.member_record.specs.declared.Who.{Who}
use Rattle.member_record.specs.declared.Durable.{Durable}
use Rattle.member_record.specs.declared.MemberState.{MemberState}
use Rattle.member_record.specs.Phases.{COLLECTING, PROPOSED, DECIDED, needed}
use Rattle.member_record.specs.Record.{flag, round_number, slot_number}
use Rattle.member_rules.specs.Changes.{join_of}
use Rattle.member.specs.Table.{Named, proposal, decision}
use Rattle.model.specs.Model.{member_number, proposals}
use Rattle.model.specs.Demand.{calls}
use Rattle.model.specs.Joins.{JoinOf}
use Rattle.model.proofs.Senders.{sender}
use Rattle.model.proofs.View.{SlotSizes, SlotView, view_member}

-- an office of n, in the eyes of one of its members
abbrev pub office_who : ℕ → Who
office_who n = record { slot = slot_number 0; me = member_number 0; n = n }

-- joins needed and votes needed
abbrev pub join_quorum : ℕ → ℕ
join_quorum n = needed (office_who n) COLLECTING

abbrev pub vote_quorum : ℕ → ℕ
vote_quorum n = needed (office_who n) PROPOSED

-- the round voted for that a JOIN carries; 0 if it carries no vote
abbrev pub carried : Body → ℕ
carried (Start r s) = 0
carried (Join r s) = 0
carried (JoinVoted r s q w) = q.0
carried (Propose r s v) = 0
carried (Vote r s) = 0

-- s sent a JOIN of round r whose vote, if any, is at most b
pub record Joined (sent : List Body) (r b s : ℕ) : Type 0 where
  pub message : Body
  pub is_sent : message ∈ sent
  pub is_join : JoinOf r s message
  pub at_most : carried message ≤ b

-- s sent a VOTE of round r
abbrev pub Voted : List Body → ℕ → ℕ → Type 0
Voted sent r s = Vote (round_number r) (member_number s) ∈ sent

-- a proposal of round r with value x was made
pub record ProposalMade (made : List Named) (r x : ℕ) : Type 0 where
  pub parent : ℕ
  pub is_made : proposal r x parent ∈ made

-- L is at least the round of a START or PROPOSE that the member sent, J that of a JOIN, V that of a VOTE
abbrev pub Reached : Durable → Body → Type 0
Reached d (Start r s) = r.0 ≤ d.led.0
Reached d (Join r s) = r.0 ≤ d.joined.0
Reached d (JoinVoted r s q w) = r.0 ≤ d.joined.0
Reached d (Propose r s x) = r.0 ≤ d.led.0
Reached d (Vote r s) = r.0 ≤ d.voted.0

-- what member t said, its J, V, W and L beside it
pub record Spoken (sent : List Body) (t : ℕ) (d : Durable) : Type 0 where
  pub reached : (g : Body) → g ∈ sent → sender g ≡ t → Reached d g
  -- a VOTE for a round below that of a JOIN is for a round at most the one that the JOIN carries
  pub past : (g : Body) (r c : ℕ) → g ∈ sent → JoinOf r t g → Voted sent c t → c < r → c ≤ carried g
  -- until it votes in J, each JOIN of J is the one that V and W make
  pub told : (g : Body) → g ∈ sent → JoinOf d.joined.0 t g → d.voted.0 < d.joined.0 → g ≡ join_of (member_number t) d d.joined
  -- JOINs of one round are equal
  pub same : (r : ℕ) (g h : Body) → g ∈ sent → h ∈ sent → JoinOf r t g → JoinOf r t h → g ≡ h

-- what member t does as a leader: its L, phase, X, B and flags
pub record Leading (n : ℕ) (sent : List Body) (made : List Named) (offers : List ℕ) (t led phase value source : ℕ) (flags : List Bool) : Type 0 where
  -- L is at least each round that t leads and that was proposed
  pub highest : (r x b : ℕ) → proposal r x b ∈ made → r % n ≡ t → r ≤ led
  -- while it collects, no proposal of L was made; when it has proposed or decided, that of X and B was; while it has only
  -- proposed, L was not decided
  pub collects : phase ≡ COLLECTING → (x b : ℕ) → proposal led x b ∈ made → ⊥
  pub proposed : PROPOSED ≤ phase → phase ≤ DECIDED → proposal led value source ∈ made
  pub undecided : phase ≡ PROPOSED → (x : ℕ) → decision led x ∈ made → ⊥
  -- while it collects, each flagged member sent a JOIN of L whose vote is at most B, and B, if above 0, was proposed with X
  pub joins : phase ≡ COLLECTING → (s : ℕ) → flag flags s ≡ true → Joined sent led source s
  pub source_added : phase ≡ COLLECTING → 0 < source → ProposalMade made source value
  -- while it has only proposed, each flagged member sent a VOTE of L
  pub votes : phase ≡ PROPOSED → (s : ℕ) → flag flags s ≡ true → Voted sent led s
  -- X was offered
  pub value_offered : COLLECTING ≤ phase → phase ≤ DECIDED → value ∈ offers

-- what holds of member t, whose record is m
pub record MemberHolds (n : ℕ) (sent : List Body) (made : List Named) (offers : List ℕ) (t : ℕ) (m : MemberState) : Type 0 where
  pub spoken : Spoken sent t m.durable
  pub leading : Leading n sent made offers t m.durable.led.0 m.lead.phase m.lead.value m.lead.source.0 m.lead.flags
  -- V, if above 0, was proposed with W
  pub vote_added : 0 < m.durable.voted.0 → ProposalMade made m.durable.voted.0 m.durable.vote

-- a START or PROPOSE is sent by the leader of its round
abbrev pub FromLeader : ℕ → Body → Type 0
FromLeader n (Start r s) = r.0 % n ≡ s.0
FromLeader n (Join r s) = Unit {0}
FromLeader n (JoinVoted r s q w) = Unit {0}
FromLeader n (Propose r s v) = r.0 % n ≡ s.0
FromLeader n (Vote r s) = Unit {0}

-- what a PROPOSE says was proposed; so was the vote that a JOIN carries
abbrev pub Backed : List Named → Body → Type 0
Backed made (Start r s) = Unit {0}
Backed made (Join r s) = Unit {0}
Backed made (JoinVoted r s q w) = ProposalMade made q.0 w
Backed made (Propose r s v) = ProposalMade made r.0 v
Backed made (Vote r s) = Unit {0}

-- what holds of the proposals and decisions made
pub record MadeSo (z : SlotSizes) (sent : List Body) (made : List Named) (offers : List ℕ) : Type 0 where
  -- the four properties: among them that a round has one proposal, made before its decision
  pub properties : Properties true (calls made)
  pub ranged : InRange (calls made)
  -- a join quorum sent JOINs of the proposal's round whose votes are at most its parent
  pub join_met : (r x b : ℕ) → proposal r x b ∈ made → HasQuorum z.n (join_quorum z.n) (Joined sent r b)
  -- a vote quorum sent VOTEs of the round decided, and the value decided is the one proposed
  pub vote_met : (r x : ℕ) → decision r x ∈ made → HasQuorum z.n (vote_quorum z.n) (Voted sent r)
  pub decided_added : (r x : ℕ) → decision r x ∈ made → ProposalMade made r x
  -- each value proposed was offered
  pub offered_so : (r x b : ℕ) → proposal r x b ∈ made → x ∈ offers
  -- there is a row for each proposal
  pub room : 0 < z.table → proposals made < z.table

pub record Invariant (z : SlotSizes) (o : SlotView) (offers : List ℕ) : Type 0 where
  pub members : (t : ℕ) → t < z.n → MemberHolds z.n o.sent o.made offers t (view_member z o t)
  pub leaders : (g : Body) → g ∈ o.sent → FromLeader z.n g
  pub backed : (g : Body) → g ∈ o.sent → Backed o.made g
  pub made_so : MadeSo z o.sent o.made offers
