-- The member table of 01, "Members", row by row: the cells of an event put together, and the step of a record at an event. Messages stand here without their
-- slot, which is the record's own (02, ticket 6).
use Rattle.std.specs.Prelude.{Bool, true, cond, not, List, [], ◌∷◌, ℕ, eqb}
use Rattle.laws.specs.First.{Cause, ◌gives◌, first}
use Rattle.ids.specs.declared.Round.{Round}
use Rattle.ids.specs.declared.Member.{Member}
use Rattle.numbers.specs.Numbers.{OK, RECORD_UNSOUND, MESSAGE_FIELD}
use Rattle.message.specs.declared.Body.{Body}
use Rattle.message.specs.declared.Body.TheVariants.{Start, Join, JoinVoted, Propose, Vote}
use Rattle.message.specs.Fields.{in_range}
use Rattle.member_record.specs.declared.MemberState.{MemberState}
use Rattle.member_record.specs.Phases.{COLLECTING, PROPOSED, needed}
use Rattle.member_record.specs.Record.{flagged, sound}
use Rattle.member_rules.specs.Causes.{start_call_causes, START_causes, count_causes, PROPOSE_causes}
use Rattle.member_rules.specs.Changes.{starting, joining, join_of, counting, adopting, proposing, voting, deciding}

-- what an answer names
pub data Named : Type 0 where
  nothing : Named
  -- add(r, X, B)
  proposal : (r x b : ℕ) → Named
  -- commit(r), where X is the value decided
  decision : (r x : ℕ) → Named

-- what a step comes to: its number, the record after it, what it sends (nothing or one message), what its answer names
pub record Outcome : Type 0 where
  pub number : ℕ
  pub state : MemberState
  pub sent : List Body
  pub named : Named

abbrev pub sends : MemberState → Body → Outcome
sends m g = record { number = OK; state = m; sent = g ∷ []; named = nothing }

abbrev pub silent : MemberState → Outcome
silent m = record { number = OK; state = m; sent = []; named = nothing }

-- a refused step leaves the record as it was, sends nothing and names nothing
abbrev pub refused : ℕ → MemberState → Outcome
refused k m = record { number = k; state = m; sent = []; named = nothing }

-- the first cause that holds refuses the step; else it is what the row says
abbrev pub unless : List Cause → MemberState → Outcome → Outcome
unless cs m o = cond (eqb (first cs) OK) o (refused (first cs) m)

-- start(r, offer): L = r, phase 1, X = offer, B = 0, flags cleared; sends START
abbrev pub start_call_row : MemberState → Round → ℕ → Outcome
start_call_row m r offer = sends (starting m r offer) (Start r m.who.me)

-- START r: J = r, which is no change where it is repeated; sends JOIN with V, W if V > 0
abbrev pub START_row : MemberState → Round → Outcome
START_row m r = sends (joining m r) (join_of m.who.me m.durable r)

-- as many flags as the phase needs: f+1
abbrev pub complete : MemberState → Bool
complete m = eqb (flagged m.lead.flags) (needed m.who m.lead.phase)

-- phase 2, flags cleared, sends PROPOSE(r, X), and the answer names r, X, B: add(r, X, B)
abbrev pub proposes : MemberState → Round → Outcome
proposes m r =
    record {
      number = OK;
      state = proposing m;
      sent = Propose r m.who.me m.lead.value ∷ [];
      named = proposal r.0 m.lead.value m.lead.source.0;
    }

-- PROPOSE r, v: J = V = r, W = v; sends VOTE
abbrev pub PROPOSE_row : MemberState → Round → ℕ → Outcome
PROPOSE_row m r v = sends (voting m r v) (Vote r m.who.me)

-- phase 3, the answer names r, X: commit(r)
abbrev pub decides : MemberState → Round → Outcome
decides m r = record { number = OK; state = deciding m; sent = []; named = decision r.0 m.lead.value }

-- what happens once the flags of a phase are complete
abbrev pub completes : ℕ → MemberState → Round → Outcome
completes phase m r = cond (eqb phase COLLECTING) (proposes m r) (decides m r)

-- a record counted: at f+1 flags the phase is complete, and nothing more happens before
abbrev pub after_count : ℕ → MemberState → Round → Outcome
after_count phase m r = cond (complete m) (completes phase m r) (silent m)

-- JOIN r, awaited while COLLECTING, its vote taken over before, and VOTE r, awaited once PROPOSED: flags the sender
abbrev pub count_row : ℕ → MemberState → Round → Member → Outcome
count_row phase m r s = after_count phase (counting m s) r

-- an event of a member
pub data MemberEvent : Type 0 where
  starts : (r : Round) (offer : ℕ) → MemberEvent
  delivers : (g : Body) → MemberEvent

-- the rows "start" and "deliver" of the place table, by the member table
unfoldable pub step_causes : MemberState → MemberEvent → List Cause
step_causes m (starts r offer) = start_call_causes m r
step_causes m (delivers (Start r s)) = START_causes m r s
step_causes m (delivers (Join r s)) = count_causes COLLECTING m r s
step_causes m (delivers (JoinVoted r s q w)) = count_causes COLLECTING m r s
step_causes m (delivers (Propose r s v)) = PROPOSE_causes m r s v
step_causes m (delivers (Vote r s)) = count_causes PROPOSED m r s

-- the column "Else"
unfoldable pub step_row : MemberState → MemberEvent → Outcome
unfolding flagged needed adopting
step_row m (starts r offer) = start_call_row m r offer
step_row m (delivers (Start r s)) = START_row m r
step_row m (delivers (Join r s)) = count_row COLLECTING m r s
step_row m (delivers (JoinVoted r s q w)) = count_row COLLECTING (adopting m q w) r s
step_row m (delivers (Propose r s v)) = PROPOSE_row m r v
step_row m (delivers (Vote r s)) = count_row PROPOSED m r s

-- the step of a sound record at a message within its ranges
unfoldable pub sound_step : MemberState → MemberEvent → Outcome
unfolding step_causes step_row
sound_step m e = unless (step_causes m e) m (step_row m e)

-- a message to be delivered is within its ranges
abbrev pub fitting : MemberEvent → Bool
fitting (starts r offer) = true
fitting (delivers g) = in_range g

-- the rows "record" and "message": 17 not sound; 16 a field of the message out of range
abbrev pub unfit : MemberState → MemberEvent → List Cause
unfit m (starts r offer) = not (sound m) gives RECORD_UNSOUND ∷ []
unfit m (delivers g) = not (sound m) gives RECORD_UNSOUND ∷ not (in_range g) gives MESSAGE_FIELD ∷ []

-- the step of any record at any event
unfoldable pub member_step : MemberState → MemberEvent → Outcome
unfolding sound sound_step
member_step m e = unless (unfit m e) m (sound_step m e)
