-- The column "Further refusals" of the member table of 01, "Members", in the order of the place table; START's 22 is that of 02, Ticket 2.
use Rattle.std.specs.Prelude.{Bool, ◌&&◌, ◌||◌, not, List, [], ◌∷◌, ℕ, ltb, leb, eqb}
use Rattle.laws.specs.First.{Cause, ◌gives◌}
use Rattle.ids.specs.declared.Round.{Round}
use Rattle.ids.specs.declared.Member.{Member}
use Rattle.ids.specs.Ranges.{out_of_range}
use Rattle.numbers.specs.Numbers.{ROUND_RANGE, NOT_LEADER, NOT_ABOVE_LED, WRONG_SENDER, MOVED_PAST, ANOTHER_VALUE, NOT_AWAITED, COUNTED_ALREADY}
use Rattle.member_record.specs.declared.MemberState.{MemberState}
use Rattle.member_record.specs.Record.{leads, flag}

-- start(r, offer): 3; 19 unless this member leads r; 20 if r ≤ L
abbrev pub start_call_causes : MemberState → Round → List Cause
start_call_causes m r =
    out_of_range r.0 gives ROUND_RANGE ∷
    not (leads m.who.n m.who.me r) gives NOT_LEADER ∷
    leb r.0 m.durable.led.0 gives NOT_ABOVE_LED ∷ []

-- V = r
abbrev pub voted_in : MemberState → Round → Bool
voted_in m r = eqb m.durable.voted.0 r.0

-- J > r, or J = r with V = r
abbrev pub START_late : MemberState → Round → Bool
START_late m r = ltb r.0 m.durable.joined.0 || (eqb m.durable.joined.0 r.0 && voted_in m r)

-- START r: 21 unless the sender leads r; 22 if J > r, or J = r with V = r
abbrev pub START_causes : MemberState → Round → Member → List Cause
START_causes m r s =
    not (leads m.who.n s r) gives WRONG_SENDER ∷
    START_late m r gives MOVED_PAST ∷ []

-- r = L in this phase
abbrev pub awaits : MemberState → ℕ → Round → Bool
awaits m phase r = eqb r.0 m.durable.led.0 && eqb m.lead.phase phase

-- JOIN r (COLLECTING) and VOTE r (PROPOSED): 21 if sender ≥ N; 24 unless r = L in that phase; 25
abbrev pub count_causes : ℕ → MemberState → Round → Member → List Cause
count_causes phase m r s =
    leb m.who.n s.0 gives WRONG_SENDER ∷
    not (awaits m phase r) gives NOT_AWAITED ∷
    flag m.lead.flags s.0 gives COUNTED_ALREADY ∷ []

-- V = r and W ≠ v
abbrev pub other_vote : MemberState → Round → ℕ → Bool
other_vote m r v = eqb m.durable.voted.0 r.0 && not (eqb m.durable.vote v)

-- PROPOSE r, v: 21 unless the sender leads r; 22 if J > r; 23 if V = r and W ≠ v
abbrev pub PROPOSE_causes : MemberState → Round → Member → ℕ → List Cause
PROPOSE_causes m r s v =
    not (leads m.who.n s r) gives WRONG_SENDER ∷
    ltb r.0 m.durable.joined.0 gives MOVED_PAST ∷
    other_vote m r v gives ANOTHER_VALUE ∷ []
