-- What the column "Else" of the member table of 01, "Members", changes of the record, and its JOIN.
use Rattle.std.specs.Prelude.{true, cond, ℕ, set, ltb}
use Rattle.ids.specs.declared.Round.{Round}
use Rattle.ids.specs.declared.Member.{Member}
use Rattle.message.specs.declared.Body.{Body}
use Rattle.message.specs.declared.Body.TheVariants.{Join, JoinVoted}
use Rattle.member_record.specs.declared.Durable.{Durable}
use Rattle.member_record.specs.declared.MemberState.{MemberState}
use Rattle.member_record.specs.Phases.{COLLECTING, PROPOSED, DECIDED}
use Rattle.member_record.specs.Record.{with_durable, with_lead, round_number, no_flags}

-- L = r, phase 1, X = offer, B = 0, flags cleared
abbrev pub starting : MemberState → Round → ℕ → MemberState
starting m r offer =
    with_lead
    (with_durable m (record { joined = m.durable.joined; voted = m.durable.voted; vote = m.durable.vote; led = r }))
    (record { phase = COLLECTING; value = offer; source = round_number 0; flags = no_flags })

-- J = r
abbrev pub joining : MemberState → Round → MemberState
joining m r = with_durable m (record { joined = r; voted = m.durable.voted; vote = m.durable.vote; led = m.durable.led })

-- JOIN with V, W if V > 0
abbrev pub join_of : Member → Durable → Round → Body
join_of me d r = cond (ltb 0 d.voted.0) (JoinVoted r me d.voted d.vote) (Join r me)

-- flags the sender
abbrev pub counting : MemberState → Member → MemberState
counting m s = with_lead m (record { phase = m.lead.phase; value = m.lead.value; source = m.lead.source; flags = set m.lead.flags s.0 true })

-- B and X replaced
abbrev pub adopted : MemberState → Round → ℕ → MemberState
adopted m q w = with_lead m (record { phase = m.lead.phase; value = w; source = q; flags = m.lead.flags })

-- a voted round above B replaces B and X
unfoldable pub adopting : MemberState → Round → ℕ → MemberState
adopting m q w = cond (ltb m.lead.source.0 q.0) (adopted m q w) m

-- phase 2, flags cleared
abbrev pub proposing : MemberState → MemberState
proposing m = with_lead m (record { phase = PROPOSED; value = m.lead.value; source = m.lead.source; flags = no_flags })

-- J = V = r, W = v
abbrev pub voting : MemberState → Round → ℕ → MemberState
voting m r v = with_durable m (record { joined = r; voted = r; vote = v; led = m.durable.led })

-- phase 3
abbrev pub deciding : MemberState → MemberState
deciding m = with_lead m (record { phase = DECIDED; value = m.lead.value; source = m.lead.source; flags = m.lead.flags })
