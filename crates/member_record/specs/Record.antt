-- The member record of 01, "Members", and 02, ticket 6: fresh and sound.
use Rattle.std.specs.Prelude.{Bool, false, cond, ◌&&◌, ◌||◌, not, List, ℕ, ◌%◌, get_or, replicate, ltb, leb, eqb}
use Rattle.ids.specs.declared.Round.{Round}
use Rattle.ids.specs.declared.Member.{Member}
use Rattle.ids.specs.declared.Slot.{Slot}
use Rattle.ids.specs.Ranges.{above_range, no_slot}
use Rattle.quorum.specs.Count.{count, some}
use Rattle.member_record.specs.declared.Who.{Who}
use Rattle.member_record.specs.declared.Durable.{Durable}
use Rattle.member_record.specs.declared.Lead.{Lead}
use Rattle.member_record.specs.declared.MemberState.{MemberState}
use Rattle.member_record.specs.Phases.{IDLE, DECIDED, needed}

-- a record with another group of what must last, or of leading
abbrev pub with_durable : MemberState → Durable → MemberState
with_durable m d = record { who = m.who; durable = d; lead = m.lead }

abbrev pub with_lead : MemberState → Lead → MemberState
with_lead m l = record { who = m.who; durable = m.durable; lead = l }

-- whether J, V, W or L differs
abbrev pub changes_durable : Durable → Durable → Bool
changes_durable d e = not (eqb d.joined.0 e.joined.0 && (eqb d.voted.0 e.voted.0 && (eqb d.vote e.vote && eqb d.led.0 e.led.0)))

-- N is 3, 5 or 7
abbrev pub allowed : ℕ → Bool
allowed n = eqb n 3 || (eqb n 5 || eqb n 7)

-- the leader of round r is member r mod N
abbrev pub leads : ℕ → Member → Round → Bool
leads n s r = eqb (r.0 % n) s.0

abbrev pub round_number : ℕ → Round
round_number r = record { 0 = r }

abbrev pub slot_number : ℕ → Slot
slot_number s = record { 0 = s }

-- whether member s is flagged
abbrev pub flag : List Bool → ℕ → Bool
flag fs s = get_or fs s false

-- how many of the seven are flagged
unfoldable pub flagged : List Bool → ℕ
unfolding count
flagged fs = count (flag fs) 7

-- a flag from N on
abbrev pub flag_from : ℕ → List Bool → ℕ → Bool
flag_from n fs s = leb n s && flag fs s

abbrev pub no_flags : List Bool
no_flags = replicate 7 false

-- Fresh: slot, number and N given, all else zero or false
abbrev pub fresh_record : Slot → Member → ℕ → MemberState
fresh_record slot me n =
    record {
      who = record { slot = slot; me = me; n = n };
      durable = record { joined = round_number 0; voted = round_number 0; vote = 0; led = round_number 0 };
      lead = record { phase = IDLE; value = 0; source = round_number 0; flags = no_flags };
    }

-- N allowed, number < N, slot at most 7
abbrev pub sound_who : Slot → Member → ℕ → Bool
sound_who slot me n = allowed n && (ltb me.0 n && not (no_slot slot.0))

-- V ≤ J ≤ 1,000,000, V = 0 only with W = 0
abbrev pub sound_durable : Durable → Bool
sound_durable d = leb d.voted.0 d.joined.0 && (not (above_range d.joined.0) && (not (eqb d.voted.0 0) || eqb d.vote 0))

-- flags from N on false
abbrev pub sound_flags : Who → Lead → Bool
sound_flags w l = not (some (flag_from w.n l.flags) 7)

-- L = 0: idle, X = B = 0 and no flag
abbrev pub sound_idle : Lead → Bool
sound_idle l = eqb l.phase IDLE && (eqb l.value 0 && (eqb l.source.0 0 && eqb (flagged l.flags) 0))

-- flags at most f in phases 1 and 2, exactly f+1 in phase 3
abbrev pub sound_count : Who → Lead → Bool
sound_count w l =
    cond (eqb l.phase DECIDED) (eqb (flagged l.flags) (needed w l.phase)) (ltb (flagged l.flags) (needed w l.phase))

-- else not idle, L ≤ 1,000,000, L mod N is the number, B < L, and the flags that the phase allows
abbrev pub sound_leading : MemberState → Bool
sound_leading m =
    not (eqb m.lead.phase IDLE) &&
    (not (above_range m.durable.led.0) &&
    (leads m.who.n m.who.me m.durable.led &&
    (ltb m.lead.source.0 m.durable.led.0 && sound_count m.who m.lead)))

-- idle exactly when L = 0
abbrev pub sound_lead : MemberState → Bool
sound_lead m = cond (eqb m.durable.led.0 0) (sound_idle m.lead) (sound_leading m)

unfoldable pub sound : MemberState → Bool
unfolding flagged needed
sound m =
    sound_who m.who.slot m.who.me m.who.n &&
    (leb m.lead.phase DECIDED && (sound_durable m.durable && (sound_flags m.who m.lead && sound_lead m)))
