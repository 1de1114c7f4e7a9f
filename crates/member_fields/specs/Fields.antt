-- The numbers of a member record: what they stand for, and those of a record.
use Rattle.std.specs.Prelude.{Bool, cond, List, [], ◌∷◌, ℕ, ◌+◌, ◌*◌, ◌/◌, ◌%◌, ltb, eqb}
use Rattle.ids.specs.declared.Member.{Member}
use Rattle.member_record.specs.declared.MemberState.{MemberState}
use Rattle.member_record.specs.Record.{round_number, slot_number, flag}
use Rattle.member_fields.specs.declared.MemberFields.{MemberFields}

-- the lowest bit of a number
abbrev pub bit : ℕ → Bool
bit m = eqb (m % 2) 1

-- its seven lowest bits, the lowest first: bit s is the flag of member s
abbrev pub flags_of : ℕ → List Bool
flags_of m = bit m ∷ bit (m / 2) ∷ bit (m / 2 / 2) ∷ bit (m / 2 / 2 / 2) ∷ bit (m / 2 / 2 / 2 / 2) ∷ bit (m / 2 / 2 / 2 / 2 / 2) ∷ bit
    (m / 2 / 2 / 2 / 2 / 2 / 2) ∷ []

-- a number with one bit more, below the others
abbrev pub widened : Bool → ℕ → ℕ
widened b m = cond b (2 * m + 1) (2 * m)

-- the number that has these bits
unfoldable pub mask_of : List Bool → ℕ
mask_of fs =
    widened (flag fs 0) (widened (flag fs 1) (widened (flag fs 2) (widened (flag fs 3) (widened (flag fs 4) (widened (flag fs 5) (widened (flag fs 6) 0))))))

-- a bit is set that is no member's
abbrev pub no_mask : ℕ → Bool
no_mask m = ltb 127 m

abbrev pub member_of : ℕ → Member
member_of s = record { 0 = s }

-- the record that numbers stand for, and the numbers of a record
unfoldable pub state_of : MemberFields → MemberState
state_of f =
    record {
      who = record { slot = slot_number f.slot; me = member_of f.me; n = f.n };
      durable = record { joined = round_number f.joined; voted = round_number f.voted; vote = f.vote; led = round_number f.led };
      lead = record { phase = f.phase; value = f.value; source = round_number f.source; flags = flags_of f.flags };
    }

unfoldable pub fields_of : MemberState → MemberFields
unfolding mask_of
fields_of m =
    record {
      me = m.who.me.0;
      n = m.who.n;
      joined = m.durable.joined.0;
      voted = m.durable.voted.0;
      vote = m.durable.vote;
      led = m.durable.led.0;
      phase = m.lead.phase;
      value = m.lead.value;
      source = m.lead.source.0;
      flags = mask_of m.lead.flags;
      slot = m.who.slot.0;
    }

-- zeros: no record
abbrev pub no_fields : MemberFields
no_fields = record { me = 0; n = 0; joined = 0; voted = 0; vote = 0; led = 0; phase = 0; value = 0; source = 0; flags = 0; slot = 0 }
