-- A sound record taken apart and put together again. Assumes nothing.
use mathlib.Core.Path.{◌≡◌}
use mathlib.Core.Bool.{true, false, not, ◌&&◌, ◌||◌, and-true}
use Prim.Native.Nat.{ℕ, ◌<◌, ◌≤◌}
use native.Mathlib.Omega.{arith}
use lib.Dec.{ltb, leb, eqb}
use Rattle.laws.specs.Tests.{and_left, and_right}
use Rattle.ids.specs.declared.Member.{Member}
use Rattle.ids.specs.declared.Slot.{Slot}
use Rattle.ids.specs.Ranges.{above_range, SLOTS}
use Rattle.member_record.specs.declared.Durable.{Durable}
use Rattle.member_record.specs.declared.MemberState.{MemberState}
use Rattle.member_record.proofs.Flags.{who_sizes, cleared_from}
use Rattle.member_record.specs.Phases.{IDLE, DECIDED}
use Rattle.member_record.specs.Record.{fresh_record, leads, sound, sound_who, sound_durable, sound_flags, sound_count, sound_leading, sound_lead}

pub record SoundParts (m : MemberState) : Type 0 where
  pub who : sound_who m.who.slot m.who.me m.who.n ≡ true
  pub phases : leb m.lead.phase DECIDED ≡ true
  pub lasting : sound_durable m.durable ≡ true
  pub flags : sound_flags m.who m.lead ≡ true
  pub led : sound_lead m ≡ true

pub parts : (m : MemberState) → sound m ≡ true → SoundParts m
unfolding sound
parts m h =
    let a : (leb m.lead.phase DECIDED && (sound_durable m.durable && (sound_flags m.who m.lead && sound_lead m))) ≡ true =
    and_right (sound_who m.who.slot m.who.me m.who.n) _ h
    in
    let b : (sound_durable m.durable && (sound_flags m.who m.lead && sound_lead m)) ≡ true = and_right (leb m.lead.phase DECIDED) _ a in
    let c : (sound_flags m.who m.lead && sound_lead m) ≡ true = and_right (sound_durable m.durable) _ b in
    record {
      who = and_left (sound_who m.who.slot m.who.me m.who.n) _ h;
      phases = and_left (leb m.lead.phase DECIDED) _ a;
      lasting = and_left (sound_durable m.durable) _ b;
      flags = and_left (sound_flags m.who m.lead) _ c;
      led = and_right (sound_flags m.who m.lead) (sound_lead m) c;
    }

pub whole : (m : MemberState) → SoundParts m → sound m ≡ true
unfolding sound
whole m s = rw (s.who, s.phases, s.lasting, s.flags) s.led

-- V ≤ J ≤ 1,000,000, and V = 0 only with W = 0
pub record SoundVotes (d : Durable) : Type 0 where
  pub ordered : leb d.voted.0 d.joined.0 ≡ true
  pub ranged : not (above_range d.joined.0) ≡ true
  pub valued : (not (eqb d.voted.0 0) || eqb d.vote 0) ≡ true

pub vote_parts : (d : Durable) → sound_durable d ≡ true → SoundVotes d
vote_parts d s =
    let a : (not (above_range d.joined.0) && (not (eqb d.voted.0 0) || eqb d.vote 0)) ≡ true = and_right (leb d.voted.0 d.joined.0) _ s in
    record {
      ordered = and_left (leb d.voted.0 d.joined.0) _ s;
      ranged = and_left (not (above_range d.joined.0)) _ a;
      valued = and_right (not (above_range d.joined.0)) (not (eqb d.voted.0 0) || eqb d.vote 0) a;
    }

-- not idle, L ≤ 1,000,000, L mod N is the number, B < L, the count of the phase
pub record SoundLeading (m : MemberState) : Type 0 where
  pub active : not (eqb m.lead.phase IDLE) ≡ true
  pub ranged : not (above_range m.durable.led.0) ≡ true
  pub leader : leads m.who.n m.who.me m.durable.led ≡ true
  pub lower : ltb m.lead.source.0 m.durable.led.0 ≡ true
  pub counted : sound_count m.who m.lead ≡ true

pub leading_parts : (m : MemberState) → SoundParts m → eqb m.durable.led.0 0 ≡ false → SoundLeading m
leading_parts m s z =
    let h : sound_leading m ≡ true = rw z at s.led in
    let lower = ltb m.lead.source.0 m.durable.led.0 in
    let leader = leads m.who.n m.who.me m.durable.led in
    let ranged = not (above_range m.durable.led.0) in
    let counted = sound_count m.who m.lead in
    let a : (ranged && (leader && (lower && counted))) ≡ true = and_right (not (eqb m.lead.phase IDLE)) _ h in
    let b : (leader && (lower && counted)) ≡ true = and_right ranged _ a in
    let c : (lower && counted) ≡ true = and_right leader _ b in
    record {
      active = and_left (not (eqb m.lead.phase IDLE)) _ h;
      ranged = and_left ranged _ a;
      leader = and_left leader _ b;
      lower = and_left lower _ c;
      counted = and_right lower counted c;
    }

pub leading_whole : (m : MemberState) → eqb m.durable.led.0 0 ≡ false → SoundLeading m → sound_lead m ≡ true
leading_whole m z l = rw (z, l.active, l.ranged, l.leader, l.lower) l.counted

-- a sound record has 3 to 7 members
pub sound_size : (m : MemberState) → sound m ≡ true → (3 ≤ m.who.n) × (m.who.n ≤ 7)
sound_size m h =
    let (own, low, high, slot) = who_sizes m.who (parts m h).who in
    (low, high)

-- and one of the eight slots
pub sound_slot : (m : MemberState) → sound m ≡ true → m.who.slot.0 < SLOTS
sound_slot m h = omega (arith, who_sizes m.who (parts m h).who)

-- a fresh record is sound exactly if its slot, its number and N are allowed
pub fresh_sound : (slot : Slot) (me : Member) (n : ℕ) → sound (fresh_record slot me n) ≡ sound_who slot me n
unfolding sound
fresh_sound slot me n = rw (cleared_from n) (and-true (sound_who slot me n))
