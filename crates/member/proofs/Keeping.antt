-- An accepted step of a sound record gives a sound record, and what it sends is within the ranges of its kind. Row by row: what the
-- row leaves is sound as it was, what it changes is so by the causes that did not hold. Assumes nothing.
use mathlib.Core.Path.{◌≡◌, refl}
use mathlib.Core.Bool.{Bool, true, false, not}
use mathlib.Core.List.Memᴰ
use mathlib.Core.List.{List, [], ◌∷◌}
use Prim.Native.Nat.{ℕ, suc, ◌<◌}
use native.Mathlib.Omega.{arith}
use borrow.Author.Tests.{not-true, not-false}
use lib.ListN.{length, set, length-set}
use lib.Dec.{ltb, leb, eqb}
use Rattle.laws.specs.Tests.{tests, by_test, and_left, and_right, or_left, or_right}
use Rattle.laws.specs.Lists.{◌∈◌}
use Rattle.laws.specs.First.{first, AllPassed, passed}
use Rattle.ids.specs.declared.Round.{Round}
use Rattle.ids.specs.declared.Member.{Member}
use Rattle.ids.specs.Ranges.{above_range, out_of_range, no_member}
use Rattle.numbers.specs.Numbers.{OK}
use Rattle.quorum.specs.Count.{some}
use Rattle.message.specs.declared.Body.{Body}
use Rattle.message.specs.declared.Body.TheVariants.{Start, Join, JoinVoted, Propose, Vote}
use Rattle.message.specs.Fields.{head_in_range, in_range}
use Rattle.member_record.specs.declared.MemberState.{MemberState}
use Rattle.member_record.specs.Phases.{IDLE, COLLECTING, PROPOSED, DECIDED, needed}
use Rattle.member_record.specs.Record.{with_lead, leads, flagged, flag_from, no_flags, sound, sound_count, changes_durable}
use Rattle.member_record.proofs.Flags.{who_sizes, cleared_from, set_count, set_from}
use Rattle.member_record.proofs.Quorums.{needed_decided, cleared_short}
use Rattle.member_record.proofs.Sound.{SoundParts, parts, whole, vote_parts, SoundLeading, leading_parts, leading_whole}
use Rattle.member_rules.specs.Causes.{start_call_causes, START_late, START_causes, awaits, count_causes}
use Rattle.member_rules.proofs.Late.{vote_below}
use Rattle.member_rules.specs.Changes.{starting, joining, join_of, counting, adopted, adopting, voting}
use Rattle.member.specs.Table.{silent, start_call_row, START_row, complete, completes, count_row, PROPOSE_row}
use Rattle.member.specs.Table.{MemberEvent, starts, delivers, fitting, step_causes, step_row, sound_step, member_step}
use Rattle.member.specs.declared.Move.{Move}
use Rattle.member.specs.declared.MemberStep.{MemberStep}
use Rattle.member.specs.Answers.{move_outcome, step_outcome}
use Rattle.member.specs.Kept.{Kept, StepOf}
use Rattle.member.proofs.Checks.{causes_byte}

one_sent : (x : Body) → in_range x ≡ true → (g : Body) → g ∈ x ∷ [] → in_range g ≡ true
one_sent x h g i = rw (Memᴰ.eq_of_singleton i) h

-- a message of round r from this member
own_head : (m : MemberState) (r : Round) → SoundParts m → out_of_range r.0 ≡ false → head_in_range r m.who.me ≡ true
own_head m r s range =
    let (low, three, seven, slot) = who_sizes m.who s.who in
    let e : no_member m.who.me.0 ≡ false = omega tests in
    rw (range, e)

start_call_kept : (m : MemberState) (r : Round) (offer : ℕ) → SoundParts m → AllPassed (start_call_causes m r) → Kept (start_call_row m r offer)
start_call_kept m r offer s (range, (leader, (higher, end))) =
    record {
      number_byte = omega arith;
      sound_after = whole (starting m r offer) (record {
        who = s.who;
        phases = refl;
        lasting = s.lasting;
        flags = cleared_from m.who.n;
        led = leading_whole (starting m r offer) (or_left (eqb r.0 0) (above_range r.0) range) (record {
          active = refl;
          ranged = rw (or_right (eqb r.0 0) (above_range r.0) range);
          leader = not-false (leads m.who.n m.who.me r) leader;
          lower = omega tests;
          counted = cleared_short m.who COLLECTING s.who;
        });
      });
      seven_after = refl;
      sent_in_range = one_sent (Start r m.who.me) (own_head m r s range);
    }

-- V stays below the round joined
pub vote_under : (m : MemberState) (r : Round) → SoundParts m → START_late m r ≡ false → m.durable.voted.0 < r.0
vote_under m r s early = vote_below m r early (omega (tests, (vote_parts m.durable s.lasting).ordered))

pub joining_sound : (m : MemberState) (r : Round) → SoundParts m → out_of_range r.0 ≡ false → START_late m r ≡ false → sound (joining m r) ≡ true
joining_sound m r s range early =
    let o : leb m.durable.voted.0 r.0 ≡ true = omega (tests, vote_under m r s early) in
    whole (joining m r) (record {
      who = s.who;
      phases = s.phases;
      lasting = rw (o, or_right (eqb r.0 0) (above_range r.0) range) (vote_parts m.durable s.lasting).valued;
      flags = s.flags;
      led = s.led;
    })

START_kept : (m : MemberState) (r : Round) (t : Member) → length m.lead.flags ≡ 7 → SoundParts m → out_of_range r.0 ≡ false →
    AllPassed (START_causes m r t)
    → Kept (START_row m r)
START_kept m r t seven s range (leader, (early, end)) =
    let below : ltb m.durable.voted.0 r.0 ≡ true = omega (tests, vote_under m r s early) in
    record {
      number_byte = omega arith;
      sound_after = joining_sound m r s range early;
      seven_after = seven;
      sent_in_range = one_sent (join_of m.who.me m.durable r) (by_test (ltb 0 m.durable.voted.0)
          (λ t. let one : leb 1 m.durable.voted.0 ≡ true = omega tests in rw (t, own_head m r s range, one) below)
          (λ t. rw t (own_head m r s range)));
    }

PROPOSE_kept : (m : MemberState) (r : Round) (v : ℕ) → length m.lead.flags ≡ 7 → SoundParts m → out_of_range r.0 ≡ false → Kept (PROPOSE_row m r v)
PROPOSE_kept m r v seven s range =
    let o : leb r.0 r.0 ≡ true = omega tests in
    record {
      number_byte = omega arith;
      sound_after = whole (voting m r v) (record {
        who = s.who;
        phases = s.phases;
        lasting = rw (o, or_left (eqb r.0 0) (above_range r.0) range, or_right (eqb r.0 0) (above_range r.0) range);
        flags = s.flags;
        led = s.led;
      });
      seven_after = seven;
      sent_in_range = one_sent (Vote r m.who.me) (own_head m r s range);
    }

-- a leading record with other flags, in a phase for which they are a sound count
abbrev recounted : MemberState → ℕ → List Bool → MemberState
recounted m p fs = with_lead m (record { phase = p; value = m.lead.value; source = m.lead.source; flags = fs })

recounted_sound : (m : MemberState) (p : ℕ) (fs : List Bool) → SoundParts m → eqb m.durable.led.0 0 ≡ false → leb p DECIDED ≡ true → eqb p IDLE ≡ false →
    not (some (flag_from m.who.n fs) 7) ≡ true → sound_count m.who (recounted m p fs).lead ≡ true → sound (recounted m p fs) ≡ true
recounted_sound m p fs s z high low from count =
    let l : SoundLeading m = leading_parts m s z in
    whole (recounted m p fs) (record {
      who = s.who;
      phases = high;
      lasting = s.lasting;
      flags = from;
      led = leading_whole (recounted m p fs) z (record { active = rw low; ranged = l.ranged; leader = l.leader; lower = l.lower; counted = count });
    })

-- a JOIN or VOTE of round r from t that no cause refuses in the phase that awaits it
record Awaited (phase : ℕ) (m : MemberState) (r : Round) (t : Member) : Type 0 where
  seven : length m.lead.flags ≡ 7
  is_sound : SoundParts m
  range : out_of_range r.0 ≡ false
  early : phase < DECIDED
  active : IDLE < phase
  passes : AllPassed (count_causes phase m r t)

module _ {phase : ℕ} {m : MemberState} {r : Round} {t : Member} (a : Awaited phase m r t) where
  awaited : awaits m phase r ≡ true
  awaited = not-false (awaits m phase r) a.passes.1.0

  own_round : r.0 ≡ m.durable.led.0
  own_round = omega (tests, and_left (eqb r.0 m.durable.led.0) (eqb m.lead.phase phase) awaited)

  now : m.lead.phase ≡ phase
  now = omega (tests, and_right (eqb r.0 m.durable.led.0) (eqb m.lead.phase phase) awaited)

  led : eqb m.durable.led.0 0 ≡ false
  led = omega (tests, own_round, or_left (eqb r.0 0) (above_range r.0) a.range)

  undecided : eqb m.lead.phase DECIDED ≡ false
  undecided = omega (tests, now, a.early)

  sender : t.0 < m.who.n
  sender = omega (tests, a.passes.0)

  low : t.0 < 7
  low = let (own, three, high, slot) = who_sizes m.who a.is_sound.who in omega (arith, sender)

  one_more : flagged (set m.lead.flags t.0 true) ≡ suc (flagged m.lead.flags)
  one_more = set_count m.lead.flags t.0 a.seven low a.passes.1.1.0

  from : not (some (flag_from m.who.n (set m.lead.flags t.0 true)) 7) ≡ true
  from = set_from m.lead.flags t.0 a.seven low m.who.n sender a.is_sound.flags

  -- short of what the phase needs before
  before : ltb (flagged m.lead.flags) (needed m.who m.lead.phase) ≡ true
  before = rw undecided at (leading_parts m a.is_sound led).counted

  counting_kept : complete (counting m t) ≡ false → Kept (silent (counting m t))
  counting_kept h =
      let k : ltb (flagged (set m.lead.flags t.0 true)) (needed m.who m.lead.phase) ≡ true = omega (tests, one_more, before) in
      let active : eqb m.lead.phase IDLE ≡ false = omega (tests, now, a.active) in
      record {
        number_byte = omega arith;
        sound_after = recounted_sound m m.lead.phase (set m.lead.flags t.0 true) a.is_sound led a.is_sound.phases active from
            (rw undecided k);
        seven_after = simp length-set a.seven;
        sent_in_range = λ g i. elim i [ ];
      }

  counted_kept : (complete (counting m t) ≡ true → Kept (completes phase (counting m t) r)) → Kept (count_row phase m r t)
  counted_kept f = by_test (complete (counting m t)) (λ h. rw h (f h)) (λ h. rw h (counting_kept h))

JOIN_kept : {m : MemberState} {r : Round} {t : Member} → Awaited COLLECTING m r t → Kept (count_row COLLECTING m r t)
JOIN_kept {m} {r} {t} a =
    counted_kept a
    (λ h.
    record {
      number_byte = omega arith;
      sound_after = recounted_sound m PROPOSED no_flags a.is_sound (led a) refl refl (cleared_from m.who.n)
          (cleared_short m.who PROPOSED a.is_sound.who);
      seven_after = refl;
      sent_in_range = one_sent (Propose r m.who.me m.lead.value) (own_head m r a.is_sound a.range);
    })

VOTE_kept : {m : MemberState} {r : Round} {t : Member} → Awaited PROPOSED m r t → Kept (count_row PROPOSED m r t)
VOTE_kept {m} {r} {t} a =
    counted_kept a
    (λ h.
    let enough : eqb (flagged (set m.lead.flags t.0 true)) (needed m.who DECIDED) ≡ true = rw (needed_decided m.who) (rw (now a) at h) in
    record {
      number_byte = omega arith;
      sound_after = recounted_sound m DECIDED (set m.lead.flags t.0 true) a.is_sound (led a) refl refl (from a) enough;
      seven_after = simp length-set a.seven;
      sent_in_range = λ g i. elim i [ ];
    })

-- a JOIN with a vote: its round is below the JOIN's, so B stays below L
JOIN_voted_kept : {m : MemberState} {r : Round} {t : Member} (q : Round) (w : ℕ) → ltb q.0 r.0 ≡ true → Awaited COLLECTING m r t →
    Kept (count_row COLLECTING (adopting m q w) r t)
unfolding adopting
JOIN_voted_kept {m} {r} {t} q w below a =
    by_test (ltb m.lead.source.0 q.0)
    (λ h. rw h (JOIN_kept (record {
      seven = a.seven;
      is_sound = adopted_sound;
      range = a.range;
      early = a.early;
      active = a.active;
      passes = a.passes;
    })))
    (λ h. rw h (JOIN_kept a))
  where
    adopted_sound : SoundParts (adopted m q w)
    adopted_sound =
        let l : SoundLeading m = leading_parts m a.is_sound (led a) in
        record {
          who = a.is_sound.who;
          phases = a.is_sound.phases;
          lasting = a.is_sound.lasting;
          flags = a.is_sound.flags;
          led = leading_whole (adopted m q w) (led a) (record {
            active = l.active;
            ranged = l.ranged;
            leader = l.leader;
            lower = omega (tests, below, own_round a);
            counted = l.counted;
          });
        }

pub head_range : (r : Round) (t : Member) → head_in_range r t ≡ true → out_of_range r.0 ≡ false
head_range r t h = not-true (out_of_range r.0) (and_left (not (out_of_range r.0)) (not (no_member t.0)) h)

awaits_count : {phase : ℕ} (m : MemberState) (r : Round) (t : Member) → out_of_range r.0 ≡ false → length m.lead.flags ≡ 7 → sound m ≡ true →
    phase < DECIDED → IDLE < phase → first (count_causes phase m r t) ≡ OK → Awaited phase m r t
awaits_count {phase} m r t range seven s early active h =
    record { seven = seven; is_sound = parts m s; range = range; early = early; active = active; passes = passed (count_causes phase m r t) refl h }

-- each accepted step of a sound record, at a message within its ranges
pub row_kept : (m : MemberState) (e : MemberEvent) → length m.lead.flags ≡ 7 → sound m ≡ true → fitting e ≡ true → first (step_causes m e) ≡ OK
    → Kept (step_row m e)
unfolding step_causes step_row
row_kept m (starts r offer) seven s f h = start_call_kept m r offer (parts m s) (passed (start_call_causes m r) refl h)
row_kept m (delivers (Start r t)) seven s f h = START_kept m r t seven (parts m s) (head_range r t f) (passed (START_causes m r t) refl h)
row_kept m (delivers (Join r t)) seven s f h = JOIN_kept (awaits_count m r t (head_range r t f) seven s (omega arith) (omega arith) h)
row_kept m (delivers (JoinVoted r t q w)) seven s f h =
    JOIN_voted_kept q w
    (and_right (leb 1 q.0) (ltb q.0 r.0) (and_right (head_in_range r t) _ f))
    (awaits_count m r t (head_range r t (and_left (head_in_range r t) _ f)) seven s (omega arith) (omega arith) h)
row_kept m (delivers (Propose r t v)) seven s f h = PROPOSE_kept m r v seven (parts m s) (head_range r t f)
row_kept m (delivers (Vote r t)) seven s f h = VOTE_kept (awaits_count m r t (head_range r t f) seven s (omega arith) (omega arith) h)

-- and each step, since a refused one leaves the record and sends nothing
pub step_kept : (m : MemberState) (e : MemberEvent) → length m.lead.flags ≡ 7 → sound m ≡ true → fitting e ≡ true → Kept (sound_step m e)
unfolding sound_step
step_kept m e seven s f =
    by_test (eqb (first (step_causes m e)) OK)
    (λ h. rw h (row_kept m e seven s f (omega tests)))
    (λ h. rw h (record { number_byte = causes_byte m e; sound_after = s; seven_after = seven; sent_in_range = λ g i. elim i [ ] }))

-- so is the step that the code makes of a row's move
pub step_of_move : (m : MemberState) (e : MemberEvent) {t : Move} {s : MemberStep} →
    (s.state ≡ t.state) × (s.answer ≡ t.answer) × (s.lasting ≡ changes_durable m.durable s.state.durable) →
    move_outcome t ≡ sound_step m e → Kept (sound_step m e) → StepOf m e s
step_of_move m e {t} {s} (state, answer, lasting) moved k =
    let same : step_outcome s ≡ sound_step m e = rw (state, answer) moved in
    record { equals = same; kept = rw same k; lasting = lasting }

-- the step of any record at any event is that of a sound record where the record is sound and the message within its ranges
pub step_of_sound : (m : MemberState) (e : MemberEvent) → sound m ≡ true → fitting e ≡ true → member_step m e ≡ sound_step m e
unfolding member_step
step_of_sound m (starts r offer) s f = rw s
step_of_sound m (delivers g) s f = rw (s, f)
