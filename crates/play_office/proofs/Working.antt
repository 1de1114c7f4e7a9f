-- An event at a member of its slot: its record is the model's, its message the one of that row, and its step the model's. Assumes nothing.
use mathlib.Core.Path.{◌≡◌, refl, sym, ap, subst, ◌∙◌}
use mathlib.Core.Bool.{true, false, not}
use mathlib.Core.List.{List}
use Prim.Native.Nat.{ℕ, ◌≤◌, ◌<◌}
use native.Mathlib.Omega.{arith}
use lib.ListN.{length}
use lib.Dec.{leb, eqb}
use borrow.Author.Tests.{le-leb, lt-leb, le-ltb, eq-eqb, ne_eqb}
use Rattle.laws.specs.Tests.{tests, by_test, and_right}
use Rattle.laws.specs.First.{first, passed}
use Rattle.ids.specs.declared.Slot.{Slot}
use Rattle.ids.specs.Ranges.{SLOTS, no_slot}
use Rattle.numbers.specs.declared.Refusal.{Refusal}
use Rattle.numbers.specs.declared.Refusal.TheVariants.{NoMemberOrMessage, WrongSlot}
use Rattle.numbers.specs.Numbers.{OK, NO_MEMBER_OR_MESSAGE, WRONG_SLOT, refusal_number}
use Rattle.numbers.proofs.Refusals.{refusal_not_ok, refusal_byte}
use Rattle.message.specs.declared.Body.{Body}
use Rattle.message.specs.declared.Message.{Message}
use Rattle.message.specs.Fields.{in_range}
use Rattle.member_record.specs.declared.MemberState.{MemberState}
use Rattle.member.specs.declared.MemberStep.{MemberStep}
use Rattle.member_record.specs.Record.{sound, round_number}
use Rattle.member.specs.Answers.{step_outcome}
use Rattle.member.specs.Kept.{StepOf}
use Rattle.member.specs.Table.{sound_step}
use Rattle.member.specs.Table.{MemberEvent, starts, delivers}
use Rattle.model.specs.Model.{SlotEvent, Event, start, deliver, at_member, unsent, foreign, event_of, message_at, member_at, event_causes, event_answer}
use Rattle.model.proofs.Kept.{step_is_sound, message_in}
use Rattle.model.proofs.Sound.{seen_ranged}
use Rattle.play_store.specs.Rows.{HasRow, fetched}
use Rattle.play_store.proofs.Stored.{fetch_stored}
use Rattle.play_effects.specs.declared.Tally.{Tally}
use Rattle.play_office.specs.Represents.{EventBefore, ModelStep, AnswerIs, AnswerTo}
use Rattle.play_office.specs.Represents.{missed_step, event_row}
use Rattle.play_office.proofs.Arms.{answer_is}

-- the event as it stands in a list
abbrev pub event_in : ℕ → SlotEvent → Event
event_in s d = record { slot = s; event = d }

-- what an event passed where 0 comes of the first row
pub record FrontPassed (t : Tally) (s k : ℕ) : Type 0 where
  pub slot : s < SLOTS
  pub member : k < t.n

pub front_passed : (t : Tally) (s k : ℕ) → first (event_row t s k) ≡ OK → FrontPassed t s k
front_passed t s k h =
    let (slot, (member, _)) = passed (event_row t s k) refl h in
    record { slot = omega tests; member = omega tests }

module _ {t : Tally} {m : MemberState} {s : ℕ} {d : SlotEvent} {store : List ℕ} (E : EventBefore t m (event_in s d) store) where
  abbrev e : Event
  e = event_in s d

  -- a refusal before the member's step, as the code gives it
  refused_before : (k : Refusal) → event_answer E.before.z E.before.o e ≡ refusal_number k → {r : MemberStep} → r ≡ missed_step m k → AnswerTo E r
  unfolding AnswerIs
  refused_before k q p = rw p (record { number_is = q; some = refusal_not_ok k; small = refusal_byte k })

  -- 32 or 29, by the first row
  pub front_refused : (k : Refusal) → refusal_number k ≡ first (event_row t s (at_member d)) → {r : MemberStep} → r ≡ missed_step m k → AnswerTo E r
  unfolding event_answer event_causes
  front_refused k q =
      by_test (no_slot s)
      (λ a. let n : refusal_number k ≡ WRONG_SLOT = q ∙ rw a refl in refused_before k (rw a (sym n)))
      (λ a. by_test (leb t.n (at_member d))
      (λ b. let n : refusal_number k ≡ NO_MEMBER_OR_MESSAGE = q ∙ rw (a, b) refl in
      let gone : leb E.before.z.n (at_member d) ≡ true = rw (← E.before.represents.size) b in
      refused_before k (rw (a, gone) (sym n)))
      (λ b. absurd (refusal_not_ok k (q ∙ rw (a, b) refl))))

  module _ (F : FrontPassed t s (at_member d)) where
    within : at_member d < E.before.z.n
    within = omega (arith, E.before.represents.size, F.member)

    -- the record is the model's
    record_held : m ≡ member_at E.before.z E.before.o s (at_member d)
    record_held = E.is F.slot within

    model_sound : sound (member_at E.before.z E.before.o s (at_member d)) ≡ true
    model_sound = (E.before.sound.each s (at_member d) F.slot within).is_sound

    pub sound_member : sound m ≡ true
    sound_member = subst (λ r. sound r ≡ true) (sym record_held) model_sound

    -- the member's step at an event of the model
    step_at : {v : MemberEvent} {r : MemberStep} → unsent E.before.o d ≡ false → foreign E.before.o s d ≡ false → v ≡ event_of E.before.o d →
        StepOf m v r → AnswerTo E r
    step_at {v} {r} u f q P =
        let z = E.before.z in
        let o = E.before.o in
        let T : ModelStep z o e (step_outcome r) =
        record {
          slot = F.slot;
          member = within;
          there = u;
          own = f;
          equals =
              P.equals ∙ ap (λ k. sound_step k v) record_held ∙ ap (sound_step (member_at z o s (at_member d))) q ∙
              sym (step_is_sound z o e (seen_ranged E.before.sound s) model_sound u f);
        } in
        answer_is r.state r.answer T

pub step_start : {t : Tally} {m : MemberState} {s k r x : ℕ} {store : List ℕ} {a : MemberStep} (E : EventBefore t m (event_in s (start k r x)) store) →
    FrontPassed t s k → StepOf m (starts (round_number r) x) a → AnswerTo E a
step_start E F P = step_at E F refl refl refl P

module _ {t : Tally} {m : MemberState} {s row k : ℕ} {store : List ℕ} (E : EventBefore t m (event_in s (deliver row k)) store) (F : FrontPassed t s k) where
  member_there : leb E.before.z.n k ≡ false
  member_there = lt-leb E.before.z.n k (omega (arith, E.before.represents.size, F.member))

  a_slot : no_slot s ≡ false
  a_slot = le-ltb 7 s (omega (arith, F.slot))

  -- 29: no such message
  pub no_message : t.sent ≤ row → {r : MemberStep} → r ≡ missed_step m NoMemberOrMessage → AnswerTo E r
  unfolding event_answer event_causes
  no_message h =
      refused_before E NoMemberOrMessage
      (rw (a_slot, member_there, le-leb (length E.before.o.sent) row (omega (arith, E.before.represents.shared.sent_count))) refl)

  module _ (h : row < t.sent) where
    pub row_within : HasRow store row
    row_within = omega (arith, E.before.represents.shared.sent_count, E.before.sound.fits, E.before.sizes.store_is)

    was_sent : row < length E.before.o.sent
    was_sent = omega (arith, E.before.represents.shared.sent_count)

    there : unsent E.before.o (deliver row k) ≡ false
    there = lt-leb (length E.before.o.sent) row was_sent

    -- a row holds its message
    row_reads : fetched store row ≡ message_at E.before.o row
    row_reads =
        let K = E.before.sound in
        fetch_stored store E.before.o.sent row _ E.before.represents.shared.messages was_sent K.ranged K.readable

    -- 32: it is of another slot
    pub other_slot_row : {i : Slot} → i ≡ (fetched store row).slot → (i.0 ≡ s → ⊥) → {r : MemberStep} → r ≡ missed_step m WrongSlot → AnswerTo E r
    unfolding event_answer event_causes
    other_slot_row {i} q n =
        let other : eqb (message_at E.before.o row).slot.0 s ≡ false =
        ne_eqb _ s (λ p. n (ap (λ (x : Slot). x.0) (q ∙ ap (λ (x : Message). x.slot) row_reads) ∙ p)) in
        refused_before E WrongSlot (rw (a_slot, member_there, there, other) refl)

    -- else it is of the member's own
    not_foreign : {i : Slot} → i ≡ (fetched store row).slot → i.0 ≡ s → foreign E.before.o s (deliver row k) ≡ false
    not_foreign q own =
        let same : (message_at E.before.o row).slot.0 ≡ s = sym (ap (λ (x : Slot). x.0) (q ∙ ap (λ (x : Message). x.slot) row_reads)) ∙ own in
        ap not (eq-eqb (message_at E.before.o row).slot.0 s same)

    module _ {b : Body} (p : b ≡ (fetched store row).body) where
      body_reads : b ≡ (message_at E.before.o row).body
      body_reads = p ∙ ap (λ (x : Message). x.body) row_reads

      -- and within its ranges
      pub row_ranged : in_range b ≡ true
      row_ranged =
          rw body_reads
          (and_right (not (no_slot (message_at E.before.o row).slot.0)) _
          (E.before.sound.ranged (message_at E.before.o row) (message_in E.before.o row k there)))

      pub step_deliver : {i : Slot} {r : MemberStep} → i ≡ (fetched store row).slot → i.0 ≡ s → StepOf m (delivers b) r → AnswerTo E r
      step_deliver q own P = step_at E F there (not_foreign q own) (ap delivers body_reads) P
