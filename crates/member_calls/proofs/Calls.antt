-- What a call comes to, by the tests that the code makes: the row "record, then buffer" and then the further causes. Assumes nothing.
use mathlib.Core.Path.{◌≡◌, refl, sym, ap, ◌∙◌}
use mathlib.Core.Bool.{true, false}
use mathlib.Core.List.{List}
use Prim.Native.Nat.{ℕ, ◌≤◌}
use lib.ListN.{length}
use lib.Dec.{ltb}
use borrow.Author.Tests.{le-ltb, not-false}
use Rattle.laws.specs.Tests.{tests, by_test}
use Rattle.laws.specs.First.{Cause, first, passed}
use Rattle.ids.specs.Ranges.{no_slot}
use Rattle.numbers.specs.declared.Refusal.{Refusal}
use Rattle.numbers.specs.Numbers.{OK, refusal_number}
use Rattle.numbers.proofs.Refusals.{refusal_not_ok}
use Rattle.message.specs.declared.Message.{Message}
use Rattle.message.specs.Layout.{longest_message}
use Rattle.message.specs.Answers.{Got, Refused, Written, written_of}
use Rattle.std.specs.Prelude.{Result, Ok, Err}
use Rattle.message.specs.Reading.{other_slot, message_row, decoded_body, decoded, reading}
use Rattle.message.proofs.RoundTrip.{refused_read, got}
use Rattle.member_record.specs.declared.MemberState.{MemberState}
use Rattle.member_record.specs.Record.{sound}
use Rattle.member_record.proofs.Sound.{sound_slot}
use Rattle.member.specs.Table.{Outcome, refused, unless, delivers, sound_step}
use Rattle.member_calls.specs.Calls.{record_row, call_outcome, deliver_call}

-- a refusal by the row
pub refusing : (m : MemberState) (old : List ℕ) (e : Refusal) → refusal_number e ≡ first (record_row m (length old)) → (cs : List Cause) (o : Outcome) →
    call_outcome m old cs o ≡ refused (refusal_number e) m
refusing m old e row cs o =
    by_test (sound m)
    (λ t. by_test (ltb (length old) longest_message)
    (λ s. rw (row, t, s))
    (λ s. absurd (refusal_not_ok e (row ∙ rw (t, s)))))
    (λ t. rw (row, t))

-- none
module _ (m : MemberState) (old : List ℕ) (row : OK ≡ first (record_row m (length old))) where
  pub passing : (sound m ≡ true) × (longest_message ≤ length old)
  passing =
      let (is_sound, (room, end)) = passed (record_row m (length old)) refl (sym row) in
      (not-false (sound m) is_sound, omega tests)

  -- a record that passes is of one of the eight slots
  pub slotted : no_slot m.who.slot.0 ≡ false
  slotted = omega (tests, sound_slot m passing.0)

  pub further : (cs : List Cause) (o : Outcome) → call_outcome m old cs o ≡ unless cs m o
  further cs o =
      let (is_sound, room) = passing in
      rw (is_sound, le-ltb (length old) longest_message room)

module _ (m : MemberState) (s old : List ℕ) (row : OK ≡ first (record_row m (length old))) where
  -- bytes that are no message
  pub unread : (n : ℕ) → reading (other_slot m.who.slot) s ≡ Refused n → deliver_call m s old ≡ refused n m
  unfolding deliver_call
  unread n e =
      let (number, nonzero) = refused_read (other_slot m.who.slot) s n e in
      further m old row (message_row (other_slot m.who.slot) s) (sound_step m (delivers (decoded_body s))) ∙ rw (number, nonzero)

  -- bytes that are
  pub read_as : (g : Message) → reading (other_slot m.who.slot) s ≡ Got g → deliver_call m s old ≡ sound_step m (delivers g.body)
  unfolding deliver_call decoded
  read_as g e =
      let (none, same, ranged) = got (other_slot m.who.slot) s g e in
      let body : decoded_body s ≡ g.body = ap (λ (h : Message). h.body) same in
      further m old row (message_row (other_slot m.who.slot) s) (sound_step m (delivers (decoded_body s))) ∙ rw (none, body)

-- what the writer answers with number 0 is the length
pub written_ok : (r : Result ℕ Refusal) {n : ℕ} → written_of r ≡ record { number = OK; length = n } → r ≡ Ok n
written_ok (Ok k) h = ap Ok (ap (λ (w : Written). w.length) h)
written_ok (Err e) h = absurd (refusal_not_ok e (ap (λ (w : Written). w.number) h))
