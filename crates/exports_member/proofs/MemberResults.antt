-- What the C functions of one member use: lengths that fit 32 bits, and a call's result as that of its outcome. Assumes nothing.
use mathlib.Core.Path.{◌≡◌, refl, sym, ap, ◌∙◌}
use mathlib.Core.List.{List, [], ◌∷◌}
use Prim.Native.Nat.{ℕ, ◌≤◌}
use native.Mathlib.Omega.{arith}
use lib.Dec.{eqb}
use Rattle.laws.specs.Tests.{by_test}
use borrow.Author.Tests.{ne_eqb}
use Rattle.laws.specs.First.{first, passed, first_front, first_behind}
use Rattle.numbers.specs.Numbers.{OK}
use Rattle.message.specs.declared.Body.{Body}
use Rattle.message.specs.declared.Message.{Message}
use Rattle.message.specs.Layout.{longest_message}
use Rattle.message.specs.Answers.{Written}
use Rattle.message.specs.Writing.{writer_row, writing, buffer_after, WriterLeaves}
use Rattle.message.proofs.Checks.{count_most}
use Rattle.message.proofs.RoundTrip.{bytes_short}
use Rattle.message_fields.specs.Fields.{fields_row}
use Rattle.member_record.specs.declared.MemberState.{MemberState}
use Rattle.member_record.specs.Record.{slot_number}
use Rattle.member.specs.Table.{Outcome}
use Rattle.member_calls.specs.declared.reply.AfterCall.{AfterCall}
use Rattle.member_calls.specs.declared.reply.Report.{Report}
use Rattle.member_calls.specs.Reports.{reply_length, LeavesReport}
use Rattle.member_fields.specs.declared.MemberFields.{MemberFields}
use Rattle.member_fields.specs.Fields.{state_of}
use Rattle.exports_member.specs.declared.WriteResult.{WriteResult}
use Rattle.exports_member.specs.Members.{call_result, member_result, fields_message, write_row, write_result, written_after}

sent_short : (gs : List Body) → reply_length gs ≤ longest_message
sent_short [] = omega arith
sent_short (g ∷ gs) = count_most g

pub written_short : (m : Message) (old : List ℕ) → (writing m old).length ≤ longest_message
unfolding writing
written_short m old =
    by_test (eqb (first (writer_row m old)) OK)
    (λ t. rw t (bytes_short m))
    (λ t. rw t (omega arith))

-- the slot of the record that numbers stand for
pub slot_kept : (f : MemberFields) → slot_number f.slot ≡ (state_of f).who.slot
unfolding state_of
slot_kept f = refl

-- what a call answered, by what it promised
module _ (f : MemberFields) (c : AfterCall) (o : Outcome) (a : LeavesReport o c.state c.report) where
  pub report_short : c.report.sent ≤ longest_message
  report_short = rw (ap (λ (r : Report). r.sent) a.report) (sent_short o.sent)

  pub same_result : call_result f c ≡ member_result f o
  same_result =
      ap (λ (m : MemberState). call_result f (record { state = m; report = c.report })) a.state ∙
      ap (λ (r : Report). call_result f (record { state = o.state; report = r })) a.report

-- what is written, by the number of the fields
module _ (i k r s p q v : ℕ) (old : List ℕ) (n : ℕ) (row : n ≡ first (fields_row (slot_number i) k p q v)) where
  pub fields_refused : (n ≡ OK → ⊥) → (record { number = n; length = 0 } ≡ write_result i k r s p q v old) × (old ≡ written_after i k r s p q v old)
  unfolding write_result written_after write_row
  fields_refused nz =
      let front : first (write_row i k r s p q v old) ≡ n = first_front (fields_row (slot_number i) k p q v) (writer_row (fields_message i k r s p q v) old)
      (λ z. nz (row ∙ z)) ∙ sym row in
      (rw (front, ne_eqb n OK nz), rw (front, ne_eqb n OK nz))

  pub fields_written : n ≡ OK → (w : Written) (new : List ℕ) → WriterLeaves (fields_message i k r s p q v) old w new
      → (record { number = w.number; length = w.length } ≡ write_result i k r s p q v old) × (new ≡ written_after i k r s p q v old)
  unfolding write_result written_after write_row writing buffer_after fields_row
  fields_written z w new l =
      let behind : first (write_row i k r s p q v old) ≡ first (writer_row (fields_message i k r s p q v) old) =
      first_behind (fields_row (slot_number i) k p q v) (writer_row (fields_message i k r s p q v) old) (passed (fields_row (slot_number i) k p q v) refl (sym row ∙ z))
      in
      let result : Written → WriteResult = λ (x : Written). record { number = x.number; length = x.length } in
      (rw behind (ap result l.answer), rw behind l.buffer)
