-- What the C functions of one member hand back, and what the writer of messages does for C.
use Rattle.std.specs.Prelude.{cond, List, [], ◌∷◌, ◌++◌, ℕ, length, eqb}
use Rattle.laws.specs.First.{Cause, ◌gives◌, first}
use Rattle.numbers.specs.Numbers.{OK, RECORD_UNSOUND}
use Rattle.message.specs.declared.Message.{Message}
use Rattle.message.specs.Layout.{bytes}
use Rattle.message.specs.Writing.{in_front, writer_row}
use Rattle.message_fields.specs.Fields.{message_of, fields_row}
use Rattle.member_record.specs.declared.MemberState.{MemberState}
use Rattle.member_record.specs.Record.{round_number, slot_number}
use Rattle.member.specs.Table.{Outcome, unless}
use Rattle.member_calls.specs.declared.reply.AfterCall.{AfterCall}
use Rattle.member_calls.specs.Reports.{reported}
use Rattle.member_calls.specs.Calls.{fresh_call, start_call, deliver_call}
use Rattle.member_fields.specs.declared.MemberFields.{MemberFields}
use Rattle.member_fields.specs.Fields.{no_mask, member_of, state_of, fields_of, no_fields}
use Rattle.exports_member.specs.declared.MemberResult.{MemberResult}
use Rattle.exports_member.specs.declared.WriteResult.{WriteResult}

-- a refused call gives the record back as it came, and its number alone
abbrev pub refused_call : MemberFields → ℕ → MemberResult
refused_call f k = record { number = k; sent = 0; round = 0; parent = 0; value = 0; fields = f }

-- the record that goes back: the one that came, where the call is refused, else the one after
abbrev pub fields_after : MemberFields → MemberState → ℕ → MemberFields
fields_after f m k = cond (eqb k OK) (fields_of m) f

-- what a call hands back
abbrev pub call_result : MemberFields → AfterCall → MemberResult
call_result f c =
    record {
      number = c.report.number;
      sent = c.report.sent;
      round = c.report.round.0;
      parent = c.report.parent.0;
      value = c.report.value;
      fields = fields_after f c.state c.report.number;
    }

abbrev pub member_result : MemberFields → Outcome → MemberResult
member_result f o = call_result f (record { state = o.state; report = reported o })

-- 17 comes first where the flags are none; then the causes of the call on the record that the numbers stand for
abbrev pub on_record : MemberFields → Outcome → Outcome
on_record f o = unless (no_mask f.flags gives RECORD_UNSOUND ∷ []) (state_of f) o

unfoldable pub start_outcome : MemberFields → ℕ → ℕ → List ℕ → Outcome
start_outcome f r offer old = on_record f (start_call (state_of f) (round_number r) offer old)

unfoldable pub deliver_outcome : MemberFields → List ℕ → List ℕ → Outcome
deliver_outcome f s old = on_record f (deliver_call (state_of f) s old)

-- a refused fresh leaves zeros
abbrev pub fresh_outcome : ℕ → ℕ → ℕ → Outcome
fresh_outcome slot me n = fresh_call (state_of no_fields) (slot_number slot) (member_of me) n

-- the message of fields
abbrev pub fields_message : ℕ → ℕ → ℕ → ℕ → ℕ → ℕ → ℕ → Message
fields_message i k r s p q v = message_of (slot_number i) k (round_number r) (member_of s) p (round_number q) v

-- the causes of the fields, 32 the first of them, then the writer's: 18 the buffer, 32 the slot (it can't come any more), 16 a range
unfoldable pub write_row : ℕ → ℕ → ℕ → ℕ → ℕ → ℕ → ℕ → List ℕ → List Cause
unfolding fields_row
write_row i k r s p q v old = fields_row (slot_number i) k p q v ++ writer_row (fields_message i k r s p q v) old

-- the number; the length is that of the message, and 0 with a refusal
unfoldable pub write_result : ℕ → ℕ → ℕ → ℕ → ℕ → ℕ → ℕ → List ℕ → WriteResult
unfolding write_row
write_result i k r s p q v old =
    record {
      number = first (write_row i k r s p q v old);
      length = cond (eqb (first (write_row i k r s p q v old)) OK) (length (bytes (fields_message i k r s p q v))) 0;
    }

-- the message at the front, and the bytes behind it as they were; a refusal leaves the buffer as it was
unfoldable pub written_after : ℕ → ℕ → ℕ → ℕ → ℕ → ℕ → ℕ → List ℕ → List ℕ
unfolding write_row
written_after i k r s p q v old = cond (eqb (first (write_row i k r s p q v old)) OK) (in_front (fields_message i k r s p q v) old) old
