-- A refusal of the fields, or what the writer answers.
use Rattle.std.proofs.Common.{ap, refl}
use Rattle.numbers.specs.Numbers.{refusal_number}
use Rattle.numbers.proofs.Refusals.{refusal_not_ok}
use Rattle.message.specs.Answers.{Written}
use Rattle.exports_member.proofs.MemberResults.{written_short, fields_refused, fields_written}
use Rattle.exports_member.proofs.kalebasin_write_message.Goals as goal

pub returns-in-Err-clause-answer : goal.returns-in-Err-clause-answer
returns-in-Err-clause-answer c =
    let a = c.args in
    let (number, length) = c.written.ensures in
    let e = c.in-Err.refusal in
    rw (number, length) (fields_refused a.slot a.kind a.round a.sender a.present a.voted a.value a.buf.now (refusal_number e) c.in-Err.ensures
    (refusal_not_ok e)).0

pub returns-in-Err-clause-left : goal.returns-in-Err-clause-left
returns-in-Err-clause-left c =
    let a = c.args in
    let e = c.in-Err.refusal in
    (fields_refused a.slot a.kind a.round a.sender a.present a.voted a.value a.buf.now (refusal_number e) c.in-Err.ensures (refusal_not_ok e)).1

pub written-requires-2 : goal.written-requires-2
written-requires-2 c = rw (ap (λ (w : Written). w.length) c.write_message.ensures.answer) (written_short c.message_of-m.result c.args.buf.now)

pub returns-clause-answer : goal.returns-clause-answer
returns-clause-answer c =
    let a = c.args in
    let (number, length) = c.written-2.ensures in
    rw (number, length) (fields_written a.slot a.kind a.round a.sender a.present a.voted a.value a.buf.now _ c.in_default.ensures refl _ _
    (rw c.message_of-m.ensures at c.write_message.ensures)).0

pub returns-clause-left : goal.returns-clause-left
returns-clause-left c =
    let a = c.args in
    (fields_written a.slot a.kind a.round a.sender a.present a.voted a.value a.buf.now _ c.in_default.ensures refl _ _
    (rw c.message_of-m.ensures at c.write_message.ensures)).1
