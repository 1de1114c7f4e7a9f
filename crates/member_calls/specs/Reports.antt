-- What a call's result says, and what it leaves of the record and of the reply (01, "Members"; 02, ticket 6).
use Rattle.std.specs.Prelude.{◌≡◌, List, [], ◌∷◌, Result, Ok, Err, ℕ}
use Rattle.ids.specs.declared.Slot.{Slot}
use Rattle.message.specs.declared.Body.{Body}
use Rattle.message.specs.Layout.{in_slot, byte_count}
use Rattle.message.specs.Writing.{in_front}
use Rattle.member_record.specs.declared.MemberState.{MemberState}
use Rattle.member_record.specs.Record.{round_number}
use Rattle.member.specs.declared.StepAnswer.{StepAnswer}
use Rattle.member.specs.Table.{Named, nothing, proposal, decision, Outcome, refused}
use Rattle.member.specs.Answers.{answer_outcome}
use Rattle.member_calls.specs.declared.reply.Report.{Report}

-- what is told of the record after: the answer of a step, or a refusal with any number
abbrev pub told_outcome : MemberState → Result StepAnswer ℕ → Outcome
told_outcome m (Ok a) = answer_outcome m a
told_outcome m (Err k) = refused k m

-- the sent length; 0 if nothing is sent
abbrev pub reply_length : List Body → ℕ
reply_length [] = 0
reply_length (g ∷ gs) = byte_count g

-- a message sent, of the slot given, stands at the front of the reply; bytes behind it, or all if nothing is sent, stay
abbrev pub reply_after : Slot → List Body → List ℕ → List ℕ
reply_after slot [] old = old
reply_after slot (g ∷ gs) old = in_front (in_slot slot g) old

-- r, X and B as far as the answer names them; each that it doesn't name is 0
abbrev pub named_round : Named → ℕ
named_round nothing = 0
named_round (proposal r x b) = r
named_round (decision r x) = r

abbrev pub named_value : Named → ℕ
named_value nothing = 0
named_value (proposal r x b) = x
named_value (decision r x) = x

abbrev pub named_parent : Named → ℕ
named_parent nothing = 0
named_parent (proposal r x b) = b
named_parent (decision r x) = 0

abbrev pub reported : Outcome → Report
reported o =
    record {
      number = o.number;
      sent = reply_length o.sent;
      round = round_number (named_round o.named);
      value = named_value o.named;
      parent = round_number (named_parent o.named);
    }

-- the result, and the record after
pub record LeavesReport (o : Outcome) (after : MemberState) (r : Report) : Type 0 where
  pub report : r ≡ reported o
  pub state : after ≡ o.state

-- and the reply after, where what is sent is of this slot
pub record LeavesReply (slot : Slot) (o : Outcome) (old : List ℕ) (after : MemberState) (r : Report) (new : List ℕ) : Type 0 where
  pub answers : LeavesReport o after r
  pub reply : new ≡ reply_after slot o.sent old
