-- A host's reader and the writer together, of what each promises: the reader accepts what the writer writes, and nothing else
-- (01, "Messages": nothing stands in for a missing word).
use Rattle.std.specs.Prelude.{◌≡◌, List, ◌++◌, ℕ, ◌≤◌, length, take, drop}
use Rattle.ids.specs.Ranges.{no_slot}
use Rattle.numbers.specs.Numbers.{OK}
use Rattle.xdr.specs.Words.{AllBytes}
use Rattle.message.specs.declared.Message.{Message}
use Rattle.message.specs.Answers.{Read, Got, Written}
use Rattle.message.specs.Layout.{longest_message, ValueFits}
use Rattle.message.specs.Reading.{ReaderGives}
use Rattle.message.specs.Writing.{WriterLeaves}

-- a writer that was lent `old` wrote s: it answers OK and the length, and leaves s at the front and the rest as it was
pub record Wrote (s old : List ℕ) (w : Written) (new : List ℕ) : Type 0 where
  pub answer_is : w ≡ record { number = OK; length = length s }
  pub buffer_is : new ≡ s ++ drop (length s) old

-- where the reader accepts bytes, they are what the writer writes for that message, into any buffer that has room for the longest
abbrev pub AcceptedAreWritten : Type 0
AcceptedAreWritten = (s : List ℕ) → AllBytes s → (m : Message) → ReaderGives no_slot s (Got m) → (old : List ℕ) → longest_message ≤ length old →
    (w : Written) (new : List ℕ) → WriterLeaves m old w new → Wrote s old w new

-- where the writer accepts a message, the reader takes it from the length answered
abbrev pub WrittenAreAccepted : Type 0
WrittenAreAccepted = (m : Message) → ValueFits m.body → (old : List ℕ) (w : Written) (new : List ℕ) → WriterLeaves m old w new → w.number ≡ OK →
    (r : Read) → ReaderGives no_slot (take w.length new) r → r ≡ Got m
