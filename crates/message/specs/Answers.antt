-- What the reader and the writer answer.
use Rattle.std.specs.Prelude.{ℕ, Result, Ok, Err}
use Rattle.numbers.specs.declared.Refusal.{Refusal}
use Rattle.numbers.specs.Numbers.{OK, refusal_number}
use Rattle.message.specs.declared.Message.{Message}

-- what bytes read as: the message, or the number of the place table that refuses them
pub data Read : Type 0 where
  Got : Message → Read
  Refused : ℕ → Read

-- what the reader answers, as such
abbrev pub read_of : Result Message Refusal → Read
read_of (Ok m) = Got m
read_of (Err e) = Refused (refusal_number e)

-- the number of what the writer answers, and the length of what it put at the front; with a refusal that is 0
pub record Written : Type 0 where
  pub number : ℕ
  pub length : ℕ

-- what the writer answers, as such
abbrev pub written_of : Result ℕ Refusal → Written
written_of (Ok n) = record { number = OK; length = n }
written_of (Err e) = record { number = refusal_number e; length = 0 }
