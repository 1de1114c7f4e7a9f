-- What a list is answered with: its number, and what its events came to.
use Rattle.std.specs.Prelude.{ℕ}
use Rattle.numbers.specs.Numbers.{OK}
use Rattle.play_run.specs.declared.Played.{Played}

pub record PlayAnswer : Type 0 where
  pub number : ℕ
  pub accepted : ℕ
  pub messages : ℕ
  pub proposals : ℕ
  pub decisions : ℕ
  pub ghosts : ℕ

-- one that is taken gets 0
abbrev pub taken_answer : Played → PlayAnswer
taken_answer p =
    record {
      number = OK;
      accepted = p.accepted;
      messages = p.messages;
      proposals = p.proposals;
      decisions = p.decisions;
      ghosts = p.ghosts;
    }
