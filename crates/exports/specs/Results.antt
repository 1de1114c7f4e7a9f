-- The fields that the C functions hand back, for each answer of the crates below.
use Rattle.std.specs.Prelude.{◌≡◌, Result, ℕ}
use Rattle.ids.specs.declared.Round.{Round}
use Rattle.ids.specs.declared.Member.{Member}
use Rattle.ids.specs.declared.Slot.{Slot}
use Rattle.numbers.specs.declared.Refusal.{Refusal}
use Rattle.numbers.specs.Numbers.{OK, number_of}
use Rattle.message.specs.declared.Message.{Message}
use Rattle.message.specs.declared.Body.{Body}
use Rattle.message.specs.declared.Body.TheVariants.{Start, Join, JoinVoted, Propose, Vote}
use Rattle.message.specs.Answers.{Read, Got, Refused}
use Rattle.message.specs.Layout.{START_KIND, JOIN_KIND, PROPOSE_KIND, VOTE_KIND}
use Rattle.tree.specs.Promises.{counted_of}
use Rattle.play_run.specs.Answer.{PlayAnswer}
use Rattle.exports.specs.declared.PlayResult.{PlayResult}
use Rattle.exports.specs.declared.AddResult.{AddResult}
use Rattle.exports.specs.declared.MessageResult.{MessageResult}

-- a result of play as play answers it
abbrev pub as_play_answer : PlayResult → PlayAnswer
as_play_answer r = record { number = r.number; accepted = r.accepted; messages = r.messages; proposals = r.proposals; decisions = r.decisions; ghosts = r.ghosts }

-- an add's answer, and a preview's
pub record AddIs (answer : Result ℕ Refusal) (r : AddResult) : Type 0 where
  pub number_is : r.number ≡ number_of answer
  pub ghosts_are : r.ghosts ≡ counted_of answer

-- a message of a slot that tells no vote; a value that its kind doesn't have is 0
abbrev pub voteless : Slot → ℕ → Round → Member → ℕ → MessageResult
voteless i kind r s v = record { number = OK; slot = i.0; kind = kind; round = r.0; sender = s.0; present = 0; voted = 0; value = v }

-- what a message of a slot says
abbrev pub body_result : Slot → Body → MessageResult
body_result i (Start r s) = voteless i START_KIND r s 0
body_result i (Join r s) = voteless i JOIN_KIND r s 0
body_result i (JoinVoted r s q w) =
    record { number = OK; slot = i.0; kind = JOIN_KIND; round = r.0; sender = s.0; present = 1; voted = q.0; value = w }
body_result i (Propose r s v) = voteless i PROPOSE_KIND r s v
body_result i (Vote r s) = voteless i VOTE_KIND r s 0

abbrev pub message_result : Message → MessageResult
message_result m = body_result m.slot m.body

-- with a refusal all but its number is 0
abbrev pub refused_result : ℕ → MessageResult
refused_result n = record { number = n; slot = 0; kind = 0; round = 0; sender = 0; present = 0; voted = 0; value = 0 }

abbrev pub read_result : Read → MessageResult
read_result (Got m) = message_result m
read_result (Refused n) = refused_result n
