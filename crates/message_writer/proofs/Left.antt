-- What the writer leaves, by its number: a refusal the buffer as it was, and else the message at its front. Assumes nothing.
use Rattle.std.proofs.Common.{◌≡◌, ℕ, List, length, Ok, Err, sym, ◌∙◌}
use Rattle.laws.specs.First.{first}
use Rattle.numbers.specs.declared.Refusal.{Refusal}
use Rattle.numbers.specs.Numbers.{OK, refusal_number}
use Rattle.numbers.proofs.Refusals.{refusal_not_ok}
use Rattle.xdr.proofs.Items.{length_encoded}
use Rattle.xdr_writer.specs.Put.{Fronts}
use Rattle.message.specs.declared.Message.{Message}
use Rattle.message.specs.Layout.{layout, bytes}
use Rattle.message.specs.Answers.{written_of}
use Rattle.message.specs.Writing.{writer_row, in_front, WriterLeaves}
use Rattle.message.proofs.RoundTrip.{fitted, in_range_written, left_in_front, refused_unwritten, left_as_it_was}

pub refused_leaves : (m : Message) (old : List ℕ) (e : Refusal) → refusal_number e ≡ first (writer_row m old) → WriterLeaves m old (written_of (Err e)) old
refused_leaves m old e h =
    let nonzero : first (writer_row m old) ≡ OK → ⊥ = λ z. refusal_not_ok e (h ∙ z) in
    record {
      answer = (λ i. record { number = h i; length = 0 }) ∙ sym (refused_unwritten m old nonzero);
      buffer = sym (left_as_it_was m old nonzero);
    }

-- a message's numbers at the front are the message there
sent : (m : Message) {old new : List ℕ} {n : ℕ} → Fronts (layout m) old n new → (n ≡ length (bytes m)) × (new ≡ in_front m old)
unfolding in_front bytes
sent m f = (rw (f.reached, length_encoded (layout m)), rw (f.stand, length_encoded (layout m)))

-- where the number is 0 there is room, and the message is in range
pub written_leaves : (m : Message) (old : List ℕ) {n : ℕ} {new : List ℕ} → OK ≡ first (writer_row m old) → Fronts (layout m) old n new →
    WriterLeaves m old (written_of (Ok n)) new
written_leaves m old h f =
    let (room, ranged) = fitted m old (sym h) in
    let (long, stands) = sent m f in
    record {
      answer = (λ i. record { number = OK; length = long i }) ∙ sym (in_range_written m old room ranged);
      buffer = stands ∙ sym (left_in_front m old room ranged);
    }
