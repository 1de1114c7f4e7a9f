-- The part of a store that is lent for a row: as many bytes as a row has, from where it begins. Assumes nothing.
use mathlib.Core.Path.{◌≡◌, refl, sym, ap, ◌∙◌}
use mathlib.Core.Bool.{true}
use mathlib.Core.List.{List, ◌++◌, append_assoc}
use Prim.Native.Nat.{ℕ, ◌+◌, ◌-◌, ◌≤◌}
use native.Mathlib.Omega.{arith}
use lib.ListN.{length, take, drop}
use lib.Seq.{drop-drop}
use Rattle.std.proofs.Common.{length-drop}
use Rattle.std.proofs.lemmas.List.{length-take-le, take-append-drop}
use Rattle.ids.specs.declared.Slot.{Slot}
use Rattle.xdr.proofs.Laws.{word_at_front}
use Rattle.message.specs.declared.Body.{Body}
use Rattle.message.specs.Layout.{longest_message, slot_place, message_slot}
use Rattle.message.specs.Reading.{size, decoded, decoded_body}
use Rattle.message.proofs.Checks.{size_least, size_most}
use Rattle.message.specs.declared.Message.{Message}
use Rattle.message.specs.Fields.{message_in_range}
use Rattle.message.specs.Writing.{in_front, buffer_after}
use Rattle.message.proofs.RoundTrip.{left_in_front}
use Rattle.play_store.specs.Rows.{HasRow, row_length, row_start, row_at, put_row, fetched}

pub part_row : (s : List ℕ) (k : ℕ) → take (row_start k + row_length - row_start k) (drop (row_start k) s) ≡ row_at s k
part_row s k = let e : row_start k + row_length - row_start k ≡ row_length = omega arith in rw e refl

pub length_part : (s : List ℕ) (k : ℕ) → HasRow s k → row_length ≤ length (row_at s k)
length_part s k h =
    let room : row_length ≤ length (drop (row_start k) s) = rw (length-drop (row_start k) s) (omega arith) in
    omega (arith, length-take-le row_length (drop (row_start k) s) room)

-- a message written at the front of it
pub part_written : (s : List ℕ) (k : ℕ) (g : Message) {b : List ℕ} → HasRow s k → message_in_range g ≡ true →
    b ≡ buffer_after g (take (row_start k + row_length - row_start k) (drop (row_start k) s)) →
    take (row_start k) s ++ (b ++ drop (row_start k + row_length - row_start k) (drop (row_start k) s)) ≡ put_row s k g
part_written s k g {b} h right w =
    let e : row_start k + row_length - row_start k ≡ row_length = omega arith in
    let put : b ≡ in_front g (row_at s k) = (rw (part_row s k) at w) ∙ left_in_front g (row_at s k) (length_part s k h) right in
    rw (
      e,
      put,
      append_assoc (take (row_start k) s) (in_front g (row_at s k)) (drop (row_start k + row_length) s),
      ← drop-drop row_length (row_start k) s,
    )

-- what the message at the front of row k says
pub fetched_body : (s : List ℕ) (k : ℕ) {r : List ℕ} {b : Body} → r ≡ row_at s k → b ≡ decoded_body (take (size r) r) → b ≡ (fetched s k).body
unfolding fetched decoded
fetched_body s k e d = d ∙ ap (λ (l : List ℕ). decoded_body (take (size l) l)) e

-- the slot of the message at the front of bytes is their first word, however long the message is
slot_first : (r : List ℕ) → longest_message ≤ length r → message_slot r ≡ (decoded (take (size r) r)).slot
unfolding decoded
slot_first r h =
    let front = take (size r) r in
    let both : front ++ drop (size r) r ≡ r = take-append-drop (size r) r in
    let long : length front ≡ size r = length-take-le (size r) r (omega (arith, size_most r)) in
    let same = word_at_front front (drop (size r) r) slot_place (omega (arith, size_least r)) in
    ap (λ (x : List ℕ). message_slot x) (sym both) ∙ ap (λ (x : ℕ). record { 0 = x }) same

pub fetched_slot : (s : List ℕ) (k : ℕ) {r : List ℕ} {i : Slot} → r ≡ row_at s k → row_length ≤ length r → i ≡ message_slot r → i ≡ (fetched s k).slot
unfolding fetched
fetched_slot s k {r = r} e h d = d ∙ slot_first r h ∙ ap (λ (l : List ℕ). (decoded (take (size l) l)).slot) e
