-- Items one behind another: what was put is read where it stands, what stands in bytes to their end is those bytes, and an item put
-- behind others is the longer list. Each law goes item by item and cites the law of its width. Assumes nothing.
use mathlib.Core.Path.{◌≡◌, refl, sym, ap, ◌∙◌}
use mathlib.Core.List.{List, [], ◌∷◌, ◌++◌, append_assoc, append-nil}
use Prim.Native.Nat.{ℕ, ◌+◌, ◌≤◌, ◌<◌}
use native.Mathlib.Omega.{arith}
use lib.ListN.{length, take, drop, length-append, drop_of_length-le}
use Rattle.laws.specs.Parts.{written_on}
use Rattle.laws.specs.Widths.{BELOW_64_BITS}
use Rattle.xdr.specs.Words.{AllBytes, word, hyper, word_at, hyper_at}
use Rattle.xdr.specs.Items.{Item, integer, long, width, span, item_bytes, encoded, Stand}
use Rattle.xdr.proofs.Laws.{length_word, length_hyper, word_found, hyper_found, word_whole, hyper_whole}

pub encoded_append : (is js : List Item) → encoded (is ++ js) ≡ encoded is ++ encoded js
unfolding encoded
encoded_append [] js = refl
encoded_append (i ∷ is) js = rw (encoded_append is js, append_assoc (item_bytes i) (encoded is) (encoded js))

pub length_item : (i : Item) → length (item_bytes i) ≡ width i
unfolding item_bytes
length_item (integer x) = length_word x
length_item (long x) = length_hyper x

pub length_encoded : (is : List Item) → length (encoded is) ≡ span is
unfolding encoded
length_encoded [] = refl
length_encoded (i ∷ l) = rw (length-append (item_bytes i) (encoded l), length_item i, length_encoded l)

-- an item is read where it was put
pub integer_found : (is js : List Item) (x at : ℕ) → length (encoded is) ≡ at → x < 4294967296 → word_at (encoded (is ++ integer x ∷ js)) at ≡ x
unfolding encoded
integer_found is js x at e h = rw (encoded_append is (integer x ∷ js)) (word_found (encoded is) (encoded js) x at e h)

pub long_found : (is js : List Item) (x at : ℕ) → length (encoded is) ≡ at → x < BELOW_64_BITS → hyper_at (encoded (is ++ long x ∷ js)) at ≡ x
unfolding encoded
long_found is js x at e h = rw (encoded_append is (long x ∷ js)) (hyper_found (encoded is) (encoded js) x at e h)

-- one item, of n bytes w, and then the rest
step : (s w rest : List ℕ) (at n : ℕ) → length w ≡ n → at + length (w ++ rest) ≡ length s → (at + n ≤ length s → w ++ drop (at + n) s ≡ drop at s) →
    (at + n + length rest ≡ length s → drop (at + n) s ≡ rest) → drop at s ≡ w ++ rest
step s w rest at n size e first further =
    let total : length (w ++ rest) ≡ n + length rest = rw (length-append w rest, size) in
    sym (first (omega arith)) ∙ ap (λ (t : List ℕ). w ++ t) (further (omega arith))

-- bytes in which items stand to the end are the bytes of the items
pub stands : (s : List ℕ) (at : ℕ) (is : List Item) → AllBytes s → Stand s at is → at + length (encoded is) ≡ length s → drop at s ≡ encoded is
unfolding encoded
stands s at [] k h e =
    let past : length s ≤ at = omega arith in
    drop_of_length-le s past
stands s at (integer x ∷ is) k h e =
    step s (word x) (encoded is) at 4 (length_word x) e (λ fits. rw h.0 at (word_whole at s k fits)) (λ f. stands s (at + 4) is k h.1 f)
stands s at (long x ∷ is) k h e =
    step s (hyper x) (encoded is) at 8 (length_hyper x) e (λ fits. rw h.0 at (hyper_whole at s k fits)) (λ f. stands s (at + 8) is k h.1 f)

pub span_snoc : (is : List Item) (i : Item) → span (is ++ i ∷ []) ≡ span is + width i
span_snoc [] i = omega arith
span_snoc (j ∷ is) i = rw (span_snoc is i) (omega arith)

-- an item put behind others
pub put_on : (l m r : List ℕ) (is : List Item) (i : Item) → span is + width i ≤ length l → m ≡ encoded is ++ drop (span is) l →
    r ≡ take (span is) m ++ item_bytes i ++ drop (span is + width i) m → r ≡ encoded (is ++ i ∷ []) ++ drop (span is + width i) l
unfolding encoded
put_on l m r is i h e f =
    rw (f, e, encoded_append is (i ∷ []), append-nil (item_bytes i))
    (written_on l (encoded is) (item_bytes i) 0 (span is) (span is + width i) (rw (length_encoded is) (omega arith)) (rw (length_item i)) h)
