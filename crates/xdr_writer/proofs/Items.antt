-- Items put through the writer: one leaves the bytes as many as they were, and one put behind others at the front is the longer front. Assumes nothing.
use mathlib.Core.Path.{◌≡◌, refl}
use mathlib.Core.List.{List, [], ◌∷◌, ◌++◌, append-nil}
use Prim.Native.Nat.{ℕ, ◌+◌, ◌≤◌}
use native.Mathlib.Omega.{arith}
use lib.ListN.{length}
use lib.Seq.{append_snoc}
use Rattle.laws.specs.Parts.{written_length}
use Rattle.xdr.specs.Items.{Item, width, span, item_bytes, encoded}
use Rattle.xdr.proofs.Items.{length_item, span_snoc, put_on}
use Rattle.xdr_writer.specs.Put.{with_item, Puts, putting, putting_all, Fronts}
use Rattle.xdr_writer.specs.declared.Writer.{Writer}

pub put_length : (i : Item) (at : ℕ) (l : List ℕ) → at + width i ≤ length l → length (with_item i at l) ≡ length l
put_length i at l h = written_length l (item_bytes i) at (at + width i) (rw (length_item i)) h

-- nothing is put yet
pub at_front : (l : List ℕ) → Fronts [] l 0 l
unfolding encoded
at_front l = record { reached = refl; stand = refl }

pub put_behind : {is : List Item} {i : Item} {l m r : List ℕ} {at next : ℕ} → Fronts is l at m → Puts i m at next r → span is + width i ≤ length l →
    Fronts (is ++ i ∷ []) l next r
put_behind {is = is} {i = i} {l = l} {m = m} {r = r} f p h =
    let put : r ≡ with_item i (span is) m = rw f.reached at p.put in
    let end : span (is ++ i ∷ []) ≡ span is + width i = span_snoc is i in
    record { reached = rw (p.moved, f.reached, end); stand = rw end (put_on l m r is i h f.stand put) }

-- items put behind others, by one writer
put_further : {is : List Item} {l : List ℕ} (js : List Item) (w : Writer) → Fronts is l w.at w.buf.now → span is + span js ≤ length l →
    Fronts (is ++ js) l (putting_all js w).at (putting_all js w).buf.now
put_further {is = is} [] w f h = rw (append-nil is) f
put_further {is = is} {l = l} (j ∷ js) w f h =
    let one : Fronts (is ++ j ∷ []) l (putting j w).at (putting j w).buf.now =
    put_behind f (record { moved = refl; put = refl }) (omega arith) in
    rw (← append_snoc is j js) (put_further js (putting j w) one (omega (arith, span_snoc is j)))

-- what a writer put from the front on stands there, in the buffer that it leaves
pub put_fronts : {is : List Item} (w : Writer) {w' : Writer} {l new : List ℕ} → w' ≡ putting_all is w → w.at ≡ 0 → w.buf.now ≡ l → span is ≤ length l →
    new ≡ w'.buf.now → Fronts is l w'.at new
put_fronts {is = is} w {w' = w'} {l = l} {new = new} put e same h left =
    let front : Fronts [] l w.at w.buf.now = rw (e, same) (at_front l) in
    rw (left, put) (put_further is w front (omega arith))
