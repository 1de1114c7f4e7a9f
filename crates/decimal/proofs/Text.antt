-- Text put at a place: none, one character, and one text behind another. Assumes nothing.
use mathlib.Core.Path.{◌≡◌, refl, sym, ap, ◌∙◌}
use mathlib.Core.List.{List, [], ◌∷◌, ◌++◌, append-nil}
use Prim.Native.Nat.{ℕ, suc, ◌+◌, ◌≤◌, ◌<◌}
use native.Mathlib.Omega.{arith}
use lib.ListN.{length, take, drop, set, length-append, take-append-drop}
use lib.Seq.{set_split, append_snoc}
use Rattle.laws.specs.Parts.{written_on, written_length}
use Rattle.decimal.specs.Text.{PutText}

-- no text
pub text_none : (out : List ℕ) (at : ℕ) → PutText out at [] at out
text_none out at =
    let e : at + 0 ≡ at = omega arith in
    record { next_is = sym e; bytes_are = rw (e, append-nil (take at out), take-append-drop at out) }

-- one character
pub text_one : (out : List ℕ) (at b : ℕ) → at < length out → PutText out at (b ∷ []) (at + 1) (set out at b)
text_one out at b h =
    let e : at + 1 ≡ suc at = omega arith in
    record { next_is = refl; bytes_are = set_split out at b h ∙ rw (e, append_snoc (take at out) b (drop (suc at) out)) }

-- what is put leaves the bytes as long as they were
pub text_length : {out text new : List ℕ} {at next : ℕ} → PutText out at text next new → at + length text ≤ length out → length new ≡ length out
text_length {out} {text} {new} {at} P h = ap length P.bytes_are ∙ written_length out text at (at + length text) refl h

-- one text behind another
pub text_behind : {out u mid w new : List ℕ} {at to next : ℕ} → PutText out at u to mid → PutText mid to w next new → at + length u + length w ≤ length out →
    PutText out at (u ++ w) next new
text_behind {out} {u} {mid} {w} {new} {at} {to} {next} P Q h =
    let place = P.next_is in
    let size : at + length (u ++ w) ≡ at + length u + length w = rw (length-append u w) (omega arith) in
    record {
      next_is = Q.next_is ∙ rw (place, size);
      bytes_are =
          Q.bytes_are ∙
          rw (place, P.bytes_are, size)
          (written_on out u w at (at + length u) (at + length u + length w) refl refl h);
    }

-- there is as much room behind what was put as there was
pub text_room : {out text new : List ℕ} {at next : ℕ} (k : ℕ) → PutText out at text next new → at + length text + k ≤ length out → next + k ≤ length new
text_room k P h = omega (arith, P.next_is, text_length P (omega arith))
