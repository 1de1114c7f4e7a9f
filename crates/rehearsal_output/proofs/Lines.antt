-- Lines: one number more, and one node more. Assumes nothing.
use mathlib.Core.Path.{◌≡◌, refl, sym, ap}
use mathlib.Core.Bool.{Bool, true, false}
use mathlib.Core.List.{List, [], ◌∷◌, ◌++◌, append_assoc, append-nil}
use Prim.Native.Nat.{ℕ, zero, suc, ◌+◌, ◌*◌, ◌≤◌, ◌<◌}
use native.Mathlib.Omega.{arith}
use native.Mathlib.Numerals.{add-one}
use lib.ListN.{length, get_or, take, length-append}
use lib.Seq.{take-suc, take_all}
use lib.Dec.{eqb}
use borrow.Author.Tests.{ne_eqb}
use Rattle.laws.specs.Widths.{BELOW_64_BITS}
use Rattle.decimal.specs.Digits.{decimal}
use Rattle.decimal.specs.Text.{PutText}
use Rattle.decimal.proofs.Text.{text_none, text_behind, text_room}
use Rattle.decimal.proofs.Decimal.{decimal_of_64_bits, decimal_of_8_bits}
use Rattle.tree_theory.specs.Machine.{Node}
use Rattle.tree_theory.specs.Table.{row, rows_of}
use Rattle.tree_theory.proofs.Words.{rows_suc}
use Rattle.rehearsal_output.specs.Output.{LINE_FEED, in_line, behind_blanks, spaced, line, node_line, node_lines, slots_lines}
use Rattle.rehearsal_output.specs.Promise.{ROOM_FOR_ANSWER, ROOM_FOR_NUMBER, ROOM_FOR_NODE, ROOM_FOR_SLOT, PutWithin}

-- one number more behind others
behind_blanks_last : (l : List ℕ) (x : ℕ) → behind_blanks (l ++ x ∷ []) ≡ behind_blanks l ++ in_line false x
unfolding behind_blanks
behind_blanks_last [] x = append-nil (in_line false x)
behind_blanks_last (y ∷ l) x = rw (behind_blanks_last l x) (sym (append_assoc (in_line false y) (behind_blanks l) (in_line false x)))

-- the first numbers of a list with one more
pub spaced_more : (l : List ℕ) (i : ℕ) → i < length l → spaced (take (i + 1) l) ≡ spaced (take i l) ++ in_line (eqb i 0) (get_or l i 0)
unfolding spaced behind_blanks
spaced_more [] i h = absurd (omega arith)
spaced_more (x ∷ l) zero h = append-nil (decimal x)
spaced_more (x ∷ l) (suc i) h =
    let e : suc i + 1 ≡ suc (suc i) = omega arith in
    rw (e, ne_eqb (suc i) 0 (λ z. omega arith), take-suc l i 0 (omega arith), behind_blanks_last (take i l) (get_or l i 0))
    (sym (append_assoc (decimal x) (behind_blanks (take i l)) (in_line false (get_or l i 0))))

lines_append : (ns ms : List Node) → node_lines (ns ++ ms) ≡ node_lines ns ++ node_lines ms
unfolding node_lines
lines_append [] ms = refl
lines_append (n ∷ ns) ms = rw (lines_append ns ms) (sym (append_assoc (node_line n) (node_lines ns) (node_lines ms)))

-- the first rows with one more
pub lines_more : (ws : List ℕ) (i : ℕ) → node_lines (rows_of ws (i + 1)) ≡ node_lines (rows_of ws i) ++ node_line (row ws i)
unfolding node_lines
lines_more ws i =
    rw (add-one i, rows_suc ws i, lines_append (rows_of ws i) (row ws i ∷ []))
    (ap (λ t. node_lines (rows_of ws i) ++ t) (append-nil (node_line (row ws i))))

-- a line is never empty
pub line_some : (l : List ℕ) → 0 < length (line l)
unfolding line
line_some l = rw (length-append (spaced l) (LINE_FEED ∷ [])) (omega arith)

-- how long a number of a line is
in_line_long : (first : Bool) (n k : ℕ) → length (decimal n) ≤ k → length (in_line first n) ≤ k + 1
in_line_long true n k h = omega arith
in_line_long false n k h = omega arith

pub in_line_64 : (first : Bool) (n : ℕ) → n < BELOW_64_BITS → length (in_line first n) ≤ ROOM_FOR_NUMBER
in_line_64 first n h = in_line_long first n 20 (decimal_of_64_bits n h)

pub in_line_8 : (first : Bool) (n : ℕ) → n < 256 → length (in_line first n) ≤ ROOM_FOR_ANSWER
in_line_8 first n h = in_line_long first n 3 (decimal_of_8_bits n h)

-- text behind text, each within its bound
pub within_none : (out : List ℕ) (at : ℕ) → PutWithin out at [] at out 0
within_none out at = record { put = text_none out at; within = omega arith }

pub within_more : {out u mid w new : List ℕ} {at to next : ℕ} (j k : ℕ) → PutWithin out at u to mid j → PutText mid to w next new → length w ≤ k →
    at + j + k ≤ length out → PutWithin out at (u ++ w) next new (j + k)
within_more {u = u} {w = w} j k P Q short h =
    record { put = text_behind P.put Q (omega (arith, P.within)); within = rw (length-append u w) (omega (arith, P.within)) }

pub within_room : {out u mid : List ℕ} {at to : ℕ} (j k : ℕ) → PutWithin out at u to mid j → at + j + k ≤ length out → to + k ≤ length mid
within_room j k P h = text_room k P.put (omega (arith, P.within))

pub within_wider : {out u new : List ℕ} {at next : ℕ} (j k : ℕ) → PutWithin out at u next new j → j ≤ k → PutWithin out at u next new k
within_wider j k P h = record { put = P.put; within = omega (arith, P.within) }

-- one number of a line more, where there is room for k characters
pub number_more : {out mid new : List ℕ} {at to next : ℕ} (l : List ℕ) (i x j k m : ℕ) → PutWithin out at (spaced (take i l)) to mid j → i < length l → x ≡ get_or l i 0 →
    length (in_line (eqb i 0) x) ≤ k → PutText mid to (in_line (eqb i 0) x) next new → at + j + k ≤ length out → j + k ≤ m →
    PutWithin out at (spaced (take (i + 1) l)) next new m
number_more l i x j k m P h e short Q room wide =
    rw (spaced_more l i h) (within_wider (j + k) m (within_more j k P (rw e at Q) (rw e at short) room) wide)

-- and the line feed
pub line_done : {out mid new : List ℕ} {at to next : ℕ} (l : List ℕ) (i j m : ℕ) → PutWithin out at (spaced (take i l)) to mid j → i ≡ length l →
    PutText mid to (LINE_FEED ∷ []) next new → j ≤ m → at + m < length out → PutWithin out at (line l) next new (m + 1)
unfolding line
line_done l i j m P e Q wide room =
    let all : take i l ≡ l = take_all i l (omega arith) in
    within_more m 1 (within_wider j m (rw all at P) wide) Q (omega arith) (omega arith)

-- one node more
pub node_more : {out mid new : List ℕ} {at to next : ℕ} (ws : List ℕ) (i : ℕ) → PutWithin out at (node_lines (rows_of ws i)) to mid (ROOM_FOR_NODE * i) →
    PutWithin mid to (node_line (row ws i)) next new ROOM_FOR_NODE → at + ROOM_FOR_NODE * i + ROOM_FOR_NODE ≤ length out →
    PutWithin out at (node_lines (rows_of ws (i + 1))) next new (ROOM_FOR_NODE * (i + 1))
node_more ws i P Q h =
    let both = within_more (ROOM_FOR_NODE * i) ROOM_FOR_NODE P Q.put Q.within h in
    record { put = rw (lines_more ws i) both.put; within = rw (lines_more ws i) (omega (arith, both.within)) }

-- the same nodes are the same lines
pub slots_same : (f g : ℕ → List Node) (k : ℕ) → ((s : ℕ) → s < k → f s ≡ g s) → slots_lines f k ≡ slots_lines g k
unfolding slots_lines
slots_same f g zero h = refl
slots_same f g (suc k) h = rw (slots_same f g k (λ s b. h s (omega arith)), h k (omega arith)) refl

-- one slot more
slots_more : (f : ℕ → List Node) (k : ℕ) → slots_lines f (k + 1) ≡ slots_lines f k ++ node_lines (f k)
unfolding slots_lines
slots_more f k = rw (add-one k) refl

pub slot_more : {out mid new : List ℕ} {at to next : ℕ} (f : ℕ → List Node) (k : ℕ) → PutWithin out at (slots_lines f k) to mid (ROOM_FOR_SLOT * k) →
    PutWithin mid to (node_lines (f k)) next new ROOM_FOR_SLOT → at + ROOM_FOR_SLOT * k + ROOM_FOR_SLOT ≤ length out →
    PutWithin out at (slots_lines f (k + 1)) next new (ROOM_FOR_SLOT * (k + 1))
slot_more f k P Q h =
    let both = within_more (ROOM_FOR_SLOT * k) ROOM_FOR_SLOT P Q.put Q.within h in
    record { put = rw (slots_more f k) both.put; within = rw (slots_more f k) (omega (arith, both.within)) }
