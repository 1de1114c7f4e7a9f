-- The store holds messages row by row: a message put at the first free row is one more message stored, and each row gives its message.
-- Every row has one length, so that row k starts behind the k rows before it; what stands behind a message doesn't matter to it.
-- Assumes nothing.
use mathlib.Core.Path.{◌≡◌, refl, sym, ap, ◌∙◌}
use mathlib.Core.Bool.{true}
use mathlib.Core.List.{List, [], ◌∷◌, ◌++◌, append_assoc, append-nil}
use Prim.Native.Nat.{ℕ, zero, suc, ◌+◌, ◌-◌, ◌≤◌, ◌<◌}
use native.Mathlib.Omega.{arith}
use lib.ListN.{length, take, drop, get_or, replicate, length-append, length-replicate, replicate-append-replicate}
use lib.Seq.{take_at, drop_at, drop-drop}
use Rattle.laws.specs.Lists.{◌∈◌}
use Rattle.laws.specs.Elements.{getD_in}
use Rattle.message.specs.declared.Message.{Message}
use Rattle.message.specs.Fields.{message_in_range}
use Rattle.message.specs.Layout.{bytes, ValueFits}
use Rattle.message.specs.Reading.{size, decoded}
use Rattle.message.specs.Writing.{in_front}
use Rattle.message.proofs.RoundTrip.{bytes_short, spelt_front}
use Rattle.play_store.specs.Rows.{row_length, row_start, row_with, rows_with, stored, row_at, put_row, fetched}

abbrev zeros : ℕ → List ℕ
zeros n = replicate n 0

length_zeros : (n : ℕ) → length (zeros n) ≡ n
length_zeros n = length-replicate n 0

zeros_cut : (n a b : ℕ) → n ≡ a + b → zeros n ≡ zeros a ++ zeros b
zeros_cut n a b e = ap zeros e ∙ sym (replicate-append-replicate a b 0)

pub length_row : (g : Message) → length (row_with g) ≡ row_length
unfolding row_with
length_row g = simp (length-append, length-replicate) (omega (arith, bytes_short g))

pub length_stored_rows : (gs : List Message) → length (rows_with gs) ≡ row_start (length gs)
unfolding rows_with
length_stored_rows [] = refl
length_stored_rows (g ∷ gs) = rw (length-append (row_with g) (rows_with gs), length_row g, length_stored_rows gs) (omega arith)

-- a cleared store has no message
pub cleared : (n : ℕ) → replicate n 0 ≡ stored n []
unfolding stored
cleared n = let e : n - row_start 0 ≡ n = omega arith in rw e refl

rows_snoc : (gs : List Message) (g : Message) → rows_with (gs ++ g ∷ []) ≡ rows_with gs ++ row_with g
unfolding rows_with
rows_snoc [] g = append-nil (row_with g)
rows_snoc (h ∷ gs) g = rw (rows_snoc gs g) (sym (append_assoc (row_with h) (rows_with gs) (row_with g)))

-- a message in front of zeros
in_zeros : (g : Message) (n : ℕ) → length (bytes g) ≤ n → in_front g (zeros n) ≡ bytes g ++ zeros (n - length (bytes g))
unfolding in_front
in_zeros g n h =
    let b = length (bytes g) in
    let e : n ≡ b + (n - b) = omega arith in
    ap (λ (l : List ℕ). bytes g ++ l) (ap (drop b) (zeros_cut n b (n - b) e) ∙ drop_at (zeros b) (zeros (n - b)) b (length_zeros b))

-- a message put into a row between others
put_between : (g : Message) (front row behind : List ℕ) (a : ℕ) → length front ≡ a → length row ≡ row_length →
    take a (front ++ (row ++ behind)) ++ in_front g (take row_length (drop a (front ++ (row ++ behind)))) ++ drop (a + row_length) (front ++ (row ++ behind)) ≡
    front ++ in_front g row ++ behind
put_between g front row behind a p q =
    rw (
      ← drop-drop row_length a (front ++ (row ++ behind)),
      take_at front (row ++ behind) a p,
      drop_at front (row ++ behind) a p,
      take_at row behind row_length q,
      drop_at row behind row_length q,
    )

-- a message put at the first free row is stored behind the others
pub put_stored : (s : List ℕ) (gs : List Message) (g : Message) (k : ℕ) → s ≡ stored (length s) gs → k ≡ length gs →
    row_start (length gs) + row_length ≤ length s →
    put_row s k g ≡ stored (length s) (gs ++ g ∷ [])
unfolding stored row_with
put_stored s gs g k e q h =
    let free = length s - row_start (length (gs ++ g ∷ [])) in
    let cut : length s - row_start (length gs) ≡ row_length + free = omega (arith, length-append gs (g ∷ [])) in
    let shape : s ≡ rows_with gs ++ (zeros row_length ++ zeros free) = e ∙
    ap (λ (z : List ℕ). rows_with gs ++ z) (zeros_cut (length s - row_start (length gs)) row_length free cut) in
    let front : length (rows_with gs) ≡ row_start k = rw q (length_stored_rows gs) in
    ap (λ (t : List ℕ). put_row t k g) shape
    ∙ put_between g (rows_with gs) (zeros row_length) (zeros free) (row_start k) front (length_zeros row_length)
    ∙ ap (λ (r : List ℕ). rows_with gs ++ r ++ zeros free) (in_zeros g row_length (bytes_short g))
    ∙ ap (λ (r : List ℕ). r ++ zeros free) (sym (rows_snoc gs g))

-- row k is that of message k, whatever comes behind the rows
row_found : (gs : List Message) (behind : List ℕ) (k : ℕ) (d : Message) → k < length gs → row_at (rows_with gs ++ behind) k ≡ row_with (get_or gs k d)
unfolding rows_with
row_found [] behind k d h = absurd (omega arith)
row_found (g ∷ gs) behind zero d h = rw (append_assoc (row_with g) (rows_with gs) behind)
    (take_at (row_with g) (rows_with gs ++ behind) row_length (length_row g))
row_found (g ∷ gs) behind (suc k) d h =
    let e : row_start (suc k) ≡ row_length + row_start k = omega arith in
    rw (
      e,
      ← drop-drop (row_start k) row_length (row_with g ++ rows_with gs ++ behind),
      append_assoc (row_with g) (rows_with gs) behind,
      drop_at (row_with g) (rows_with gs ++ behind) row_length (length_row g),
    )
    (row_found gs behind k d (omega arith))

-- row k of a store is that of message k
pub row_stored : (s : List ℕ) (gs : List Message) (k : ℕ) (d : Message) → s ≡ stored (length s) gs → k < length gs → row_at s k ≡ row_with (get_or gs k d)
unfolding stored
row_stored s gs k d e h = ap (λ (t : List ℕ). row_at t k) e ∙ row_found gs (zeros (length s - row_start (length gs))) k d h

-- the message of row k is message k
pub fetch_stored : (s : List ℕ) (gs : List Message) (k : ℕ) (d : Message) → s ≡ stored (length s) gs → k < length gs →
    ((g : Message) → g ∈ gs → message_in_range g ≡ true) → ((g : Message) → g ∈ gs → ValueFits g.body) → fetched s k ≡ get_or gs k d
unfolding fetched row_with
fetch_stored s gs k d e h ranged held =
    let g = get_or gs k d in
    let m : g ∈ gs = getD_in gs k d h in
    ap (λ (r : List ℕ). decoded (take (size r) r)) (row_stored s gs k d e h) ∙
    spelt_front g (zeros (row_length - length (bytes g))) (held g m) (ranged g m)
