-- Tables one after another: where each starts and ends, what it is once one of them is written over, and all of them again. Assumes nothing.
use mathlib.Core.Path.{◌≡◌, refl, sym, ap, subst, ◌∙◌}
use mathlib.Core.Bool.{true}
use mathlib.Core.List.{List, ◌++◌}
use mathlib.Core.Logic.{◌≢◌}
use Prim.Native.Nat.{ℕ, zero, suc, ◌+◌, ◌-◌, ◌*◌, ◌<◌, ◌≤◌}
use native.Mathlib.Omega.{arith}
use native.Mathlib.Numerals.{add-one}
use lib.ListN.{length, take, drop, length-append, length-drop, take-append-drop}
use lib.Seq.{length-take-le, take_all, take_at, drop_at, take-append-le, drop-append-le, drop-drop, take-add}
use lib.Dec.{ltb, eqb}
use Rattle.laws.specs.Tests.{tests, by_test}
use Rattle.ids.specs.Ranges.{SLOTS}
use Rattle.tree_theory.specs.Table.{MOST_WORDS, sized_length, sized}
use Rattle.play_tables.specs.Tables.{length_at, start_of, table_at, with_table, all_tables, TablesFit}
use Rattle.play_tables.proofs.Sizes.{start_most}

-- ---- where tables start and end

pub start_next : (ls : List ℕ) (s : ℕ) → start_of ls (s + 1) ≡ start_of ls s + length_at ls s
unfolding start_of
start_next ls s = rw (add-one s) refl

start_up : (ls : List ℕ) (d s : ℕ) → start_of ls s ≤ start_of ls (d + s)
unfolding start_of
start_up ls zero s = let e : 0 + s ≡ s = omega arith in rw e (omega arith)
start_up ls (suc d) s = let e : suc d + s ≡ suc (d + s) = omega arith in rw e (omega (arith, start_up ls d s))

-- a table ends before any later one starts
pub end_within : (ls : List ℕ) (n s : ℕ) → s < n → start_of ls s + length_at ls s ≤ start_of ls n
end_within ls n s h =
    let e : (n - (s + 1)) + (s + 1) ≡ n = omega arith in
    omega (arith, start_next ls s, subst (λ m. start_of ls (s + 1) ≤ start_of ls m) e (start_up ls (n - (s + 1)) (s + 1)))

-- ---- a part written over

-- a part of the front of two lists
part_front : (xs ys : List ℕ) (b n : ℕ) → b + n ≤ length xs → take n (drop b (xs ++ ys)) ≡ take n (drop b xs)
part_front xs ys b n h =
    ap (take n) (drop-append-le b xs ys (omega arith)) ∙ take-append-le n (drop b xs) ys (rw (length-drop b xs) (omega arith))

-- t over the k words from a on
abbrev over : List ℕ → List ℕ → ℕ → ℕ → List ℕ
over ws t a k = take a ws ++ (t ++ drop k (drop a ws))

module _ (ws t : List ℕ) (a k : ℕ) (h : a + k ≤ length ws) (e : length t ≡ k) where
  front_long : length (take a ws) ≡ a
  front_long = length-take-le a ws (omega arith)

  over_long : length (over ws t a k) ≡ length ws
  over_long =
      rw (
        length-append (take a ws) (t ++ drop k (drop a ws)),
        length-append t (drop k (drop a ws)),
        front_long,
        length-drop k (drop a ws),
        length-drop a ws,
      ) (omega (arith, e))

  -- the part itself, one that ends before it, one that starts behind it
  part_same : take k (drop a (over ws t a k)) ≡ t
  part_same = rw (drop_at (take a ws) (t ++ drop k (drop a ws)) a front_long) (take_at t (drop k (drop a ws)) k e)

  part_before : (b n : ℕ) → b + n ≤ a → take n (drop b (over ws t a k)) ≡ take n (drop b ws)
  part_before b n q =
      part_front (take a ws) (t ++ drop k (drop a ws)) b n (rw front_long q) ∙
      sym (ap (λ l. take n (drop b l)) (sym (take-append-drop a ws)) ∙ part_front (take a ws) (drop a ws) b n (rw front_long q))

  part_behind : (b n : ℕ) → a + k ≤ b → take n (drop b (over ws t a k)) ≡ take n (drop b ws)
  part_behind b n q =
      let d = b - (a + k) in
      let eb : a + k + d ≡ b = omega arith in
      let from : (l : List ℕ) → drop b l ≡ drop d (drop k (drop a l)) =
      λ l. sym (ap (drop d) (drop-drop k a l) ∙ drop-drop d (a + k) l ∙ ap (λ m. drop m l) eb) in
      let rest : drop k (drop a (over ws t a k)) ≡ drop k (drop a ws) =
      rw (drop_at (take a ws) (t ++ drop k (drop a ws)) a front_long) (drop_at t (drop k (drop a ws)) k e) in
      ap (take n) (from (over ws t a k) ∙ ap (drop d) rest ∙ sym (from ws))

-- ---- one table of eight

-- the lengths alone say whether the tables fit
pub fit_kept : {ls ws ws' : List ℕ} → TablesFit ls ws → length ws' ≡ length ws → TablesFit ls ws'
fit_kept F e = record { lengths = F.lengths; filled = F.filled ∙ sym e }

-- as many words as table s has, from a on, lie within the slice, and no place in it is large
pub record Within (ls ws : List ℕ) (s a : ℕ) : Type 0 where
  pub ends : a + length_at ls s ≤ length ws
  pub small : length ws ≤ MOST_WORDS * SLOTS

module _ {ls ws : List ℕ} (F : TablesFit ls ws) {s : ℕ} (h : s < SLOTS) where
  pub ends : start_of ls s + length_at ls s ≤ length ws
  ends = omega (arith, end_within ls SLOTS s h, F.filled)

  pub lies_within : {a : ℕ} → a ≡ start_of ls s → Within ls ws s a
  lies_within e = record { ends = omega (arith, ends); small = omega (arith, start_most ls F.lengths SLOTS (omega arith), F.filled) }

  pub table_long : length (table_at ls ws s) ≡ length_at ls s
  table_long = length-take-le (length_at ls s) (drop (start_of ls s) ws) (rw (length-drop (start_of ls s) ws) (omega (arith, ends)))

  pub table_sized : sized (table_at ls ws s) ≡ true
  table_sized = ap sized_length table_long ∙ F.lengths s h

  -- what is lent from where table s starts to where it ends is table s
  pub lent_table : {a : ℕ} → a ≡ start_of ls s → take (a + length_at ls s - a) (drop a ws) ≡ table_at ls ws s
  lent_table {a} e = let n : a + length_at ls s - a ≡ length_at ls s = omega arith in rw (n, e) refl

  -- and what that leaves, t in its place
  pub given_back : {a : ℕ} → a ≡ start_of ls s → (t : List ℕ) → take a ws ++ (t ++ drop (a + length_at ls s - a) (drop a ws)) ≡ with_table ls ws s t
  given_back {a} e t = let n : a + length_at ls s - a ≡ length_at ls s = omega arith in rw (n, e) refl

  module _ (t : List ℕ) (e : length t ≡ length_at ls s) where
    pub with_long : length (with_table ls ws s t) ≡ length ws
    with_long = over_long ws t (start_of ls s) (length_at ls s) ends e

    pub with_fit : TablesFit ls (with_table ls ws s t)
    with_fit = fit_kept F with_long

    -- t is table s now, and every other table is as it was
    pub with_same : table_at ls (with_table ls ws s t) s ≡ t
    with_same = part_same ws t (start_of ls s) (length_at ls s) ends e

    pub with_other : (u : ℕ) → u ≢ s → table_at ls (with_table ls ws s t) u ≡ table_at ls ws u
    with_other u d =
        by_test (ltb u s)
        (λ q. part_before ws t (start_of ls s) (length_at ls s) ends e (start_of ls u) (length_at ls u) (end_within ls s u (omega tests)))
        (λ q. part_behind ws t (start_of ls s) (length_at ls s) ends e (start_of ls u) (length_at ls u) (end_within ls u s (omega tests)))

-- ---- all tables

pub all_same : (f g : ℕ → List ℕ) (k : ℕ) → ((s : ℕ) → s < k → f s ≡ g s) → all_tables f k ≡ all_tables g k
unfolding all_tables
all_same f g zero h = refl
all_same f g (suc k) h = rw (all_same f g k (λ s b. h s (omega arith)), h k (omega arith)) refl

all_front : (ls ws : List ℕ) (k : ℕ) → all_tables (table_at ls ws) k ≡ take (start_of ls k) ws
unfolding all_tables start_of
all_front ls ws zero = refl
all_front ls ws (suc k) = ap (λ l. l ++ table_at ls ws k) (all_front ls ws k) ∙ sym (take-add (start_of ls k) (length_at ls k) ws)

-- the words are their tables
pub words_all : {ls ws : List ℕ} → TablesFit ls ws → ws ≡ all_tables (table_at ls ws) SLOTS
words_all {ls} {ws} F = sym (all_front ls ws SLOTS ∙ take_all (start_of ls SLOTS) ws (omega (arith, F.filled)))

-- tables as long as the lengths say
abbrev pub AsLong : List ℕ → (ℕ → List ℕ) → ℕ → Type 0
AsLong ls f k = (s : ℕ) → s < k → length (f s) ≡ length_at ls s

-- how long they are together, and each of them
module _ (ls : List ℕ) (f : ℕ → List ℕ) where
  pub all_long : (k : ℕ) → AsLong ls f k → length (all_tables f k) ≡ start_of ls k
  unfolding all_tables start_of
  all_long zero h = refl
  all_long (suc k) h = rw (length-append (all_tables f k) (f k), all_long k (λ s b. h s (omega arith)), h k (omega arith)) refl

  table_of_all : (k u : ℕ) → AsLong ls f k → u < k → table_at ls (all_tables f k) u ≡ f u
  unfolding all_tables
  table_of_all zero u h b = absurd (omega arith)
  table_of_all (suc k) u h b =
      let front : length (all_tables f k) ≡ start_of ls k = all_long k (λ s b. h s (omega arith)) in
      by_test (eqb u k)
      (λ q.
      let e : u ≡ k = omega tests in
      rw (e, drop_at (all_tables f k) (f k) (start_of ls k) front) (take_all (length_at ls k) (f k) (omega (arith, h k (omega arith)))))
      (λ q.
      let below : u < k = omega tests in
      part_front (all_tables f k) (f k) (start_of ls u) (length_at ls u) (omega (arith, front, end_within ls k u below)) ∙
      table_of_all k u (λ s b. h s (omega arith)) below)

  pub all_table : AsLong ls f SLOTS → {s : ℕ} → s < SLOTS → table_at ls (all_tables f SLOTS) s ≡ f s
  all_table h {s} b = table_of_all SLOTS s h b
