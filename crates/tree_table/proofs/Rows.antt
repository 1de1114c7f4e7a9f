-- Laws on the first rows of a table: what one row more adds, and what a pass that changes statuses leaves. Assumes nothing.
use mathlib.Core.Path.{◌≡◌, refl, sym, ap, ◌∙◌}
use mathlib.Core.Bool.{Bool, true, false, ◌||◌}
use mathlib.Core.List.{List, [], ◌∷◌, ◌++◌, map, append_assoc, append-nil}
use Prim.Native.Nat.{ℕ, zero, suc, ◌+◌, ◌-◌, ◌*◌, ◌≤◌, ◌<◌}
use native.Mathlib.Omega.{arith}
use native.Mathlib.Numerals.{add-one}
use native.Mathlib.Nat.{add-zero}
use lib.ListN.{length, get_or, set, drop, length-map}
use lib.Seq.{drop-cons, get_or-append-add, append_snoc, get_or-drop}
use lib.Dec.{ltb}
use borrow.Author.Tests.{eq-eqb, ne_eqb, lt-ltb, ltb-true}
use Rattle.laws.specs.Tests.{by_test, clash, same_test}
use Rattle.laws.specs.Lists.{any, any_append, any_snoc, how_many, how_many_append, map_append}
use Rattle.tree_theory.specs.Machine.{Node, root, FREE, has_round, present, find, with_status}
use Rattle.tree_theory.specs.Table.{row, rows_of, used_from, words}
use Rattle.tree_theory.proofs.Words.{length_words, words_append, length_rows, get_d_rows}
use Rattle.std.specs.Prelude.{Option, Some, None}
use Rattle.std.specs.Option.{is_some}
use Rattle.tree_table.specs.Rows.{row_index, row_place}

-- the d rows from row i on
unfoldable pub rows_from : List ℕ → ℕ → ℕ → List Node
rows_from ws i zero = []
rows_from ws i (suc d) = row ws i ∷ rows_from ws (suc i) d

pub rows_more : (ws : List ℕ) (d i : ℕ) → rows_of ws (i + d) ≡ rows_of ws i ++ rows_from ws i d
unfolding rows_from rows_of
rows_more ws zero i = let e : i + 0 ≡ i = omega arith in rw e (sym (append-nil (rows_of ws i)))
rows_more ws (suc d) i =
    let e : i + suc d ≡ suc i + d = omega arith in
    rw (e, rows_more ws d (suc i)) (append_snoc (rows_of ws i) (row ws i) (rows_from ws (suc i) d))

-- the rows before row i, row i, and those behind it
pub rows_split : (ws : List ℕ) (i n : ℕ) → i < n → rows_of ws n ≡ rows_of ws i ++ row ws i ∷ rows_from ws (suc i) (n - suc i)
unfolding rows_from
rows_split ws i n h =
    let e : i + suc (n - suc i) ≡ n = omega arith in
    rw e at (rows_more ws (suc (n - suc i)) i)

-- one row more
pub any_more : (P : Node → Bool) (ws : List ℕ) (i : ℕ) → any P (rows_of ws (i + 1)) ≡ (any P (rows_of ws i) || P (row ws i))
unfolding rows_of
any_more P ws i = rw add-one (any_snoc P (rows_of ws i) (row ws i))

pub how_many_more : (P : Node → Bool) (ws : List ℕ) (i : ℕ) → how_many P (rows_of ws (i + 1)) ≡ how_many P (rows_of ws i) + how_many P (row ws i ∷ [])
unfolding rows_of
how_many_more P ws i = rw add-one (how_many_append P (rows_of ws i) (row ws i ∷ []))

-- A pass that looks for a row: it has come to row i and passed none.
pub record Scanned (P : Node → Bool) (ws : List ℕ) (i : ℕ) : Type 0 where
  pub none : any P (rows_of ws i) ≡ false

pub scan_start : {P : Node → Bool} {ws : List ℕ} → Scanned P ws 0
unfolding rows_of
scan_start = record { none = refl }

module _ {P : Node → Bool} {ws : List ℕ} {i : ℕ} (S : Scanned P ws i) where
  pub scan_more : P (row ws i) ≡ false → Scanned P ws (i + 1)
  scan_more e = record { none = rw (any_more P ws i, S.none, e) refl }

  pub scan_hit : (n : ℕ) → i < n → P (row ws i) ≡ true → any P (rows_of ws n) ≡ true
  scan_hit n h e =
      rw (rows_split ws i n h, any_append P (rows_of ws i) (row ws i ∷ rows_from ws (suc i) (n - suc i)), S.none, e) refl

-- ---- the place of a round

index_hit : (r : ℕ) (ns ms : List Node) (m : Node) → any (has_round r) ns ≡ false → has_round r m ≡ true → row_index r (ns ++ m ∷ ms) ≡ length ns
unfolding row_index
index_hit r [] ms m a e = rw e refl
index_hit r (n ∷ ns) ms m a e =
    by_test (has_round r n) (λ t. clash (rw t refl) a) (λ t. rw t (ap suc (index_hit r ns ms m (rw t at a) e)))

-- it is a place exactly if the round is present
index_present : (r : ℕ) (ns : List Node) → ltb (row_index r ns) (length ns) ≡ present r ns
unfolding row_index
index_present r [] = refl
index_present r (n ∷ ns) =
    by_test (has_round r n)
    (λ t. rw t (lt-ltb 0 (suc (length ns)) (omega arith)))
    (λ t.
    let z : ltb (suc (row_index r ns)) (suc (length ns)) ≡ ltb (row_index r ns) (length ns) = same_test _ _
    (λ y. lt-ltb (row_index r ns) (length ns) (omega (arith, ltb-true (suc (row_index r ns)) (suc (length ns)) y)))
    (λ y. lt-ltb (suc (row_index r ns)) (suc (length ns)) (omega (arith, ltb-true (row_index r ns) (length ns) y))) in
    rw (t, z) (index_present r ns))

find_at : (r : ℕ) (ns : List Node) → present r ns ≡ true → find r ns ≡ get_or ns (row_index r ns) root
unfolding row_index find
find_at r [] h = clash h refl
find_at r (n ∷ ns) h = by_test (has_round r n) (λ t. rw t refl) (λ t. rw t (find_at r ns (rw t at h)))

pub index_left : (r : ℕ) (ns ms : List Node) → present r ns ≡ true → row_index r (ns ++ ms) ≡ row_index r ns
unfolding row_index
index_left r [] ms h = clash h refl
index_left r (n ∷ ns) ms h = by_test (has_round r n) (λ t. rw t refl) (λ t. rw t (ap suc (index_left r ns ms (rw t at h))))

-- what the place k that a search for r among the first n rows gave says
module _ (ws : List ℕ) (n r : ℕ) {k : ℕ} (e : k ≡ row_index r (rows_of ws n)) where
  pub index_there : ltb k n ≡ present r (rows_of ws n)
  index_there = ap (λ j. ltb j n) e ∙ ap (ltb (row_index r (rows_of ws n))) (sym (length_rows ws n)) ∙ index_present r (rows_of ws n)

  found_there : k < n → present r (rows_of ws n) ≡ true
  found_there h = sym index_there ∙ lt-ltb k n h

  pub found_at : k < n → find r (rows_of ws n) ≡ row ws k
  found_at h = rw e (find_at r (rows_of ws n) (found_there h) ∙ get_d_rows ws n (row_index r (rows_of ws n)) (rw e at h))

-- ---- the same as an answer that may be none

pub is_some_place : (r : ℕ) (ns : List Node) → is_some (row_place r ns) ≡ present r ns
is_some_place r ns = by_test (present r ns) (λ t. rw t refl) (λ t. rw t refl)

-- it is a place: the round is there, and where; it is none: the round is nowhere
pub place_some : (r : ℕ) (ns : List Node) {k : ℕ} → Some k ≡ row_place r ns → (present r ns ≡ true) × (k ≡ row_index r ns)
place_some r ns e =
    by_test (present r ns)
    (λ t. let s = rw t at e in (t, cc))
    (λ t. let s = rw t at e in absurd (cc))

pub place_none : (r : ℕ) (ns : List Node) → None ≡ row_place r ns → present r ns ≡ false
place_none r ns e = sym (is_some_place r ns) ∙ ap is_some (sym e)

pub place_found : (r : ℕ) (ns : List Node) {k : ℕ} → present r ns ≡ true → row_index r ns ≡ k → Some k ≡ row_place r ns
place_found r ns h e = rw (h, e) refl

pub place_missing : (r : ℕ) (ns : List Node) → present r ns ≡ false → None ≡ row_place r ns
place_missing r ns h = rw h refl

-- what a row k that a search for r among the first n rows found is
module _ (ws : List ℕ) (n r : ℕ) {k : ℕ} (e : Some k ≡ row_place r (rows_of ws n)) where
  pub place_there : present r (rows_of ws n) ≡ true
  place_there = (place_some r (rows_of ws n) e).0

  pub place_index : k ≡ row_index r (rows_of ws n)
  place_index = (place_some r (rows_of ws n) e).1

  pub place_within : k < n
  place_within = ltb-true k n (index_there ws n r place_index ∙ place_there)

  pub place_row : find r (rows_of ws n) ≡ row ws k
  place_row = found_at ws n r place_index place_within

-- a search that stops at the first row that has round r
pub place_at : {r : ℕ} {ws : List ℕ} {i : ℕ} → Scanned (has_round r) ws i → (n : ℕ) → i < n → (row ws i).round ≡ r → Some i ≡ row_place r (rows_of ws n)
place_at {r = r} {ws = ws} {i = i} S n h e =
    let hit : has_round r (row ws i) ≡ true = eq-eqb (row ws i).round r e in
    let first : row_index r (rows_of ws n) ≡ i =
    rw (rows_split ws i n h) (index_hit r (rows_of ws i) (rows_from ws (suc i) (n - suc i)) (row ws i) S.none hit ∙ length_rows ws i) in
    place_found r (rows_of ws n) (scan_hit S n h hit) first

-- with one row more it stays, or is that row's, or no row's
module _ (ws : List ℕ) (n r : ℕ) {k : Option ℕ} (e : k ≡ row_place r (rows_of ws n)) where
  there_by : {b : Bool} → is_some k ≡ b → present r (rows_of ws n) ≡ b
  there_by h = sym (is_some_place r (rows_of ws n)) ∙ ap is_some (sym e) ∙ h

  pub place_kept : is_some k ≡ true → k ≡ row_place r (rows_of ws (n + 1))
  unfolding rows_of
  place_kept h =
      let there = there_by h in
      let still : present r (rows_of ws (n + 1)) ≡ true = any_more (has_round r) ws n ∙ rw there refl in
      e ∙ rw there (place_found r (rows_of ws (n + 1)) still (rw add-one (index_left r (rows_of ws n) (row ws n ∷ []) there)))

  pub place_last : is_some k ≡ false → (row ws n).round ≡ r → Some n ≡ row_place r (rows_of ws (n + 1))
  unfolding rows_of
  place_last h q =
      let hit : has_round r (row ws n) ≡ true = eq-eqb (row ws n).round r q in
      place_found r (rows_of ws (n + 1)) (any_more (has_round r) ws n ∙ rw (there_by h, hit) refl)
      (rw add-one (index_hit r (rows_of ws n) [] (row ws n) (there_by h) hit ∙ length_rows ws n))

  pub place_past : is_some k ≡ false → ((row ws n).round ≡ r → ⊥) → None ≡ row_place r (rows_of ws (n + 1))
  place_past h q = place_missing r (rows_of ws (n + 1)) (any_more (has_round r) ws n ∙ rw (there_by h, ne_eqb (row ws n).round r q) refl)

-- counting used rows
pub used_stop : (ws : List ℕ) (k i : ℕ) → (row ws i).status ≡ FREE → used_from ws k i ≡ i
unfolding used_from
used_stop ws zero i e = refl
used_stop ws (suc k) i e = rw (eq-eqb (row ws i).status FREE e, used_from) refl

pub used_go : (ws : List ℕ) (k i : ℕ) → i < k → ((row ws i).status ≡ FREE → ⊥) → used_from ws (k - i) i ≡ used_from ws (k - (i + 1)) (i + 1)
unfolding used_from
used_go ws k i h e =
    let d : k - i ≡ suc (k - (i + 1)) = omega arith in
    rw (d, ne_eqb (row ws i).status FREE e, used_from, add-one) refl

pub used_end : (ws : List ℕ) (k i : ℕ) → k ≤ i → used_from ws (k - i) i ≡ i
unfolding used_from
used_end ws k i h = let e : k - i ≡ 0 = omega arith in rw e refl

-- row i at the front of what is left from it on
pub row_ahead : (ws : List ℕ) (i : ℕ) → 4 * i + 4 ≤ length ws → drop (4 * i) ws ≡ words (row ws i ∷ []) ++ drop (4 * suc i) ws
unfolding words
row_ahead ws i h =
    let e : 4 * suc i ≡ suc (4 * i + 3) = omega arith in
    let a : 4 * i + 1 ≡ suc (4 * i) = omega arith in
    let b : 4 * i + 2 ≡ suc (4 * i + 1) = omega arith in
    let c : 4 * i + 3 ≡ suc (4 * i + 2) = omega arith in
    let w0 : drop (4 * i) ws ≡ get_or ws (4 * i) 0 ∷ drop (suc (4 * i)) ws = drop-cons ws (4 * i) 0 (omega arith) in
    let w1 : drop (4 * i + 1) ws ≡ get_or ws (4 * i + 1) 0 ∷ drop (suc (4 * i + 1)) ws = drop-cons ws (4 * i + 1) 0 (omega arith) in
    let w2 : drop (4 * i + 2) ws ≡ get_or ws (4 * i + 2) 0 ∷ drop (suc (4 * i + 2)) ws = drop-cons ws (4 * i + 2) 0 (omega arith) in
    let w3 : drop (4 * i + 3) ws ≡ get_or ws (4 * i + 3) 0 ∷ drop (suc (4 * i + 3)) ws = drop-cons ws (4 * i + 3) 0 (omega arith) in
    rw (w0, ← a, w1, ← b, w2, ← c, w3, e) refl

set_fourth : (xs : List ℕ) (a b c d s : ℕ) (ds : List ℕ) → set (xs ++ a ∷ b ∷ c ∷ d ∷ ds) (length xs + 3) s ≡ xs ++ a ∷ b ∷ c ∷ s ∷ ds
set_fourth [] a b c d s ds = refl
set_fourth (x ∷ xs) a b c d s ds =
    let e : suc (length xs) + 3 ≡ suc (length xs + 3) = omega arith in
    rw (e, set_fourth xs a b c d s ds) refl

-- A pass: `PassedRows f t₀ i t` says that f was applied to the first i rows of t₀, and that the rest is as it was.
pub record PassedRows (f : Node → Node) (t₀ : List ℕ) (i : ℕ) (t : List ℕ) : Type 0 where
  pub is : t ≡ words (map f (rows_of t₀ i)) ++ drop (4 * i) t₀

module _ (f : Node → Node) (t₀ : List ℕ) where
  pub pass_none : PassedRows f t₀ 0 t₀
  unfolding rows_of words
  pass_none = record { is = refl }

  length_front : (i : ℕ) → length (words (map f (rows_of t₀ i))) ≡ 4 * i
  length_front i = rw (length_words (map f (rows_of t₀ i)), length-map (rows_of t₀ i) f, length_rows t₀ i) refl

  -- the next row is still the old one
  pub pass_row : (i : ℕ) (t : List ℕ) → PassedRows f t₀ i t → row t i ≡ row t₀ i
  pass_row i t P =
      rw P.is
      (λ j. record {
        round = (rw (add-zero (4 * i)) at (at 0)) j;
        parent = at 1 j;
        value = at 2 j;
        status = at 3 j;
      })
    where
      at : (k : ℕ) → get_or (words (map f (rows_of t₀ i)) ++ drop (4 * i) t₀) (4 * i + k) 0 ≡ get_or t₀ (4 * i + k) 0
      at k =
          let e : 4 * i ≡ length (words (map f (rows_of t₀ i))) = sym (length_front i) in
          ap (λ n. get_or (words (map f (rows_of t₀ i)) ++ drop (4 * i) t₀) (n + k) 0) e ∙
          get_or-append-add (words (map f (rows_of t₀ i))) (drop (4 * i) t₀) k 0 ∙
          get_or-drop (4 * i) t₀ k 0

  -- one row more: what t becomes when f of the next row stands in its place
  pub pass_more : (i : ℕ) (t : List ℕ) → t ≡ words (map f (rows_of t₀ i)) ++ (words (f (row t₀ i) ∷ []) ++ drop (4 * suc i) t₀) → PassedRows f t₀ (i + 1) t
  unfolding rows_of
  pass_more i t e =
      record {
        is =
            rw (add-one, e, map_append f (rows_of t₀ i) (row t₀ i ∷ []), words_append (map f (rows_of t₀ i)) (f (row t₀ i) ∷ []), append_assoc)
            refl;
      }

  -- the row stays
  pub pass_keep : (i : ℕ) (t : List ℕ) → PassedRows f t₀ i t → 4 * i + 4 ≤ length t₀ → f (row t₀ i) ≡ row t₀ i → PassedRows f t₀ (i + 1) t
  pass_keep i t P h k = pass_more i t (P.is ∙ rw (row_ahead t₀ i h, k) refl)

  -- its status is set
  pub pass_set : (i : ℕ) (t : List ℕ) (s : ℕ) → PassedRows f t₀ i t → 4 * i + 4 ≤ length t₀ → f (row t₀ i) ≡ with_status (row t₀ i) s →
      PassedRows f t₀ (i + 1) (set t (4 * i + 3) s)
  unfolding words
  pass_set i t s P h k =
      let n = row t₀ i in
      let front = words (map f (rows_of t₀ i)) in
      pass_more i (set t (4 * i + 3) s)
      (ap (λ l. set l (4 * i + 3) s) (P.is ∙ ap (λ l. front ++ l) (row_ahead t₀ i h)) ∙
      rw k (rw (length_front i) at (set_fourth front n.round n.parent n.value n.status s (drop (4 * suc i) t₀))))

  -- rows that f leaves as they are
  pub pass_on : (t : List ℕ) (d i : ℕ) → PassedRows f t₀ i t → 4 * (i + d) ≤ length t₀ → ((j : ℕ) → i ≤ j → j < i + d → f (row t₀ j) ≡ row t₀ j) →
      PassedRows f t₀ (i + d) t
  pass_on t zero i P h k = rw (add-zero i) P
  pass_on t (suc d) i P h k =
      let e : i + suc d ≡ i + 1 + d = omega arith in
      rw e (pass_on t d (i + 1) (pass_keep i t P (omega arith) (k i (omega arith) (omega arith))) (omega arith) (λ j a b. k j (omega arith) (omega arith)))

  pub pass_end : (i n : ℕ) (t : List ℕ) → i ≤ n → n ≤ i → PassedRows f t₀ i t → t ≡ words (map f (rows_of t₀ n)) ++ drop (4 * n) t₀
  pass_end i n t a b P = let e : i ≡ n = omega arith in rw e at P.is
