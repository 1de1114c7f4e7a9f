-- Rows and words: what is written for nodes reads back as these nodes, and the rows of a table are its words. Assumes nothing.
use mathlib.Core.Path.{◌≡◌, refl, sym, ap, ◌∙◌}
use mathlib.Core.Bool.{true, false}
use mathlib.Core.List.Memᴰ
use mathlib.Core.List.{List, [], ◌∷◌, ◌++◌, append_assoc}
use mathlib.Core.Logic.{◌≢◌}
use Prim.Native.Nat.{ℕ, zero, suc, ◌+◌, ◌-◌, ◌*◌, ◌<◌, ◌≤◌}
use native.Mathlib.Omega.{arith}
use lib.ListN.{length, get_or, take, drop, replicate, length-append, length-replicate, get_or-append}
use lib.Seq.{take-suc, take-length, take_all, take-append-le, take-append_seam, drop-cons, get_or-append-add, get_or-append_seam, get_or_at}
use lib.Dec.{eqb}
use borrow.Author.Tests.{ne_eqb, eq-eqb, eqb-true}
use Rattle.laws.specs.Tests.{by_test, tests}
use Rattle.laws.specs.Lists.{◌∈◌, by_last, in_last}
use Rattle.laws.specs.Elements.{getD_in}
use Rattle.tree_theory.specs.Machine.{Node, FREE, root}
use Rattle.tree_theory.specs.Table.{words, table, row, rows, rows_of, used, used_from, nodes}

pub length_words : (ns : List Node) → length (words ns) ≡ 4 * length ns
unfolding words
length_words [] = refl
length_words (n ∷ ns) = omega (arith, length_words ns)

pub words_append : (ns ms : List Node) → words (ns ++ ms) ≡ words ns ++ words ms
unfolding words
words_append [] ms = refl
words_append (n ∷ ns) ms = ap (λ l. n.round ∷ n.parent ∷ n.value ∷ n.status ∷ l) (words_append ns ms)

pub length_table : (len : ℕ) (ns : List Node) → 4 * length ns ≤ len → length (table len ns) ≡ len
unfolding table
length_table len ns h =
    length-append (words ns) (replicate (len - 4 * length ns) 0) ∙
    omega (arith, length_words ns, length-replicate {A = ℕ} (len - 4 * length ns) 0)

-- ---- one row

row_tail : (a b c d : ℕ) (ws : List ℕ) (i : ℕ) → row (a ∷ b ∷ c ∷ d ∷ ws) (suc i) ≡ row ws i
row_tail a b c d ws i =
    let e₀ : 4 * suc i ≡ suc (suc (suc (suc (4 * i)))) = omega arith in
    let e₁ : 4 * suc i + 1 ≡ suc (suc (suc (suc (4 * i + 1)))) = omega arith in
    let e₂ : 4 * suc i + 2 ≡ suc (suc (suc (suc (4 * i + 2)))) = omega arith in
    let e₃ : 4 * suc i + 3 ≡ suc (suc (suc (suc (4 * i + 3)))) = omega arith in
    rw (e₁, e₂, e₃, e₀) refl

-- row i of written nodes is node i
pub row_words : (ns : List Node) (zs : List ℕ) (i : ℕ) → i < length ns → row (words ns ++ zs) i ≡ get_or ns i root
unfolding words
row_words [] zs i h = absurd (omega arith)
row_words (n ∷ ns) zs zero h = refl
row_words (n ∷ ns) zs (suc i) h =
    row_tail n.round n.parent n.value n.status (words ns ++ zs) i ∙ row_words ns zs i (omega arith)

pub status_word : (ns : List Node) (zs : List ℕ) (i : ℕ) → i < length ns → get_or (words ns ++ zs) (4 * i + 3) 0 ≡ (get_or ns i root).status
status_word ns zs i h = ap (λ n. n.status) (row_words ns zs i h)

-- ---- the first n rows

pub rows_suc : (ws : List ℕ) (i : ℕ) → rows_of ws (suc i) ≡ rows_of ws i ++ row ws i ∷ []
unfolding rows_of
rows_suc ws i = refl

pub length_rows : (ws : List ℕ) (n : ℕ) → length (rows_of ws n) ≡ n
unfolding rows_of
length_rows ws zero = refl
length_rows ws (suc n) = length-append (rows_of ws n) (row ws n ∷ []) ∙ omega (arith, length_rows ws n)

pub get_d_rows : (ws : List ℕ) (n i : ℕ) → i < n → get_or (rows_of ws n) i root ≡ row ws i
get_d_rows ws zero i h = absurd (omega arith)
get_d_rows ws (suc n) i h =
    rw (rows_suc ws n)
    (by_test (eqb i n)
    (λ t. rw (eqb-true i n t) (get_or_at (rows_of ws n) (row ws n) [] root n (length_rows ws n)))
    (λ t. get_or-append (rows_of ws n) (row ws n ∷ []) root i (omega (tests, length_rows ws n)) ∙ get_d_rows ws n i (omega tests)))

pub take_rows : (ws : List ℕ) (n i : ℕ) → i ≤ n → take i (rows_of ws n) ≡ rows_of ws i
take_rows ws zero i h = let e : i ≡ 0 = omega arith in rw e (take_all 0 (rows_of ws 0) (omega (arith, length_rows ws 0)))
take_rows ws (suc n) i h =
    by_test (eqb i (suc n))
    (λ t. rw (eqb-true i (suc n) t) (take_all (suc n) (rows_of ws (suc n)) (omega (arith, length_rows ws (suc n)))))
    (λ t. rw (rows_suc ws n) (take-append-le i (rows_of ws n) (row ws n ∷ []) (omega (tests, length_rows ws n)) ∙ take_rows ws n i (omega tests)))

pub row_in : (ws : List ℕ) (n i : ℕ) → i < n → row ws i ∈ rows_of ws n
row_in ws zero i h = absurd (omega arith)
row_in ws (suc n) i h =
    rw (rows_suc ws n)
    (by_test (eqb i n)
    (λ t. rw (eqb-true i n t) (in_last (rows_of ws n) (row ws n)))
    (λ t. Memᴰ.append_left (row ws n ∷ []) (row_in ws n i (omega tests))))

-- a member is some row
pub in_row {κ} : {C : Type κ} (ws : List ℕ) (n : ℕ) {x : Node} → x ∈ rows_of ws n → ((i : ℕ) → i < n → x ≡ row ws i → C) → C
unfolding rows_of
in_row ws zero m f = elim m [ ]
in_row ws (suc n) m f = by_last (rows_of ws n) m (λ k. in_row ws n k (λ i h e. f i (omega arith) e)) (λ e. f n (omega arith) e)

-- a cut of the rows falls at the row of its length
pub rows_cut {κ} : {C : Type κ} (ws : List ℕ) (n : ℕ) (pre post : List Node) (x : Node) → rows_of ws n ≡ pre ++ x ∷ post →
    ((i : ℕ) → i < n → pre ≡ rows_of ws i → x ≡ row ws i → C) → C
rows_cut ws n pre post x e f =
    let w : length (rows_of ws n) ≡ length pre + length (x ∷ post) = ap length e ∙ length-append pre (x ∷ post) in
    let l : length pre < n = omega (arith, length_rows ws n) in
    f (length pre) l
    (sym (take-append_seam pre (x ∷ post)) ∙ ap (take (length pre)) (sym e) ∙ take_rows ws n (length pre) (omega arith))
    (sym (get_or-append_seam pre x post root) ∙ ap (λ l. get_or l (length pre) root) (sym e) ∙ get_d_rows ws n (length pre) l)

-- ---- written and read

pub rows_words : (ns : List Node) (zs : List ℕ) → rows_of (words ns ++ zs) (length ns) ≡ ns
unfolding rows_of
rows_words ns zs = first (length ns) (omega arith) ∙ take-length ns
  where
    first : (k : ℕ) → k ≤ length ns → rows_of (words ns ++ zs) k ≡ take k ns
    first zero h = refl
    first (suc k) h = rw (rows_suc (words ns ++ zs) k, row_words ns zs k (omega arith), first k (omega arith)) (sym (take-suc ns k root (omega arith)))

pub words_rows : (ws : List ℕ) (n : ℕ) → 4 * n ≤ length ws → words (rows_of ws n) ++ drop (4 * n) ws ≡ ws
unfolding rows_of words
words_rows ws zero h = refl
words_rows ws (suc n) h =
    rw (words_append (rows_of ws n) (row ws n ∷ []), append_assoc)
    (ap (λ l. words (rows_of ws n) ++ l) four ∙ words_rows ws n (omega arith))
  where
    link : (j k : ℕ) → j < length ws → suc j ≡ k → drop j ws ≡ get_or ws j 0 ∷ drop k ws
    link j k l e = drop-cons ws j 0 l ∙ ap (λ x. get_or ws j 0 ∷ drop x ws) e

    four : (row ws n).round ∷ (row ws n).parent ∷ (row ws n).value ∷ (row ws n).status ∷ drop (4 * suc n) ws ≡ drop (4 * n) ws
    four = sym (link (4 * n) (4 * n + 1) (omega arith) (omega arith) ∙ ap (λ l. get_or ws (4 * n) 0 ∷ l)
        (link (4 * n + 1) (4 * n + 2) (omega arith) (omega arith) ∙ ap (λ l. get_or ws (4 * n + 1) 0 ∷ l)
        (link (4 * n + 2) (4 * n + 3) (omega arith) (omega arith) ∙ ap (λ l. get_or ws (4 * n + 2) 0 ∷ l)
        (link (4 * n + 3) (4 * suc n) (omega arith) (omega arith)))))

-- ---- used rows

-- how far the used rows go, from row i on with k rows to go: to the first of status 0, if there is one
used_stop : (ws : List ℕ) (k i : ℕ) → eqb (row ws i).status FREE ≡ true → used_from ws (suc k) i ≡ i
unfolding used_from
used_stop ws k i t = rw (t, used_from) refl

used_go : (ws : List ℕ) (k i : ℕ) → eqb (row ws i).status FREE ≡ false → used_from ws (suc k) i ≡ used_from ws k (suc i)
unfolding used_from
used_go ws k i t = rw (t, used_from) refl

used_zero : (ws : List ℕ) (i : ℕ) → used_from ws zero i ≡ i
unfolding used_from
used_zero ws i = refl

used_is : (ws : List ℕ) (m k i : ℕ) → i ≤ m → m ≤ i + k → ((j : ℕ) → j < m → (row ws j).status ≢ FREE) → (m < i + k → (row ws m).status ≡ FREE) →
    used_from ws k i ≡ m
used_is ws m zero i a b f g = used_zero ws i ∙ omega arith
used_is ws m (suc k) i a b f g =
    by_test (eqb i m)
    (λ t. let e : i ≡ m = eqb-true i m t in
    used_stop ws k i (eq-eqb (row ws i).status FREE (rw e (g (omega arith)))) ∙ e)
    (λ t. used_go ws k i (ne_eqb (row ws i).status FREE (f i (omega tests))) ∙
    used_is ws m k (suc i) (omega tests) (omega arith) f (λ l. g (omega arith)))

used_bound : (ws : List ℕ) (k i : ℕ) → used_from ws k i ≤ i + k
used_bound ws zero i = rw (used_zero ws i) (omega arith)
used_bound ws (suc k) i =
    by_test (eqb (row ws i).status FREE)
    (λ t. rw (used_stop ws k i t) (omega arith))
    (λ t. rw (used_go ws k i t) (omega (arith, used_bound ws k (suc i))))

pub used_rows : (ws : List ℕ) → used ws ≤ rows ws
used_rows ws = omega (arith, used_bound ws (rows ws) 0)

-- words behind the nodes are 0
pub free_word : (len : ℕ) (ns : List Node) (i : ℕ) → 4 * length ns ≤ i → get_or (table len ns) i 0 ≡ 0
unfolding table
free_word len ns i h =
    let e : i ≡ length (words ns) + (i - 4 * length ns) = omega (arith, length_words ns) in
    rw (e, get_or-append-add (words ns) (replicate (len - 4 * length ns) 0) (i - 4 * length ns) 0) (zero_at (len - 4 * length ns) (i - 4 * length ns))
  where
    zero_at : (n j : ℕ) → get_or {A = ℕ} (replicate n 0) j 0 ≡ 0
    zero_at zero j = refl
    zero_at (suc n) zero = refl
    zero_at (suc n) (suc j) = zero_at n j

-- the nodes of a table of nodes with no status 0
module _ (len : ℕ) (ns : List Node) (fit : 4 * length ns ≤ len) (stated : (n : Node) → n ∈ ns → n.status ≢ FREE) where
  pub used_table : used (table len ns) ≡ length ns
  unfolding table
  used_table =
      used_is (table len ns) (length ns) (rows (table len ns)) 0 (omega arith) (omega (arith, length_table len ns fit))
      (λ j l. rw (status_word ns (replicate (len - 4 * length ns) 0) j l) (stated (get_or ns j root) (getD_in ns j root l)))
      (λ l. free_word len ns (4 * length ns + 3) (omega arith))

  pub nodes_table : nodes (table len ns) ≡ ns
  unfolding table
  nodes_table = rw used_table (rows_words ns (replicate (len - 4 * length ns) 0))
