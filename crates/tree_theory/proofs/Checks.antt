-- The local tests decide which tables are trees: they say that the table holds grown nodes and zeros behind them.
-- Assumes nothing.
use mathlib.Core.Path.{◌≡◌, refl, sym, ap, ◌∙◌, subst}
use mathlib.Core.Bool.{Bool, true, false, ◌&&◌}
use mathlib.Core.List.{List, [], ◌∷◌, ◌++◌}
use Prim.Native.Nat.{ℕ, suc, ◌*◌, ◌<◌, ◌≤◌}
use native.Mathlib.Omega.{arith}
use lib.ListN.{length, get_or, drop}
use lib.Seq.{split_at}
use lib.Dec.{leb, eqb}
use borrow.Author.Tests.{eqb-true, leb-true, le-leb, le-ltb}
use Rattle.laws.specs.Tests.{by_test, tests, and_left, and_right, and_intro, same_test}
use Rattle.laws.specs.Lists.{◌∈◌, none_any}
use Rattle.tree_theory.specs.Machine.{Node, root, GHOST}
use Rattle.tree_theory.specs.Table.{sized, rows, table, row, rows_of, used, nodes, behind_root, is_tree}
use Rattle.tree_theory.specs.Check.{edge_over, crossed, is_root, row_fits, fits_to, free_zero, checks}
use Rattle.tree_theory.proofs.Grown.{Grown, Placed, Stated, placed_cut}
use Rattle.tree_theory.proofs.Words.{length_rows, get_d_rows, take_rows, row_in, in_row, rows_cut, words_rows, used_rows, free_word}
use Rattle.tree_theory.proofs.Fits.{Fit, fit_of, of_fit, root_of, first_row, later_row, fits_at, fits_all, zeros_all, zeros_drop}
use Rattle.tree_theory.proofs.Trees.{HoldsGrown, tree_held, tree_of, held_is_tree}

checks_says : (valued : Bool) (ws : List ℕ) → checks valued ws ≡ (leb 1 (used ws) && (fits_to valued ws (used ws) (used ws) && free_zero ws))
unfolding checks
checks_says valued ws = refl

by_head : (l : List Node) → 0 < length l → l ≡ get_or l 0 root ∷ behind_root l
by_head [] h = absurd (omega arith)
by_head (n ∷ l) h = refl

-- no edge crosses the root
root_uncrossed : (ns : List Node) → crossed 0 ns ≡ false
root_uncrossed ns = none_any (edge_over 0) ns (λ n m. rw (le-ltb n.parent 0 (omega arith)) refl)

-- ---- from the tests to grown nodes

module _ (valued : Bool) (ws : List ℕ) (n : ℕ) (some : 0 < n) (bound : n ≤ rows ws) (f : fits_to valued ws n n ≡ true) where
  first_is_root : row ws 0 ≡ root
  first_is_root = root_of (row ws 0) (sym (first_row valued ws n) ∙ fits_at valued ws n n 0 f some)

  later_fit : (i : ℕ) → 0 < i → i < n → Fit valued (rows_of ws i) (rows_of ws n) (row ws i)
  later_fit i p l = fit_of valued (rows_of ws i) (rows_of ws n) (row ws i) (sym (later_row valued ws n i p) ∙ fits_at valued ws n n i f l)

  rows_rooted : rows_of ws n ≡ root ∷ behind_root (rows_of ws n)
  rows_rooted =
      by_head (rows_of ws n) (omega (arith, length_rows ws n)) ∙
      ap (λ x. x ∷ behind_root (rows_of ws n)) (get_d_rows ws n 0 some ∙ first_is_root)

  rows_placed : (pre post : List Node) (x : Node) → behind_root (rows_of ws n) ≡ pre ++ x ∷ post → Placed valued (root ∷ pre) x
  rows_placed pre post x e =
      rows_cut ws n (root ∷ pre) post x (rows_rooted ∙ ap (λ l. root ∷ l) e) (λ i l a b.
      let w : length (root ∷ pre) ≡ length (rows_of ws i) = ap length a in
      rw (a, b) (later_fit i (omega (arith, length_rows ws i)) l).placed)

  rows_stated : (x : Node) → x ∈ rows_of ws n → Stated x
  rows_stated x m = in_row ws n m (λ i l e.
      by_test (eqb i 0)
      (λ t. let z : x ≡ root = e ∙ rw (eqb-true i 0 t) first_is_root in rw z (omega arith))
      (λ t. subst Stated (sym e) (later_fit i (omega tests) l).stated))

  rows_ghosts : (x : Node) → x ∈ rows_of ws n → eqb x.status GHOST ≡ crossed x.round (rows_of ws n)
  rows_ghosts x m = in_row ws n m (λ i l e.
      by_test (eqb i 0)
      (λ t. let z : x ≡ root = e ∙ rw (eqb-true i 0 t) first_is_root in rw z (sym (root_uncrossed (rows_of ws n))))
      (λ t. subst (λ y. eqb y.status GHOST ≡ crossed y.round (rows_of ws n)) (sym e) (later_fit i (omega tests) l).ghost))

  rows_grown : Grown valued (rows ws) (rows_of ws n)
  rows_grown = record {
    rooted = rows_rooted;
    fit = λ p. omega (arith, length_rows ws n);
    placed = rows_placed;
    stated = rows_stated;
    ghosts = rows_ghosts;
  }

checks_held : (valued : Bool) (ws : List ℕ) → checks valued ws ≡ true → HoldsGrown valued ws
unfolding table
checks_held valued ws h =
    let tail : Bool = fits_to valued ws (used ws) (used ws) && free_zero ws in
    let q : (leb 1 (used ws) && tail) ≡ true = sym (checks_says valued ws) ∙ h in
    let a : 0 < used ws = leb-true 1 (used ws) (and_left (leb 1 (used ws)) tail q) in
    let b : tail ≡ true = and_right (leb 1 (used ws)) tail q in
    let f : fits_to valued ws (used ws) (used ws) ≡ true = and_left (fits_to valued ws (used ws) (used ws)) (free_zero ws) b in
    let z : free_zero ws ≡ true = and_right (fits_to valued ws (used ws) (used ws)) (free_zero ws) b in
    record {
      grown = rows_grown valued ws (used ws) a (used_rows ws) f;
      whole = sym (rw (length_rows ws (used ws), ← zeros_drop ws (4 * used ws) z) (words_rows ws (used ws) (omega (arith, used_rows ws))));
    }

-- ---- and back

module _ (valued : Bool) (ws : List ℕ) (n : ℕ) (G : Grown valued (rows ws) (rows_of ws n)) where
  rows_some : 0 < n
  rows_some = let e : length (rows_of ws n) ≡ suc (length (behind_root (rows_of ws n))) = ap length G.rooted in omega (arith, length_rows ws n)

  row_is_root : row ws 0 ≡ root
  row_is_root = sym (get_d_rows ws n 0 rows_some) ∙ ap (λ l. get_or l 0 root) G.rooted

  row_placed : (i : ℕ) → 0 < i → i < n → Placed valued (rows_of ws i) (row ws i)
  row_placed i p l =
      placed_cut valued (rows ws) (rows_of ws n) G (rows_of ws i) (drop (suc i) (rows_of ws n)) (row ws i)
      (split_at (rows_of ws n) i root (omega (arith, length_rows ws n)) ∙
      rw (take_rows ws n i (omega arith), get_d_rows ws n i l) refl)
      (omega (arith, length_rows ws i))

  row_all : (i : ℕ) → i < n → row_fits valued ws n i ≡ true
  row_all i l =
      by_test (eqb i 0)
      (λ t. rw (eqb-true i 0 t) (first_row valued ws n ∙ ap is_root row_is_root))
      (λ t. later_row valued ws n i (omega tests) ∙ of_fit valued (rows_of ws i) (rows_of ws n) (row ws i)
      (record {
        placed = row_placed i (omega tests) l;
        stated = G.stated (row ws i) (row_in ws n i l);
        ghost = G.ghosts (row ws i) (row_in ws n i l);
      }))

held_checks : (valued : Bool) (ws : List ℕ) → HoldsGrown valued ws → checks valued ws ≡ true
held_checks valued ws H =
    checks_says valued ws ∙
    and_intro (le-leb 1 (used ws) (rows_some valued ws (used ws) H.grown))
    (and_intro (fits_all valued ws (used ws) (used ws) (row_all valued ws (used ws) H.grown))
    (zeros_all ws (4 * used ws) (length ws) (λ i l.
    ap (λ x. get_or x i 0) H.whole ∙ free_word (length ws) (nodes ws) i (omega (arith, length_rows ws (used ws))))))

-- the local tests decide which tables are trees
pub checks_exact : (valued : Bool) (ws : List ℕ) → sized ws ≡ true → checks valued ws ≡ is_tree valued ws
checks_exact valued ws h =
    same_test (checks valued ws) (is_tree valued ws)
    (λ c. held_is_tree valued ws h (checks_held valued ws c))
    (λ t. held_checks valued ws (tree_held valued ws h (tree_of valued ws t)))
