-- Which tables are trees: those that hold grown nodes and zeros behind them. Both the replay of the calls read off the rows and the
-- local tests decide it. Assumes nothing.
use mathlib.Core.Path.{◌≡◌, refl, sym, ap, ◌∙◌, subst}
use mathlib.Core.Bool.{Bool, true, ◌&&◌}
use mathlib.Core.List.{List, [], ◌∷◌}
use mathlib.Core.Logic.{◌↔◌, ◌≢◌}
use Prim.Native.Nat.{ℕ, ◌*◌, ◌%◌, ◌<◌, ◌≤◌}
use native.Mathlib.Omega.{arith}
use lib.ListN.{length}
use lib.Dec.{leb, eqb}
use borrow.Author.Tests.{eqb-true, eq-eqb, leb-true}
use Rattle.laws.specs.Tests.{clash, and_left, and_right, and_intro}
use Rattle.laws.specs.Lists.{◌∈◌}
use Rattle.tree_theory.specs.Machine.{Node, FREE, fresh, after}
use Rattle.tree_theory.specs.Table.{MOST_WORDS, sized, rows, table, Tree, nodes, calls_of, same_words, is_tree}
use Rattle.tree_theory.proofs.Grown.{Grown}
use Rattle.tree_theory.proofs.History.{all_grown}
use Rattle.tree_theory.proofs.Regrown.{regrown}
use Rattle.tree_theory.proofs.Words.{nodes_table}

-- a table that holds grown nodes and zeros behind them
pub record HoldsGrown (valued : Bool) (ws : List ℕ) : Type 0 where
  pub grown : Grown valued (rows ws) (nodes ws)
  pub whole : ws ≡ table (length ws) (nodes ws)

-- what `sized` says of a length
pub record SizedBounds (ws : List ℕ) : Type 0 where
  pub whole_rows : length ws % 4 ≡ 0
  pub least : 4 ≤ length ws
  pub most : length ws ≤ MOST_WORDS

pub sized_bounds : (ws : List ℕ) → sized ws ≡ true → SizedBounds ws
sized_bounds ws h =
    let whole : Bool = eqb (length ws % 4) 0 in
    let low : Bool = leb 4 (length ws) in
    let high : Bool = leb (length ws) MOST_WORDS in
    let within : (low && high) ≡ true = and_right whole (low && high) h in
    record {
      whole_rows = eqb-true (length ws % 4) 0 (and_left whole (low && high) h);
      least = leb-true 4 (length ws) (and_left low high within);
      most = leb-true (length ws) MOST_WORDS (and_right low high within);
    }

pub sized_rows : (ws : List ℕ) → sized ws ≡ true → 0 < rows ws
sized_rows ws h = omega (arith, (sized_bounds ws h).least)

-- four words a row are all words
pub sized_words : (ws : List ℕ) → sized ws ≡ true → 4 * rows ws ≡ length ws
sized_words ws h = omega (arith, (sized_bounds ws h).whole_rows)

-- ---- a tree holds grown nodes

pub grown_stated : (valued : Bool) (k : ℕ) (ns : List Node) → Grown valued k ns → (n : Node) → n ∈ ns → n.status ≢ FREE
grown_stated valued k ns G n m = omega (arith, G.stated n m)

pub grown_fit : (valued : Bool) (ws : List ℕ) (ns : List Node) → sized ws ≡ true → Grown valued (rows ws) ns → 4 * length ns ≤ length ws
grown_fit valued ws ns h G = omega (arith, G.fit (sized_rows ws h))

-- a table written from grown nodes holds them
pub held_of : (valued : Bool) (ws : List ℕ) (ns : List Node) → sized ws ≡ true → Grown valued (rows ws) ns → table (length ws) ns ≡ ws → HoldsGrown valued ws
held_of valued ws ns h G e =
    let z : nodes ws ≡ ns = rw e at (nodes_table (length ws) ns (grown_fit valued ws ns h G) (grown_stated valued (rows ws) ns G)) in
    record {
      grown = subst (Grown valued (rows ws)) (sym z) G;
      whole = sym e ∙ ap (table (length ws)) (sym z);
    }

pub tree_held : (valued : Bool) (ws : List ℕ) → sized ws ≡ true → Tree valued ws → HoldsGrown valued ws
tree_held valued ws h T =
    held_of valued ws (after valued (rows ws) fresh T.calls) h (all_grown valued (rows ws) T.calls) T.left

-- ---- the replay decides

same_of : (xs ys : List ℕ) → same_words xs ys ≡ true → xs ≡ ys
unfolding same_words
same_of [] [] h = refl
same_of [] (y ∷ ys) h = clash h refl
same_of (x ∷ xs) [] h = clash h refl
same_of (x ∷ xs) (y ∷ ys) h =
    let a : x ≡ y = eqb-true x y (and_left (eqb x y) (same_words xs ys) h) in
    let b : xs ≡ ys = same_of xs ys (and_right (eqb x y) (same_words xs ys) h) in
    cc

same_self : (xs : List ℕ) → same_words xs xs ≡ true
unfolding same_words
same_self [] = refl
same_self (x ∷ xs) = and_intro (eq-eqb x x refl) (same_self xs)

is_tree_says : (valued : Bool) (ws : List ℕ) → is_tree valued ws ≡ same_words (table (length ws) (after valued (rows ws) fresh (calls_of (nodes ws)))) ws
unfolding is_tree
is_tree_says valued ws = refl

pub tree_of : (valued : Bool) (ws : List ℕ) → is_tree valued ws ≡ true → Tree valued ws
tree_of valued ws h = record {
  calls = calls_of (nodes ws);
  left = same_of (table (length ws) (after valued (rows ws) fresh (calls_of (nodes ws)))) ws (sym (is_tree_says valued ws) ∙ h);
}

pub held_is_tree : (valued : Bool) (ws : List ℕ) → sized ws ≡ true → HoldsGrown valued ws → is_tree valued ws ≡ true
held_is_tree valued ws h H =
    is_tree_says valued ws ∙
    rw (regrown valued (rows ws) (nodes ws) H.grown (sized_rows ws h), ← H.whole) (same_self ws)

-- the replay accepts only trees, and every tree
pub is_tree_exact : (valued : Bool) (ws : List ℕ) → sized ws ≡ true → (is_tree valued ws ≡ true) ↔ Tree valued ws
is_tree_exact valued ws h = (tree_of valued ws, λ T. held_is_tree valued ws h (tree_held valued ws h T))
