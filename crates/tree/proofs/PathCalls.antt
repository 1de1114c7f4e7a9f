-- What a call of path comes to: each refusal, and what the recursion to the parent left. Assumes nothing.
use mathlib.Core.Path.{◌≡◌, refl, sym, subst, ◌∙◌}
use mathlib.Core.Bool.{Bool, true, false}
use mathlib.Core.List.{List}
use Prim.Native.Nat.{ℕ, ◌+◌, ◌≤◌}
use native.Mathlib.Omega.{arith}
use lib.ListN.{length}
use lib.Dec.{leb, ltb, eqb}
use borrow.Author.Tests.{ne_eqb}
use Rattle.laws.specs.Tests.{by_test, tests}
use Rattle.laws.specs.First.{first, first_front}
use Rattle.ids.specs.Ranges.{above_range}
use Rattle.std.specs.Prelude.{Option, Some, None}
use Rattle.numbers.specs.Numbers.{OK, ROUND_RANGE, ROUND_ABSENT, PATH_TOO_LONG}
use Rattle.tree_theory.specs.Machine.{present, path}
use Rattle.tree_theory.specs.Table.{MOST_WORDS, rows, used, nodes, sized, Tree, is_tree, table_causes, path_causes, path_number, path_count, path_slice}
use Rattle.tree_theory.proofs.Words.{length_rows, used_rows}
use Rattle.tree_theory.proofs.Paths.{path_length}
use Rattle.tree_theory.proofs.Trees.{sized_bounds, tree_held, is_tree_exact}
use Rattle.tree_steps.specs.Climbed.{PathOf, PathWritten}
use Rattle.tree.proofs.Calling.{table_passed}
use Rattle.tree.specs.Promises.{PathGiven}

short_table : (ws : List ℕ) → sized ws ≡ true → length ws ≤ MOST_WORDS
short_table ws s = (sized_bounds ws s).most

module _ (valued : Bool) (ws : List ℕ) (r : ℕ) (out : List ℕ) where
  -- a refused call gives no count and leaves the slice
  path_refused : (k : ℕ) → path_number valued ws r out ≡ k → (k ≡ OK → ⊥) → PathGiven valued ws r out k 0 out
  unfolding path_count path_slice
  path_refused k e z =
      let t : eqb (path_number valued ws r out) OK ≡ false = ne_eqb _ _ (λ q. z (sym e ∙ q)) in
      record { number_is = sym e; count_is = rw t refl; slice_is = rw t refl }

  pub path_of_table : (k : ℕ) → k ≡ first (table_causes valued ws) → (k ≡ OK → ⊥) → PathGiven valued ws r out k 0 out
  unfolding path_number
  path_of_table k e z = path_refused k (first_front (table_causes valued ws) (path_causes ws r out) (λ q. z (e ∙ q)) ∙ sym e) z

  module _ (e : OK ≡ first (table_causes valued ws)) where
    pub path_above : above_range r ≡ true → PathGiven valued ws r out ROUND_RANGE 0 out
    unfolding path_number
    path_above a = let (s, t) = table_passed valued ws e in path_refused ROUND_RANGE (rw (s, t, a) refl) (λ q. omega arith)

    pub path_absent : above_range r ≡ false → present r (nodes ws) ≡ false → PathGiven valued ws r out ROUND_ABSENT 0 out
    unfolding path_number
    path_absent a p = let (s, t) = table_passed valued ws e in path_refused ROUND_ABSENT (rw (s, t, a, p) refl) (λ q. omega arith)

-- what a call has passed before the recursion to the parent begins
pub record PathPassed (valued : Bool) (ws : List ℕ) (r : ℕ) : Type 0 where
  pub length_is : sized ws ≡ true
  pub tree : is_tree valued ws ≡ true
  pub low : above_range r ≡ false
  pub there : present r (nodes ws) ≡ true

pub path_passed : {valued : Bool} {ws : List ℕ} {r : ℕ} → OK ≡ first (table_causes valued ws) → above_range r ≡ false → present r (nodes ws) ≡ true →
    PathPassed valued ws r
path_passed {valued = valued} {ws = ws} e low there =
    let (s, t) = table_passed valued ws e in
    record { length_is = s; tree = t; low = low; there = there }

module _ {valued : Bool} {ws : List ℕ} {r : ℕ} (P : PathPassed valued ws r) where
  tree_is : Tree valued ws
  tree_is = (is_tree_exact valued ws P.length_is).0 P.tree

  -- what the recursion asks of the first call
  pub path_of : {n : ℕ} → n ≡ used ws → PathOf ws n r 0
  path_of e =
      record {
        valued = valued;
        table = record { long = P.length_is; tree = tree_is };
        rows_are = e;
        there = P.there;
        short =
            omega (
              arith,
              path_length valued (rows ws) (nodes ws) (tree_held valued ws P.length_is tree_is).grown r P.there,
              length_rows ws (used ws),
              used_rows ws,
              short_table ws P.length_is,
            );
      }

  module _ {out : List ℕ} {o : Option ℕ} {out' : List ℕ} (W : PathWritten ws r 0 out o out') where
    pub path_short : o ≡ None → PathGiven valued ws r out PATH_TOO_LONG 0 out'
    unfolding path_number
    path_short z =
        by_test (leb (length (path (nodes ws) r) + 0) (length out))
        (λ y. let some = rw y at W.count_is in absurd (cc))
        (λ y.
        let short : ltb (length out) (length (path (nodes ws) r)) ≡ true = omega tests in
        subst (PathGiven valued ws r out PATH_TOO_LONG 0) (sym (rw y at W.slice_is))
        (path_refused valued ws r out PATH_TOO_LONG (rw (P.length_is, P.tree, P.low, P.there, short) refl) (λ q. omega arith)))

    pub path_done : {k : ℕ} → o ≡ Some k → PathGiven valued ws r out OK k out'
    unfolding path_number path_count path_slice
    path_done {k = k} z =
        by_test (leb (length (path (nodes ws) r) + 0) (length out))
        (λ y.
        let long : ltb (length out) (length (path (nodes ws) r)) ≡ false = omega tests in
        let some = rw y at W.count_is in
        let e : k ≡ length (path (nodes ws) r) = cc in
        record {
          number_is = rw (P.length_is, P.tree, P.low, P.there, long) refl;
          count_is = rw (P.length_is, P.tree, P.low, P.there, long) e;
          slice_is = rw (P.length_is, P.tree, P.low, P.there, long) (rw y at W.slice_is);
        })
        (λ y. let none = rw y at W.count_is in absurd (cc))
