-- Calls on a tree: refused, or done; calls on any words: refused by 1 or 2, or those of a tree. Assumes nothing.
use mathlib.Core.Path.{◌≡◌, refl, sym, ap, subst, ◌∙◌}
use mathlib.Core.Bool.{Bool, true, false}
use mathlib.Core.List.{List}
use Prim.Native.Nat.{ℕ, ◌≤◌}
use lib.ListN.{length}
use native.Mathlib.Omega.{arith}
use lib.Dec.{eqb}
use borrow.Author.Tests.{eq-eqb, ne_eqb, not-false}
use Rattle.laws.specs.First.{first, first_front, passed}
use Rattle.numbers.specs.Numbers.{OK}
use Rattle.tree_theory.specs.Machine.{Call, answer, causes}
use Rattle.tree_theory.specs.Table.{rows, nodes, sized, table, Tree, TreeTable, is_tree, table_causes, call_number}
use Rattle.tree_theory.proofs.History.{step_ok, step_refused}
use Rattle.tree_theory.proofs.Trees.{sized_bounds, tree_held, is_tree_exact}
use Rattle.tree_theory.proofs.Steps.{step_tree, tree_number, tree_table, table_refused}
use Rattle.tree_theory.proofs.Ghosts.{none_refused, table_none, tree_few, tree_ghosts}
use Rattle.tree_steps.specs.declared.call.Plan.{Plan}
use Rattle.tree_steps.specs.Planned.{call_written, PlanMakes}
use Rattle.tree.specs.Promises.{stepped_table, CountedOnTable, CountedOnTree}
use Rattle.tree.specs.Carried.{CanWrite}

module _ {valued : Bool} {ws : List ℕ} (W : TreeTable valued ws) {c : Call} where
  -- a refused call leaves the table, and makes none GHOST
  pub refused : {number : ℕ} → number ≡ answer valued (rows ws) (nodes ws) c → (number ≡ OK → ⊥) → CountedOnTree valued ws c number 0 ws
  refused n z =
      let t : eqb (answer valued (rows ws) (nodes ws) c) OK ≡ false = ne_eqb _ _ (λ q. z (n ∙ q)) in
      let w : ws ≡ stepped_table valued ws c =
      (tree_held valued ws W.long W.tree).whole ∙ ap (table (length ws)) (sym (step_refused valued (rows ws) (nodes ws) c t)) in
      record {
        called = record { number_is = n; table_is = w; tree = W.tree };
        ghosts_are = sym (none_refused valued (rows ws) (nodes ws) c t);
      }

  module _ {plan : Plan} (M : PlanMakes valued ws c plan) where
    -- a plan can be written into its own table, and no more are struck than a table has rows
    pub can_write : CanWrite ws c plan
    can_write = record { fits = M.fits; strikes_is = M.strikes_is; few = omega (arith, M.ghosts_are, tree_few valued ws W.long W.tree c) }

    -- carried out there, it comes to the machine's step
    pub carried : OK ≡ answer valued (rows ws) (nodes ws) c → {ghosts : ℕ} {ws' : List ℕ} → ghosts ≡ plan.strikes →
        ws' ≡ call_written ws c plan.row plan.status → CountedOnTree valued ws c OK ghosts ws'
    carried n {ws' = ws'} k w =
        let w' : ws' ≡ stepped_table valued ws c =
        w ∙ M.makes ∙ ap (table (length ws)) (sym (step_ok valued (rows ws) (nodes ws) c (eq-eqb _ _ (sym n)))) in
        record {
          called = record { number_is = n; table_is = w'; tree = subst (Tree valued) (sym w') (step_tree valued ws W.long W.tree c) };
          ghosts_are = k ∙ M.ghosts_are;
        }

-- what the row "table" has passed, where its number is 0
module _ (valued : Bool) (ws : List ℕ) where
  pub table_passed : OK ≡ first (table_causes valued ws) → (sized ws ≡ true) × (is_tree valued ws ≡ true)
  table_passed e =
      let (a1, (a2, _)) = passed (table_causes valued ws) refl (sym e) in
      (not-false (sized ws) a1, not-false (is_tree valued ws) a2)

  pub tree_there : OK ≡ first (table_causes valued ws) → TreeTable valued ws
  tree_there e = let (s, t) = table_passed e in record { long = s; tree = (is_tree_exact valued ws s).0 t }

  pub table_refuses : (c : Call) {number : ℕ} → number ≡ first (table_causes valued ws) → (number ≡ OK → ⊥) → CountedOnTable valued ws c number 0 ws
  unfolding call_number
  table_refuses c {number = number} e z =
      let n : number ≡ call_number valued ws c =
      e ∙ sym (first_front (table_causes valued ws) (causes valued (rows ws) (nodes ws) c) (λ q. z (e ∙ q))) in
      let t : eqb (call_number valued ws c) OK ≡ false = ne_eqb _ _ (λ q. z (n ∙ q)) in
      record {
        called = record { number_is = n; table_is = sym (table_refused valued ws c t) };
        ghosts_are = sym (table_none valued ws c t);
      }

pub of_tree : {valued : Bool} {ws : List ℕ} {c : Call} {number ghosts : ℕ} {ws' : List ℕ} → TreeTable valued ws →
    CountedOnTree valued ws c number ghosts ws' → CountedOnTable valued ws c number ghosts ws'
of_tree {valued = valued} {ws = ws} {c = c} W S =
    let S' = S.called in
    record {
      called = record {
        number_is = S'.number_is ∙ sym (tree_number valued ws W.long W.tree c);
        table_is = S'.table_is ∙ sym (tree_table valued ws W.long W.tree c);
      };
      ghosts_are = S.ghosts_are ∙ sym (tree_ghosts valued ws W.long W.tree c);
    }

pub four : (ws : List ℕ) → sized ws ≡ true → 4 ≤ length ws
four ws s = (sized_bounds ws s).least
