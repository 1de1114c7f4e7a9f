-- Previews: a plan carried out on a copy of its table, and the row "table" of two tables. Assumes nothing.
use mathlib.Core.Path.{◌≡◌, refl, sym, ◌∙◌}
use mathlib.Core.Bool.{Bool, true, false, cond}
use mathlib.Core.List.{List, ◌++◌, append-nil}
use Prim.Native.Nat.{ℕ, ◌*◌}
use native.Mathlib.Omega.{arith}
use lib.ListN.{length, take, drop, drop_of_length-le}
use lib.Seq.{take_all}
use lib.Dec.{eqb}
use borrow.Author.Tests.{eq-eqb, ne_eqb, eqb-true, not-false}
use Rattle.laws.specs.First.{first, first_front, passed}
use Rattle.numbers.specs.Numbers.{OK}
use Rattle.tree_theory.specs.Machine.{Call, answer, causes}
use Rattle.tree_theory.specs.Table.{rows, nodes, sized, is_tree, call_number, call_table}
use Rattle.tree_theory.specs.Preview.{tables_causes, preview_number, preview_ghosts, preview_table}
use Rattle.tree_theory.proofs.Trees.{sized_words, is_tree_exact}
use Rattle.tree_theory.proofs.Steps.{tree_number}
use Rattle.tree_theory.proofs.Preview.{number_alike, as_on_copy}
use Rattle.tree_steps.specs.declared.call.Plan.{Plan}
use Rattle.tree_steps.specs.Planned.{call_written, PlanMakes}
use Rattle.tree.specs.Promises.{CountedOnTable, Previewed}
use Rattle.tree.specs.Carried.{CanWrite, CanShow}
use Rattle.tree.proofs.Calling.{can_write, carried, of_tree}

-- all rows of a table, copied into one of its length, are the table
all_copied : (ws us : List ℕ) → sized ws ≡ true → length us ≡ length ws → take (4 * rows ws) ws ++ drop (4 * rows ws) us ≡ ws
all_copied ws us h l =
    let e : 4 * rows ws ≡ length ws = sized_words ws h in
    rw (e, take_all (length ws) ws (omega arith), drop_of_length-le us {i = length ws} (omega arith)) (append-nil ws)

-- a refused preview leaves both tables and counts none
refused : {valued : Bool} {ws us : List ℕ} {c : Call} {number : ℕ} → number ≡ preview_number valued ws us c → eqb number OK ≡ false →
    Previewed valued ws us c number 0 ws us
unfolding preview_ghosts preview_table
refused n t = record { number_is = n; ghosts_are = rw (← n, t) refl; first_is = refl; second_is = rw (← n, t) refl }

-- an accepted preview leaves in a second table of equal length what the call promises of the first
pub as_call : {valued : Bool} {ws us : List ℕ} {c : Call} {number ghosts : ℕ} {ws' us' : List ℕ} → Previewed valued ws us c number ghosts ws' us' →
    length us ≡ length ws → number ≡ OK → CountedOnTable valued ws c number ghosts us'
as_call {valued = valued} {ws = ws} {us = us} {c = c} S l z =
    let A = as_on_copy valued ws us c in
    let n = S.number_is ∙ A.number_is l in
    let t : eqb (call_number valued ws c) OK ≡ true = eq-eqb _ _ (sym n ∙ z) in
    let w : cond (eqb (call_number valued ws c) OK) (call_table valued ws c) us ≡ call_table valued ws c = rw t refl in
    record { called = record { number_is = n; table_is = S.second_is ∙ A.second_is l ∙ w }; ghosts_are = S.ghosts_are ∙ A.ghosts_are l }

module _ {valued : Bool} {ws us : List ℕ} (G : CanShow valued ws us) where
  -- the second table is a copy of the first then
  pub copied : {us' : List ℕ} → us' ≡ take (4 * rows ws) ws ++ drop (4 * rows ws) us → us' ≡ ws
  copied w = w ∙ all_copied ws us G.first.long G.alike

  module _ (c : Call) where
    answered_alike : answer valued (rows ws) (nodes ws) c ≡ preview_number valued ws us c
    answered_alike = sym (tree_number valued ws G.first.long G.first.tree c) ∙ sym (number_alike valued ws us c G.alike)

  module _ {c : Call} where
    pub refused_on_tree : {number : ℕ} → number ≡ answer valued (rows ws) (nodes ws) c → (number ≡ OK → ⊥) → Previewed valued ws us c number 0 ws us
    refused_on_tree n z = refused (n ∙ answered_alike c) (ne_eqb _ _ z)

    -- a plan for the first table, carried out on that second one
    module _ {plan : Plan} (M : PlanMakes valued ws c plan) {us' : List ℕ} (w : us' ≡ ws) where
      pub can_write_copy : CanWrite us' c plan
      can_write_copy = rw w (can_write G.first M)

      -- it comes to the preview
      pub previewed : OK ≡ answer valued (rows ws) (nodes ws) c → {ghosts : ℕ} {us'' : List ℕ} → ghosts ≡ plan.strikes →
          us'' ≡ call_written us' c plan.row plan.status → Previewed valued ws us c OK ghosts ws us''
      unfolding preview_ghosts preview_table
      previewed n {us'' = us''} k w' =
          let S = of_tree G.first (carried G.first M n k (rw w at w')) in
          let n' : OK ≡ preview_number valued ws us c = n ∙ answered_alike c in
          record {
            number_is = n';
            ghosts_are = rw (← n') S.ghosts_are;
            first_is = refl;
            second_is = rw (← n') S.called.table_is;
          }

-- what the row "table" of two tables says
module _ (valued : Bool) (ws us : List ℕ) where
  pub tables_passed : OK ≡ first (tables_causes valued ws us) → CanShow valued ws us
  tables_passed e =
      let (a1, (a2, (a3, _))) = passed (tables_causes valued ws us) refl (sym e) in
      let s : sized ws ≡ true = not-false (sized ws) a1 in
      record {
        first = record { long = s; tree = (is_tree_exact valued ws s).0 (not-false (is_tree valued ws) a3) };
        alike = eqb-true (length us) (length ws) (not-false (eqb (length us) (length ws)) a2);
      }

  pub tables_refuse : (c : Call) {number : ℕ} → number ≡ first (tables_causes valued ws us) → (number ≡ OK → ⊥) → Previewed valued ws us c number 0 ws us
  unfolding preview_number
  tables_refuse c {number = number} f z =
      let n : number ≡ preview_number valued ws us c =
      f ∙ sym (first_front (tables_causes valued ws us) (causes valued (rows ws) (nodes ws) c) (λ q. z (f ∙ q))) in
      refused n (ne_eqb number OK z)
