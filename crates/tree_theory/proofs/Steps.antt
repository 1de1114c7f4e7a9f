-- A step keeps a tree, and on a tree the calls on words are the steps on nodes. Assumes nothing.
use mathlib.Core.Path.{◌≡◌, refl, sym, ap, ◌∙◌, subst}
use mathlib.Core.Bool.{Bool, true, false}
use mathlib.Core.List.{List, [], ◌∷◌, ◌++◌}
use Prim.Native.Nat.{ℕ, ◌/◌, ◌<◌}
use lib.ListN.{length}
use lib.Dec.{eqb}
use Rattle.laws.specs.Tests.{by_test}
use Rattle.numbers.specs.Numbers.{OK}
use Rattle.tree_theory.specs.Machine.{Call, Node, fresh, answer, change, step, after}
use Rattle.tree_theory.specs.Table.{sized, rows, table, Tree, nodes, calls_of, call_number, call_table, fresh_table}
use Rattle.tree_theory.proofs.Grown.{Grown}
use Rattle.tree_theory.proofs.History.{all_grown, step_ok, step_refused}
use Rattle.tree_theory.proofs.Regrown.{regrown}
use Rattle.tree_theory.proofs.Words.{length_table}
use Rattle.tree_theory.proofs.Trees.{HoldsGrown, tree_held, held_is_tree, sized_rows, grown_fit}

pub after_append : (valued : Bool) (k : ℕ) (ns : List Node) (cs ds : List Call) → after valued k ns (cs ++ ds) ≡ after valued k (after valued k ns cs) ds
unfolding after
after_append valued k ns [] ds = refl
after_append valued k ns (c ∷ cs) ds = after_append valued k (step valued k ns c) cs ds

-- grown nodes and one call more are left by a list of calls
after_step : (valued : Bool) (k : ℕ) (ns : List Node) (c : Call) → Grown valued k ns → 0 < k →
    after valued k fresh (calls_of ns ++ c ∷ []) ≡ step valued k ns c
unfolding after
after_step valued k ns c G pos =
    after_append valued k fresh (calls_of ns) (c ∷ []) ∙ ap (λ l. step valued k l c) (regrown valued k ns G pos)

-- a step keeps grown nodes
pub step_grown : (valued : Bool) (k : ℕ) (ns : List Node) (c : Call) → Grown valued k ns → 0 < k → Grown valued k (step valued k ns c)
step_grown valued k ns c G pos =
    subst (Grown valued k) (after_step valued k ns c G pos) (all_grown valued k (calls_of ns ++ c ∷ []))

-- a table written from what calls leave is a tree
pub written_tree : (valued : Bool) (ws : List ℕ) (cs : List Call) → sized ws ≡ true → Tree valued (table (length ws) (after valued (rows ws) fresh cs))
written_tree valued ws cs h =
    let e : length (table (length ws) (after valued (rows ws) fresh cs)) ≡ length ws =
    length_table (length ws) (after valued (rows ws) fresh cs) (grown_fit valued ws (after valued (rows ws) fresh cs) h (all_grown valued (rows ws) cs)) in
    record { calls = cs; left = ap (λ l. table l (after valued (l / 4) fresh cs)) e }

pub table_ok : (valued : Bool) (ws : List ℕ) (c : Call) → eqb (call_number valued ws c) OK ≡ true →
    call_table valued ws c ≡ table (length ws) (change (nodes ws) c)
unfolding call_table
table_ok valued ws c t = rw t refl

pub table_refused : (valued : Bool) (ws : List ℕ) (c : Call) → eqb (call_number valued ws c) OK ≡ false → call_table valued ws c ≡ ws
unfolding call_table
table_refused valued ws c t = rw t refl

module _ (valued : Bool) (ws : List ℕ) (h : sized ws ≡ true) (T : Tree valued ws) where
  -- a step keeps a tree
  pub step_tree : (c : Call) → Tree valued (table (length ws) (step valued (rows ws) (nodes ws) c))
  step_tree c =
      let H : HoldsGrown valued ws = tree_held valued ws h T in
      subst (λ ns. Tree valued (table (length ws) ns)) (after_step valued (rows ws) (nodes ws) c H.grown (sized_rows ws h))
      (written_tree valued ws (calls_of (nodes ws) ++ c ∷ []) h)

  -- on a tree a call's number is the machine's
  pub tree_number : (c : Call) → call_number valued ws c ≡ answer valued (rows ws) (nodes ws) c
  unfolding call_number answer
  tree_number c = rw (h, held_is_tree valued ws h (tree_held valued ws h T)) refl

  -- and the table after it holds the machine's nodes
  pub tree_table : (c : Call) → call_table valued ws c ≡ table (length ws) (step valued (rows ws) (nodes ws) c)
  tree_table c =
      by_test (eqb (answer valued (rows ws) (nodes ws) c) 0)
      (λ t. table_ok valued ws c (ap (λ a. eqb a 0) (tree_number c) ∙ t) ∙ ap (table (length ws)) (sym (step_ok valued (rows ws) (nodes ws) c t)))
      (λ t. table_refused valued ws c (ap (λ a. eqb a 0) (tree_number c) ∙ t) ∙ (tree_held valued ws h T).whole ∙
      ap (table (length ws)) (sym (step_refused valued (rows ws) (nodes ws) c t)))

pub fresh_written : (ws : List ℕ) → sized ws ≡ true → fresh_table ws ≡ table (length ws) fresh
unfolding fresh_table
fresh_written ws h = rw h refl

-- a fresh table is a tree
pub fresh_tree : (valued : Bool) (ws : List ℕ) → sized ws ≡ true → Tree valued (fresh_table ws)
unfolding after
fresh_tree valued ws h = subst (Tree valued) (sym (fresh_written ws h)) (written_tree valued ws [] h)
