-- The two kinds of trees: the calls of each refuse exactly the tables that no calls of that kind leave; a value tree's table is a command tree's
-- too, and not the other way round. Assumes nothing.
use mathlib.Core.Path.{◌≡◌, refl}
use mathlib.Core.Bool.{Bool, true, false}
use mathlib.Core.List.{List, [], ◌∷◌, ◌++◌}
use mathlib.Core.Logic.{◌↔◌}
use Prim.Native.Nat.{ℕ}
use native.Mathlib.Omega.{arith}
use Rattle.laws.specs.Tests.{by_test, clash}
use Rattle.laws.specs.First.{Cause, first, without, not_given}
use Rattle.numbers.specs.Numbers.{NOT_A_TREE}
use Rattle.tree_theory.specs.Machine.{Call, add, commit, Node, ADDED, COMMITTED, find, path_in, causes, struck, new_node}
use Rattle.tree_theory.specs.Table.{sized, rows, nodes, Tree, is_tree, table_causes, path_causes, call_number, path_number}
use Rattle.tree_theory.proofs.Grown.{Grown, Placed}
use Rattle.tree_theory.proofs.Trees.{HoldsGrown, tree_held, tree_of, held_is_tree, is_tree_exact}

module _ (valued : Bool) (ws : List ℕ) (h : sized ws ≡ true) where
  -- of a call with these further causes, none of which has the number 2
  two_exactly : (cs : List Cause) → without NOT_A_TREE cs ≡ true → (first (table_causes valued ws ++ cs) ≡ NOT_A_TREE) ↔ (Tree valued ws → ⊥)
  two_exactly cs w = (
    λ e T. not_given NOT_A_TREE cs w (λ z. omega (arith, z)) (rw (h, (is_tree_exact valued ws h).1 T) at e),
    λ no. by_test (is_tree valued ws) (λ t. absurd (no ((is_tree_exact valued ws h).0 t))) (λ t. rw (h, t) refl),
  )

  -- add and commit give 2 exactly if no calls of that kind leave the table
  pub call_refuses_exactly : (c : Call) → (call_number valued ws c ≡ NOT_A_TREE) ↔ (Tree valued ws → ⊥)
  unfolding call_number
  call_refuses_exactly (add r v p) = two_exactly (causes valued (rows ws) (nodes ws) (add r v p)) refl
  call_refuses_exactly (commit r) = two_exactly (causes valued (rows ws) (nodes ws) (commit r)) refl

  -- and so does path
  pub path_refuses_exactly : (r : ℕ) (out : List ℕ) → (path_number valued ws r out ≡ NOT_A_TREE) ↔ (Tree valued ws → ⊥)
  unfolding path_number
  path_refuses_exactly r out = two_exactly (path_causes ws r out) refl

-- what fits where values are compared fits where they aren't
placed_uncompared : {earlier : List Node} {n : Node} → Placed true earlier n → Placed false earlier n
placed_uncompared P = record {
  positive = P.positive;
  bounded = P.bounded;
  new = P.new;
  parent_there = P.parent_there;
  lower = P.lower;
  same_value = λ compared. clash compared refl;
}

grown_uncompared : {rows : ℕ} {ns : List Node} → Grown true rows ns → Grown false rows ns
grown_uncompared G = record {
  rooted = G.rooted;
  fit = G.fit;
  placed = λ pre post n e. placed_uncompared (G.placed pre post n e);
  stated = G.stated;
  ghosts = G.ghosts;
}

pub value_tree_is_command_tree : (ws : List ℕ) → sized ws ≡ true → Tree true ws → Tree false ws
value_tree_is_command_tree ws h T =
    let H : HoldsGrown true ws = tree_held true ws h T in
    tree_of false ws (held_is_tree false ws h (record { grown = grown_uncompared H.grown; whole = H.whole }))

-- P5's calls leave this table of commands: round 2 has another value than its parent
abbrev pub command_words : List ℕ
command_words = 0 ∷ 0 ∷ 0 ∷ COMMITTED ∷ 1 ∷ 0 ∷ 5 ∷ ADDED ∷ 2 ∷ 1 ∷ 6 ∷ ADDED ∷ []

pub command_tree_alone : Tree false command_words × (Tree true command_words → ⊥)
unfolding is_tree find path_in struck new_node
command_tree_alone = (
  record { calls = add 1 5 0 ∷ add 2 6 1 ∷ []; left = refl },
  λ T. clash ((is_tree_exact true command_words refl).1 T) refl,
)
