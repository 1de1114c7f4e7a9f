-- Agreement in a tree: the COMMITTED nodes lie on one path and, where values are compared, have one value, for no edge crosses a
-- COMMITTED round. Assumes nothing.
use mathlib.Core.Path.{◌≡◌, refl, sym, ap, subst}
use mathlib.Core.Bool.{Bool, true}
use mathlib.Core.List.Memᴰ.{head as here}
use mathlib.Core.List.Memᴰ.{tail as there}
use mathlib.Core.List.{List, [], ◌∷◌}
use Prim.Native.Nat.{ℕ, ◌<◌, ◌≤◌}
use native.Mathlib.Omega.{arith}
use lib.Dec.{leb, eqb}
use borrow.Author.Tests.{eqb-true}
use Rattle.laws.specs.Tests.{by_test, tests}
use Rattle.laws.specs.Lists.{◌∈◌, any_elim}
use Rattle.tree_theory.specs.Machine.{Call, Node, COMMITTED, root, path, ancestor, fresh, after}
use Rattle.tree_theory.specs.Properties.{OnePath}
use Rattle.tree_theory.specs.Table.{sized, rows, nodes, behind_root, Tree}
use Rattle.tree_theory.proofs.Nodes.{in_present}
use Rattle.tree_theory.proofs.Grown.{Grown, uncrossed_in, value_above}
use Rattle.tree_theory.proofs.Paths.{on_path}
use Rattle.tree_theory.proofs.History.{all_grown}
use Rattle.tree_theory.proofs.Trees.{tree_held}

module _ (valued : Bool) (rows : ℕ) (ns : List Node) (G : Grown valued rows ns) where
  -- a COMMITTED node stands on the path of every node at or above it
  pub committed_on_path : (c n : Node) → c ∈ ns → n ∈ ns → c.status ≡ COMMITTED → c.round ≤ n.round → ancestor ns n.round c.round ≡ true
  committed_on_path c n i j s l =
      on_path valued rows ns G c.round (uncrossed_in valued rows ns G c i (omega arith)) n.round (in_present ns j) l

  -- every node at or above a COMMITTED one beside the root has its value, whatever its status
  pub committed_value : valued ≡ true → (c n : Node) → c ∈ ns → n ∈ ns → c.status ≡ COMMITTED → 0 < c.round → c.round ≤ n.round → n.value ≡ c.value
  committed_value v c n i j s pos l =
      value_above valued rows ns G v c i pos (uncrossed_in valued rows ns G c i (omega arith)) n j l

-- a node whose round is no lower than any other's
record Highest (ns : List Node) : Type 0 where
  node : Node
  there : node ∈ ns
  most : (n : Node) → n ∈ ns → n.round ≤ node.round

higher : (first : Node) {ns : List Node} → Highest ns → Highest (first ∷ ns)
higher first {ns} H =
    by_test (leb first.round H.node.round)
    (λ t. record { node = H.node; there = there H.there; most = below H.node.round (omega tests) (omega arith) })
    (λ t. record { node = first; there = here refl; most = below first.round (omega arith) (omega tests) })
  where
    below : (r : ℕ) → first.round ≤ r → H.node.round ≤ r → (n : Node) → n ∈ first ∷ ns → n.round ≤ r
    below r a b n (here e) = omega (arith, ap (λ x. x.round) e)
    below r a b n (there i) = omega (arith, H.most n i)

highest : (first : Node) (ns : List Node) → Highest (first ∷ ns)
highest first [] = record { node = first; there = here refl; most = alone }
  where
    alone : (n : Node) → n ∈ first ∷ [] → n.round ≤ first.round
    alone n (here e) = omega (arith, ap (λ x. x.round) e)
    alone n (there i) = elim i [ ]
highest first (next ∷ ns) = higher first (highest next ns)

-- the path of the highest round has every COMMITTED node
grown_one_path : (valued : Bool) (rows : ℕ) (ns : List Node) → Grown valued rows ns → OnePath ns
grown_one_path valued rows ns G =
    let H : Highest ns = subst Highest (sym G.rooted) (highest root (behind_root ns)) in
    record {
      top = H.node.round;
      there = in_present ns H.there;
      each = λ n i s.
          any_elim (eqb n.round) (path ns H.node.round)
          (committed_on_path valued rows ns G n H.node i H.there s (H.most n i))
          (λ r m e. subst (λ x. x ∈ path ns H.node.round) (sym (eqb-true n.round r e)) m);
    }

-- the COMMITTED nodes that a list of calls leaves lie on one path
pub one_path : (valued : Bool) (rows : ℕ) (cs : List Call) → OnePath (after valued rows fresh cs)
one_path valued rows cs = grown_one_path valued rows (after valued rows fresh cs) (all_grown valued rows cs)

-- and so do those of a table that is a tree
pub tree_one_path : (valued : Bool) (ws : List ℕ) → sized ws ≡ true → Tree valued ws → OnePath (nodes ws)
tree_one_path valued ws h T = grown_one_path valued (rows ws) (nodes ws) (tree_held valued ws h T).grown

-- where values are compared, two COMMITTED nodes beside the root have the same value
pub agreement : (rows : ℕ) (cs : List Call) (a b : Node) → a ∈ after true rows fresh cs → b ∈ after true rows fresh cs →
    a.status ≡ COMMITTED → b.status ≡ COMMITTED → 0 < a.round → 0 < b.round → a.value ≡ b.value
agreement rows cs a b i j s t pa pb =
    by_test (leb a.round b.round)
    (λ l. sym (committed_value true rows (after true rows fresh cs) (all_grown true rows cs) refl a b i j s pa (omega tests)))
    (λ l. committed_value true rows (after true rows fresh cs) (all_grown true rows cs) refl b a j i t pb (omega tests))
