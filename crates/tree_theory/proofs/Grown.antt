-- What holds of the nodes that calls from fresh leave, and what follows from it by walking down the parents: a round that no edge
-- crosses is an ancestor of every higher one, and an absent round below a present one is crossed. Assumes nothing.
use mathlib.Core.Path.{◌≡◌, refl, sym, ap, ◌∙◌, subst}
use mathlib.Core.Bool.{Bool, true, false}
use mathlib.Core.Logic.{◌≢◌}
use mathlib.Core.List.Memᴰ.{head as here}
use mathlib.Core.List.Memᴰ.{tail as there}
use mathlib.Core.List.{List, [], ◌∷◌, ◌++◌}
use Prim.Native.Nat.{ℕ, zero, suc, ◌<◌, ◌≤◌}
use native.Mathlib.Omega.{arith}
use lib.ListN.{length}
use lib.Dec.{ltb, eqb}
use borrow.Author.Tests.{eqb-true, lt-ltb, ne_eqb}
use Rattle.laws.specs.Tests.{by_test, clash, tests, and_intro}
use Rattle.laws.specs.Lists.{◌∈◌, any_intro, any_none, cut}
use Rattle.ids.specs.Ranges.{above_range}
use Rattle.tree_theory.specs.Machine.{Node, root, FREE, GHOST, COMMITTED, present, find}
use Rattle.tree_theory.specs.Table.{behind_root}
use Rattle.tree_theory.specs.Check.{edge_over, crossed}
use Rattle.tree_theory.proofs.Nodes.{in_present, present_in, present_left, find_left, find_new}

-- a status that a used row can have
abbrev pub Stated : Node → Type 0
Stated n = (FREE < n.status) × (n.status ≤ COMMITTED)

-- a node behind the root, beside the nodes before it
pub record Placed (valued : Bool) (earlier : List Node) (n : Node) : Type 0 where
  -- the round is in range and new
  pub positive : 0 < n.round
  pub bounded : above_range n.round ≡ false
  pub new : present n.round earlier ≡ false
  -- the parent is an earlier round, and lower
  pub parent_there : present n.parent earlier ≡ true
  pub lower : n.parent < n.round
  -- in a value tree, the value is the parent's, unless that is the root
  pub same_value : valued ≡ true → 0 < n.parent → n.value ≡ (find n.parent earlier).value

pub record Grown (valued : Bool) (rows : ℕ) (ns : List Node) : Type 0 where
  -- the first node is the root
  pub rooted : ns ≡ root ∷ behind_root ns
  pub fit : 0 < rows → length ns ≤ rows
  pub placed : (pre post : List Node) (n : Node) → behind_root ns ≡ pre ++ n ∷ post → Placed valued (root ∷ pre) n
  -- a status is 1, 2 or 3
  pub stated : (n : Node) → n ∈ ns → Stated n
  -- GHOST are exactly the nodes that some edge crosses
  pub ghosts : (n : Node) → n ∈ ns → eqb n.status GHOST ≡ crossed n.round ns

-- the edge of a node above an uncrossed round ends at that round or above it
pub parent_above : (c : ℕ) (ns : List Node) → crossed c ns ≡ false → (n : Node) → n ∈ ns → c < n.round → c ≤ n.parent
parent_above c ns u n m l =
    by_test (ltb n.parent c)
    (λ t. clash (and_intro t (lt-ltb c n.round l)) (any_none (edge_over c) ns u n m))
    (λ t. omega tests)

module _ (valued : Bool) (rows : ℕ) (ns : List Node) (G : Grown valued rows ns) where
  -- a node is the root or stands behind it
  pub by_place {κ} : {C : Type κ} {n : Node} → n ∈ ns → (n ≡ root → C) →
      ((pre post : List Node) → ns ≡ (root ∷ pre) ++ n ∷ post → Placed valued (root ∷ pre) n → C) → C
  by_place {C = C} {n} m f g = split (subst (λ l. n ∈ l) G.rooted m)
    where
      split : n ∈ root ∷ behind_root ns → C
      split (here e) = f e
      split (there k) = cut k (λ pre post e. g pre post (G.rooted ∙ ap (λ l. root ∷ l) e) (G.placed pre post n e))

  -- a node with some node before it, beside those
  pub placed_cut : (pre post : List Node) (n : Node) → ns ≡ pre ++ n ∷ post → 0 < length pre → Placed valued pre n
  placed_cut [] post n e h = absurd (omega arith)
  placed_cut (x ∷ pre) post n e h =
      let both : root ∷ behind_root ns ≡ x ∷ (pre ++ n ∷ post) = sym G.rooted ∙ e in
      let z : root ≡ x = cc in
      subst (λ y. Placed valued (y ∷ pre) n) z (G.placed pre post n (ap behind_root e))

  pub root_in : root ∈ ns
  root_in = subst (λ l. root ∈ l) (sym G.rooted) (here refl)

  -- rounds are distinct
  pub found : (n : Node) → n ∈ ns → find n.round ns ≡ n
  found n m =
      by_place m
      (λ e. rw e root_found)
      (λ pre post e P. subst (λ l. find n.round l ≡ n) (sym e) (find_new (root ∷ pre) post n P.new))
    where
      root_found : find 0 ns ≡ root
      root_found = subst (λ l. find 0 l ≡ root) (sym G.rooted) (find_new [] (behind_root ns) root refl)

  pub lower_in : (n : Node) → n ∈ ns → 0 < n.round → n.parent < n.round
  lower_in n m h = by_place m (λ e. absurd (omega (arith, ap (λ x. x.round) e))) (λ pre post e P. P.lower)

  pub parent_in : (n : Node) → n ∈ ns → present n.parent ns ≡ true
  parent_in n m =
      by_place m
      (λ e. rw e (in_present ns root_in))
      (λ pre post e P. subst (λ l. present n.parent l ≡ true) (sym e) (present_left n.parent (root ∷ pre) (n ∷ post) P.parent_there))

  pub value_in : valued ≡ true → (n : Node) → n ∈ ns → 0 < n.parent → n.value ≡ (find n.parent ns).value
  value_in v n m h =
      by_place m
      (λ e. absurd (omega (arith, ap (λ x. x.parent) e)))
      (λ pre post e P. subst (λ l. n.value ≡ (find n.parent l).value) (sym e)
      (rw (find_left n.parent (root ∷ pre) (n ∷ post) P.parent_there) (P.same_value v h)))

  -- an ADDED or COMMITTED round is crossed by no edge
  pub uncrossed_in : (n : Node) → n ∈ ns → n.status ≢ GHOST → crossed n.round ns ≡ false
  uncrossed_in n m h = sym (G.ghosts n m) ∙ ne_eqb n.status GHOST h

  -- an absent round below a present one is crossed
  pub absent_crossed : (c : ℕ) (n : Node) → n ∈ ns → c < n.round → present c ns ≡ false → crossed c ns ≡ true
  absent_crossed c n m l a = walk n.round n m (omega arith) l
    where
      walk : (k : ℕ) (x : Node) → x ∈ ns → x.round ≤ k → c < x.round → crossed c ns ≡ true
      walk zero x i b h = absurd (omega arith)
      walk (suc k) x i b h =
          by_test (ltb x.parent c)
          (λ t. any_intro (edge_over c) ns i (and_intro t (lt-ltb c x.round h)))
          (λ t. present_in x.parent ns (parent_in x i) (λ y j e.
          by_test (eqb x.parent c)
          (λ s. clash (subst (λ z. present z ns ≡ true) (eqb-true x.parent c s) (parent_in x i)) a)
          (λ s. walk k y j (omega (tests, lower_in x i (omega arith))) (omega tests))))

  -- a value goes down from an uncrossed round to every node at or above it
  pub value_above : valued ≡ true → (c : Node) → c ∈ ns → 0 < c.round → crossed c.round ns ≡ false →
      (n : Node) → n ∈ ns → c.round ≤ n.round → n.value ≡ c.value
  value_above v c i pos u n m l = walk n.round n m (omega arith) l
    where
      walk : (k : ℕ) (x : Node) → x ∈ ns → x.round ≤ k → c.round ≤ x.round → x.value ≡ c.value
      walk zero x j b h = absurd (omega arith)
      walk (suc k) x j b h =
          by_test (eqb x.round c.round)
          (λ s. ap (λ y. y.value) (sym (found x j) ∙ ap (λ z. find z ns) (eqb-true x.round c.round s) ∙ found c i))
          (λ s. let low : x.parent < x.round = lower_in x j (omega arith) in
          let up : c.round ≤ x.parent = parent_above c.round ns u x j (omega tests) in
          present_in x.parent ns (parent_in x j) (λ y q e.
          value_in v x j (omega arith) ∙ ap (λ z. z.value) (sym (ap (λ z. find z ns) e) ∙ found y q) ∙ walk k y q (omega arith) (omega arith)))
