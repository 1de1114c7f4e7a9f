-- Nodes looked up by round: a present round is found, it is found in the first part of a list that has it, and where each node keeps its round it is
-- found changed. Assumes nothing.
use mathlib.Core.Path.{◌≡◌, refl, ap, ◌∙◌}
use mathlib.Core.Bool.{true, false}
use mathlib.Core.List.Memᴰ.{head as here}
use mathlib.Core.List.Memᴰ.{tail as there}
use mathlib.Core.List.{List, [], ◌∷◌, ◌++◌, map}
use Prim.Native.Nat.{ℕ}
use lib.Dec.{eqb}
use borrow.Author.Tests.{eq-eqb, eqb-true}
use Rattle.laws.specs.Tests.{by_test, clash}
use Rattle.laws.specs.Lists.{◌∈◌, any_append, any_intro, any_elim}
use Rattle.tree_theory.specs.Machine.{Node, root, has_round, present, find}

pub find_in : (c : ℕ) (ns : List Node) → present c ns ≡ true → find c ns ∈ ns
unfolding find
find_in c [] h = clash h refl
find_in c (n ∷ ns) h =
    by_test (has_round c n)
    (λ t. rw t (here refl))
    (λ t. rw t (there (find_in c ns (rw t at h))))

pub find_round : (c : ℕ) (ns : List Node) → present c ns ≡ true → (find c ns).round ≡ c
unfolding find
find_round c [] h = clash h refl
find_round c (n ∷ ns) h =
    by_test (has_round c n)
    (λ t. rw t (eqb-true n.round c t))
    (λ t. rw t (find_round c ns (rw t at h)))

pub in_present : (ns : List Node) {n : Node} → n ∈ ns → present n.round ns ≡ true
in_present ns {n} m = any_intro (has_round n.round) ns m (eq-eqb n.round n.round refl)

-- a present round is some member's
pub present_in {κ} : {C : Type κ} (c : ℕ) (ns : List Node) → present c ns ≡ true → ((n : Node) → n ∈ ns → n.round ≡ c → C) → C
present_in c ns h f = any_elim (has_round c) ns h (λ n m e. f n m (eqb-true n.round c e))

pub present_left : (c : ℕ) (l k : List Node) → present c l ≡ true → present c (l ++ k) ≡ true
present_left c l k h = rw (any_append (has_round c) l k, h) refl

pub find_left : (c : ℕ) (l k : List Node) → present c l ≡ true → find c (l ++ k) ≡ find c l
unfolding find
find_left c [] k h = clash h refl
find_left c (n ∷ l) k h =
    by_test (has_round c n)
    (λ t. rw t refl)
    (λ t. rw t (find_left c l k (rw t at h)))

-- a node whose round is not among those before it is the one found
pub find_new : (l k : List Node) (n : Node) → present n.round l ≡ false → find n.round (l ++ n ∷ k) ≡ n
unfolding find
find_new [] k n h = rw (eq-eqb n.round n.round refl) refl
find_new (x ∷ l) k n h =
    by_test (has_round n.round x)
    (λ t. clash refl (rw t at h))
    (λ t. rw t (find_new l k n (rw t at h)))

pub find_absent : (c : ℕ) (ns : List Node) → present c ns ≡ false → find c ns ≡ root
unfolding find
find_absent c [] h = refl
find_absent c (n ∷ ns) h = by_test (has_round c n) (λ t. clash refl (rw t at h)) (λ t. rw t (find_absent c ns (rw t at h)))

-- nodes changed one by one, each keeping its round
module _ (f : Node → Node) (same : (n : Node) → (f n).round ≡ n.round) where
  pub present_changed : (c : ℕ) (ns : List Node) → present c (map f ns) ≡ present c ns
  present_changed c [] = refl
  present_changed c (n ∷ ns) = rw (same n, present_changed c ns) refl

  pub find_changed : (c : ℕ) (ns ms : List Node) → present c ns ≡ true → find c (map f ns ++ ms) ≡ f (find c ns)
  unfolding find
  find_changed c [] ms h = clash h refl
  find_changed c (n ∷ ns) ms h =
      let e : has_round c (f n) ≡ has_round c n = ap (λ k. eqb k c) (same n) in
      by_test (has_round c n) (λ t. rw (e ∙ t, t) refl) (λ t. rw (e ∙ t, t) (find_changed c ns ms (rw t at h)))
