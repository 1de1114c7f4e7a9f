-- How many nodes of a tree are COMMITTED: an accepted add leaves their number, an accepted commit makes one more. Rounds are distinct, so
-- one node takes the new status. Assumes nothing.
use mathlib.Core.Path.{◌≡◌, refl, ap, ◌∙◌}
use mathlib.Core.Bool.{Bool, true, false}
use mathlib.Core.List.Memᴰ.{head as here}
use mathlib.Core.List.Memᴰ.{tail as there}
use mathlib.Core.List.{List, [], ◌∷◌, ◌++◌, map}
use Prim.Native.Nat.{ℕ, suc, ◌+◌, ◌<◌}
use native.Mathlib.Omega.{arith}
use lib.Dec.{eqb}
use borrow.Author.Tests.{not-false, eq-eqb}
use Rattle.laws.specs.Tests.{tests, by_test, clash, and_left, or_left, or_right}
use Rattle.laws.specs.Lists.{◌∈◌, any, any_none, none_any, how_many_append, how_many_map, how_many_same, cut}
use Rattle.laws.specs.First.{passed}
use Rattle.numbers.specs.Numbers.{OK}
use Rattle.tree_theory.specs.Machine.{Call, add, commit, Node, ADDED, COMMITTED, has_round, has_status, present, find, above, strikes, struck, new_node}
use Rattle.tree_theory.specs.Machine.{commit_node, causes, answer, change, step, after, answers}
use Rattle.tree_theory.proofs.Grown.{Grown, placed_cut}
use Rattle.tree_theory.proofs.History.{step_ok}
use Rattle.tree_theory.proofs.Steps.{step_grown}
use Rattle.model.specs.Counts.{committed_nodes}

-- a change that keeps which nodes are COMMITTED
kept_count : (f : Node → Node) (ns : List Node) → ((n : Node) → n ∈ ns → eqb (f n).status COMMITTED ≡ eqb n.status COMMITTED) →
    committed_nodes (map f ns) ≡ committed_nodes ns
kept_count f ns h = how_many_map (has_status COMMITTED) f ns ∙ how_many_same _ _ ns h

struck_status : (ns : List Node) (r p : ℕ) (n : Node) → eqb (struck ns r p n).status COMMITTED ≡ eqb n.status COMMITTED
unfolding struck
struck_status ns r p n =
    by_test (strikes ns r p n)
    (λ t. let e : n.status ≡ ADDED = omega (tests, and_left (eqb n.status ADDED) _ t) in rw (t, e) refl)
    (λ t. rw t refl)

new_status : (ns : List Node) (r v p : ℕ) → eqb (new_node ns r v p).status COMMITTED ≡ false
unfolding new_node
new_status ns r v p = by_test (any (above r) ns) (λ t. rw t refl) (λ t. rw t refl)

-- rounds are distinct
abbrev Distinct : List Node → Type 0
Distinct ns = (pre post : List Node) (n : Node) → ns ≡ pre ++ n ∷ post → present n.round pre ≡ false

distinct_tail : (n : Node) (ns : List Node) → Distinct (n ∷ ns) → Distinct ns
distinct_tail n ns d pre post k e = or_right (has_round k.round n) (present k.round pre) (d (n ∷ pre) post k (ap (λ l. n ∷ l) e))

distinct_head : (n : Node) (ns : List Node) → Distinct (n ∷ ns) → present n.round ns ≡ false
distinct_head n ns d = none_any (has_round n.round) ns (λ k i. cut i (λ pre post e.
    omega (tests, or_left (has_round k.round n) (present k.round pre) (d (n ∷ pre) post k (ap (λ l. n ∷ l) e)))))

committed_other : (r : ℕ) (n : Node) → has_round r n ≡ false → eqb (commit_node r n).status COMMITTED ≡ eqb n.status COMMITTED
unfolding commit_node
committed_other r n t = rw t refl

-- one node more is COMMITTED
one_more : (r : ℕ) (ns : List Node) → Distinct ns → present r ns ≡ true → eqb (find r ns).status COMMITTED ≡ false →
    committed_nodes (map (commit_node r) ns) ≡ suc (committed_nodes ns)
unfolding commit_node find
one_more r [] d p s = clash p refl
one_more r (n ∷ ns) d p s =
    by_test (has_round r n)
    (λ t. let e : n.round ≡ r = omega tests in
    let gone : present r ns ≡ false = rw e at (distinct_head n ns d) in
    rw (t, rw t at s) (ap suc (kept_count (commit_node r) ns (λ k i. committed_other r k (any_none (has_round r) ns gone k i)))))
    (λ t. let rest : committed_nodes (map (commit_node r) ns) ≡ suc (committed_nodes ns) = one_more r ns (distinct_tail n ns d) (rw t at p) (rw t at s) in
    by_test (eqb n.status COMMITTED) (λ u. rw (t, u) (ap suc rest)) (λ u. rw (t, u) rest))

grown_distinct : (valued : Bool) (rows : ℕ) (ns : List Node) → Grown valued rows ns → Distinct ns
grown_distinct valued rows ns G [] post n e = refl
grown_distinct valued rows ns G (x ∷ pre) post n e = (placed_cut valued rows ns G (x ∷ pre) post n e (omega arith)).new

-- how many commits a list has
unfoldable pub commits_in : List Call → ℕ
commits_in [] = 0
commits_in (add r v p ∷ cs) = commits_in cs
commits_in (commit r ∷ cs) = suc (commits_in cs)

changed_count : (valued : Bool) (rows : ℕ) (ns : List Node) (c : Call) → Grown valued rows ns → answer valued rows ns c ≡ OK →
    committed_nodes (change ns c) ≡ committed_nodes ns + commits_in (c ∷ [])
unfolding change answer commits_in
changed_count valued rows ns (add r v p) G h =
    rw (
      how_many_append (has_status COMMITTED) (map (struck ns r p) ns) (new_node ns r v p ∷ []),
      kept_count (struck ns r p) ns (λ n i. struck_status ns r p n),
      new_status ns r v p,
    ) refl
changed_count valued rows ns (commit r) G h =
    let (a, (b, (c, rest))) = passed (causes valued rows ns (commit r)) refl h in
    omega (arith, one_more r ns (grown_distinct valued rows ns G) (not-false (present r ns) b) c)

-- as many as commits, beside those at first, if each call gets OK
pub committed_count : (valued : Bool) (rows : ℕ) (ns : List Node) (cs : List Call) → 0 < rows → Grown valued rows ns →
    ((n : ℕ) → n ∈ answers valued rows ns cs → n ≡ OK) → committed_nodes (after valued rows ns cs) ≡ committed_nodes ns + commits_in cs
unfolding after answers commits_in
committed_count valued rows ns [] pos G f = omega arith
committed_count valued rows ns (c ∷ cs) pos G f =
    let z : answer valued rows ns c ≡ OK = f (answer valued rows ns c) (here refl) in
    let now : committed_nodes (step valued rows ns c) ≡ committed_nodes ns + commits_in (c ∷ []) =
    rw (step_ok valued rows ns c (eq-eqb (answer valued rows ns c) OK z)) (changed_count valued rows ns c G z) in
    let rest : committed_nodes (after valued rows (step valued rows ns c) cs) ≡ committed_nodes (step valued rows ns c) + commits_in cs =
    committed_count valued rows (step valued rows ns c) cs pos (step_grown valued rows ns c G pos) (λ n i. f n (there i)) in
    omega (arith, one_by_one c cs)
  where
    one_by_one : (c : Call) (cs : List Call) → commits_in (c ∷ cs) ≡ commits_in (c ∷ []) + commits_in cs
    one_by_one (add r v p) cs = omega arith
    one_by_one (commit r) cs = omega arith
