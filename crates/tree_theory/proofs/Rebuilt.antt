-- Nodes rebuilt from the accepted calls: if these have the four properties, the nodes are grown ones. Assumes nothing.
use mathlib.Core.Path.{◌≡◌, refl, sym, ap, ◌∙◌, subst}
use mathlib.Core.Bool.{Bool, true, false, ◌||◌, and-false}
use mathlib.Core.List.Memᴰ
use mathlib.Core.List.Memᴰ.{head as here}
use mathlib.Core.List.Memᴰ.{tail as there}
use mathlib.Core.List.{List, [], ◌∷◌, ◌++◌, map, append-nil}
use Prim.Native.Nat.{ℕ, suc, ◌<◌, ◌≤◌}
use native.Mathlib.Omega.{arith}
use lib.ListN.{length}
use lib.Dec.{eqb}
use borrow.Author.Tests.{ne_eqb, le-ltb}
use Rattle.laws.specs.Tests.{by_test, tests, impossible, or_right}
use Rattle.laws.specs.Lists.{◌∈◌, any, none_any, in_cut}
use Rattle.ids.specs.Ranges.{above_range}
use Rattle.tree_theory.specs.Machine.{Call, add, commit, Node, root, GHOST, COMMITTED, crosses, present, find}
use Rattle.tree_theory.specs.Properties.{Properties, InRange, history, adds_in, adds, commits, edge_crosses}
use Rattle.tree_theory.specs.Check.{crossed}
use Rattle.tree_theory.specs.Rebuilt.{made, added_nodes, rebuilt}
use Rattle.tree_theory.proofs.Nodes.{find_in, find_round}
use Rattle.tree_theory.proofs.Grown.{Grown, Placed, Stated}
use Rattle.tree_theory.proofs.Calls.{add_inj, adds_intro, adds_with_elim, commits_elim, committed_uncrossed, unique}

pub cons_same : {x y : Node} {l k : List Node} → x ≡ y → l ≡ k → x ∷ l ≡ y ∷ k
cons_same a b = cc

module _ (h : List Call) where
  pub added_append : (k l : List Call) → added_nodes h (k ++ l) ≡ added_nodes h k ++ added_nodes h l
  unfolding added_nodes
  added_append [] l = refl
  added_append (add r v p ∷ k) l = ap (λ x. made h r v p ∷ x) (added_append k l)
  added_append (commit r ∷ k) l = added_append k l

  pub length_added : (cs : List Call) → length (added_nodes h cs) ≡ adds_in cs
  unfolding added_nodes adds_in
  length_added [] = refl
  length_added (add r v p ∷ cs) = ap suc (length_added cs)
  length_added (commit r ∷ cs) = length_added cs

  pub in_added : {r v p : ℕ} (cs : List Call) → add r v p ∈ cs → made h r v p ∈ added_nodes h cs
  unfolding added_nodes
  in_added (add r v p ∷ cs) (here e) =
      let (a, b, c) = add_inj e in rw (a, b, c) (here refl)
  in_added (add r v p ∷ cs) (there m) = there (in_added cs m)
  in_added (commit r ∷ cs) (here e) = impossible (cc)
  in_added (commit r ∷ cs) (there m) = in_added cs m
  in_added {r = r} {v = v} {p = p} [] x' = elim x' [ ]

  pub of_added {κ} : {C : Type κ} {n : Node} (cs : List Call) → n ∈ added_nodes h cs → ((r v p : ℕ) → add r v p ∈ cs → n ≡ made h r v p → C) → C
  unfolding added_nodes
  of_added [] m f = elim m [ ]
  of_added (add r v p ∷ cs) (here e) f = f r v p (here refl) e
  of_added (add r v p ∷ cs) (there m) f = of_added cs m (λ r₁ v₁ p₁ i e. f r₁ v₁ p₁ (there i) e)
  of_added (commit r ∷ cs) m f = of_added cs m (λ r₁ v₁ p₁ i e. f r₁ v₁ p₁ (there i) e)

  -- a cut of the nodes is a cut of the calls
  pub added_cut {κ} : {C : Type κ} (cs : List Call) (pre post : List Node) (n : Node) → added_nodes h cs ≡ pre ++ n ∷ post →
      ((k l : List Call) (r v p : ℕ) → cs ≡ k ++ add r v p ∷ l → pre ≡ added_nodes h k → n ≡ made h r v p → C) → C
  unfolding added_nodes
  added_cut [] [] post n e f = impossible (cc)
  added_cut [] (x ∷ pre) post n e f = impossible (cc)
  added_cut (add r v p ∷ cs) [] post n e f =
      let z : n ≡ made h r v p = cc in f [] cs r v p refl refl z
  added_cut (add r v p ∷ cs) (x ∷ pre) post n e f =
      let y : x ≡ made h r v p = cc in
      let z : added_nodes h cs ≡ pre ++ n ∷ post = cc in
      added_cut cs pre post n z (λ k l r₁ v₁ p₁ a b c. f (add r v p ∷ k) l r₁ v₁ p₁ (ap (λ q. add r v p ∷ q) a) (rw (y, b) refl) c)
  added_cut (commit r ∷ cs) pre post n e f =
      added_cut cs pre post n e (λ k l r₁ v₁ p₁ a b c. f (commit r ∷ k) l r₁ v₁ p₁ (ap (λ q. commit r ∷ q) a) b c)

  pub present_added : (c : ℕ) (cs : List Call) → present c (added_nodes h cs) ≡ any (adds c) cs
  unfolding added_nodes
  present_added c [] = refl
  present_added c (add r v p ∷ cs) = ap (λ b. eqb r c || b) (present_added c cs)
  present_added c (commit r ∷ cs) = present_added c cs

  pub crossed_added : (c : ℕ) (cs : List Call) → crossed c (added_nodes h cs) ≡ any (edge_crosses c) cs
  unfolding added_nodes
  crossed_added c [] = refl
  crossed_added c (add r v p ∷ cs) = ap (λ b. crosses r p c || b) (crossed_added c cs)
  crossed_added c (commit r ∷ cs) = crossed_added c cs

  -- a change of nodes that makes of each its status of a longer history
  pub map_added : (h' : List Call) (f : Node → Node) (cs : List Call) →
      ((r v p : ℕ) → add r v p ∈ cs → f (made h r v p) ≡ made h' r v p) → map f (added_nodes h cs) ≡ added_nodes h' cs
  unfolding added_nodes
  map_added h' f [] g = refl
  map_added h' f (add r v p ∷ cs) g =
      cons_same (g r v p (here refl)) (map_added h' f cs (λ r₁ v₁ p₁ m. g r₁ v₁ p₁ (there m)))
  map_added h' f (commit r ∷ cs) g = map_added h' f cs (λ r₁ v₁ p₁ m. g r₁ v₁ p₁ (there m))

-- the history status of an added round says whether it is committed
pub history_committed : (h : List Call) (r : ℕ) → 0 < r → eqb (history h r) COMMITTED ≡ any (commits r) h
unfolding history
history_committed h r pos =
    rw (ne_eqb r 0 (omega arith))
    (by_test (any (commits r) h)
    (λ t. rw t refl)
    (λ t. by_test (any (edge_crosses r) h) (λ s. rw (t, s) refl) (λ s. rw (t, s) refl)))

pub history_ghost : (h : List Call) (r : ℕ) → 0 < r → any (commits r) h ≡ false → eqb (history h r) GHOST ≡ any (edge_crosses r) h
unfolding history
history_ghost h r pos t =
    rw (ne_eqb r 0 (omega arith), t)
    (by_test (any (edge_crosses r) h) (λ s. rw s refl) (λ s. rw s refl))

-- a status is 1, 2 or 3
pub history_stated : (h : List Call) (r : ℕ) → (0 < history h r) × (history h r ≤ 3)
unfolding history
history_stated h r =
    by_test (eqb r 0 || any (commits r) h)
    (λ t. rw t (omega arith))
    (λ t. by_test (any (edge_crosses r) h) (λ s. rw (t, s) (omega arith)) (λ s. rw (t, s) (omega arith)))

-- calls that were accepted in a table of `rows` rows
pub record Story (valued : Bool) (rows : ℕ) (h : List Call) : Type 0 where
  pub properties : Properties valued h
  pub ranged : InRange h
  pub room : 0 < rows → adds_in h < rows

module _ (valued : Bool) (rows : ℕ) (h : List Call) (S : Story valued rows h) where
  pub round_positive : {r v p : ℕ} → add r v p ∈ h → 0 < r
  round_positive {r} {v} {p} m = omega (arith, S.properties.lower r v p m)

  pub round_bounded : {r v p : ℕ} → add r v p ∈ h → above_range r ≡ false
  round_bounded {r} {v} {p} m = or_right (eqb r 0) (above_range r) (S.ranged (add r v p) m)

  pub present_rebuilt : (c : ℕ) → 0 < c → present c (rebuilt h) ≡ any (adds c) h
  present_rebuilt c pos = rw (ne_eqb 0 c (omega arith)) (present_added h c h)

  -- the node of an added round is found behind any cut that has its add
  pub found_made : {c v p : ℕ} (k l : List Call) → h ≡ k ++ l → add c v p ∈ k → find c (root ∷ added_nodes h k) ≡ made h c v p
  unfolding find
  found_made {c} {v} {p} k l e m =
      rw (ne_eqb 0 c (omega (arith, round_positive (up m))))
      (of_added h k (find_in c (added_nodes h k) there_in) (λ r v₁ p₁ i q.
      let z : r ≡ c = sym (ap (λ x. x.round) q) ∙ find_round c (added_nodes h k) there_in in
      let j : add c v₁ p₁ ∈ h = subst (λ x. add x v₁ p₁ ∈ h) z (up i) in
      let (a, b) = unique valued h S.properties c v₁ p₁ v p j (up m) in
      q ∙ rw (z, a, b) refl))
    where
      up : {r v₁ p₁ : ℕ} → add r v₁ p₁ ∈ k → add r v₁ p₁ ∈ h
      up {r} {v₁} {p₁} i = subst (λ x. add r v₁ p₁ ∈ x) (sym e) (Memᴰ.append_left l i)

      there_in : present c (added_nodes h k) ≡ true
      there_in = present_added h c k ∙ adds_intro k m

  pub find_rebuilt : {c v p : ℕ} → add c v p ∈ h → find c (rebuilt h) ≡ made h c v p
  find_rebuilt m = found_made h [] (sym (append-nil h)) m

  -- an edge crosses the round exactly if the status is GHOST
  ghost_made : {r v p : ℕ} → add r v p ∈ h → eqb (history h r) GHOST ≡ any (edge_crosses r) h
  unfolding history
  ghost_made {r} m =
      let pos : 0 < r = round_positive m in
      by_test (any (commits r) h)
      (λ t. rw (ne_eqb r 0 (omega arith), t) (sym (commits_elim r h t (committed_uncrossed valued h S.properties r))))
      (history_ghost h r pos)

  -- no edge crosses c = 0, nor does the root's edge cross anything
  pub crossed_rebuilt : (c : ℕ) → crossed c (rebuilt h) ≡ any (edge_crosses c) h
  crossed_rebuilt c = rw (le-ltb c 0 (omega arith), and-false) (crossed_added h c h)

  root_clear : any (edge_crosses 0) h ≡ false
  root_clear = none_any (edge_crosses 0) h each
    where
      each : (a : Call) → a ∈ h → edge_crosses 0 a ≡ false
      each (add s v p) j = rw (le-ltb p 0 (omega arith)) refl
      each (commit s) j = refl

  placed_made : (k l : List Call) (r v p : ℕ) → h ≡ k ++ add r v p ∷ l → Placed valued (root ∷ added_nodes h k) (made h r v p)
  placed_made k l r v p e =
      let m : add r v p ∈ h = subst (λ x. add r v p ∈ x) (sym e) (in_cut k (add r v p) l) in
      record {
        positive = round_positive m;
        bounded = round_bounded m;
        new = rw (ne_eqb 0 r (omega (arith, round_positive m)), present_added h r k) (S.properties.one_add k l r v p e);
        parent_there = by_test (eqb 0 p)
            (λ t. rw t refl)
            (λ t. rw (t, present_added h p k)
            (adds_with_elim valued p v k (S.properties.parent k l r v p e (omega tests)) (λ v₁ p₁ i w. adds_intro k i)));
        lower = S.properties.lower r v p m;
        same_value = λ q pos. adds_with_elim valued p v k (S.properties.parent k l r v p e pos)
            (λ v₁ p₁ i w. rw (found_made k (add r v p ∷ l) e i) (sym (w q)));
      }

  pub rebuilt_grown : Grown valued rows (rebuilt h)
  rebuilt_grown = record {
    rooted = refl;
    fit = λ pos. omega (arith, length_added h h, S.room pos);
    placed = λ pre post n e. added_cut h h pre post n e (λ k l r v p a b c. rw (b, c) (placed_made k l r v p a));
    stated = stated_rebuilt;
    ghosts = ghosts_rebuilt;
  }
    where
      stated_rebuilt : (n : Node) → n ∈ rebuilt h → Stated n
      stated_rebuilt n (here e) = rw e (omega arith)
      stated_rebuilt n (there m) = of_added h h m (λ r v p i e. rw e (history_stated h r))

      ghosts_rebuilt : (n : Node) → n ∈ rebuilt h → eqb n.status GHOST ≡ crossed n.round (rebuilt h)
      ghosts_rebuilt n (here e) = subst (λ x. eqb x.status GHOST ≡ crossed x.round (rebuilt h)) (sym e) (sym (crossed_rebuilt 0 ∙ root_clear))
      ghosts_rebuilt n (there m) =
          of_added h h m (λ r v p i e.
          subst (λ x. eqb x.status GHOST ≡ crossed x.round (rebuilt h)) (sym e) (ghost_made i ∙ sym (crossed_rebuilt r)))
