-- Paths of grown nodes: the fuel of `path_in` doesn't matter, an uncrossed round stands on the path of every higher one, and so an
-- add strikes exactly the ADDED nodes that its edge crosses. Assumes nothing.
use mathlib.Core.Path.{◌≡◌, refl, sym, ap, ◌∙◌, subst}
use mathlib.Core.Bool.{Bool, true, false, or-true}
use mathlib.Core.List.{List, [], ◌∷◌, ◌++◌, map, append_assoc}
use mathlib.Core.Logic.{◌≢◌}
use Prim.Native.Nat.{ℕ, zero, suc, ◌+◌, ◌<◌, ◌≤◌}
use native.Mathlib.Omega.{arith}
use lib.ListN.{length, length-append}
use lib.Dec.{ltb, eqb}
use borrow.Author.Tests.{eqb-true, ne_eqb, not-false, leb-false}
use Rattle.laws.specs.Tests.{by_test, tests}
use Rattle.laws.specs.First.{passed}
use Rattle.laws.specs.Lists.{◌∈◌, any, any_snoc, cut, in_cut, map_same}
use Rattle.tree_theory.specs.Machine.{Node, root, ADDED, GHOST, crossed_with, present, find, path, path_in, ancestor, strikes, struck, strike_crossed}
use Rattle.tree_theory.specs.Machine.{add, causes, answer}
use Rattle.tree_theory.specs.Table.{behind_root}
use Rattle.tree_theory.specs.Check.{crossed}
use Rattle.tree_theory.proofs.Nodes.{find_in, find_round, in_present, present_in}
use Rattle.tree_theory.proofs.Grown.{Grown, Placed, found, lower_in, parent_in, uncrossed_in, parent_above}

pub path_in_root : (k : ℕ) (ns : List Node) → path_in k ns 0 ≡ 0 ∷ []
unfolding path_in
path_in_root zero ns = refl
path_in_root (suc k) ns = refl

path_in_suc : (k : ℕ) (ns : List Node) (r : ℕ) → eqb r 0 ≡ false → path_in (suc k) ns r ≡ path_in k ns (find r ns).parent ++ r ∷ []
unfolding path_in
path_in_suc k ns r e = rw (e, path_in) refl

module _ (valued : Bool) (rows : ℕ) (ns : List Node) (G : Grown valued rows ns) where
  -- the parent of a present round
  pub next_lower : (r : ℕ) → present r ns ≡ true → 0 < r → (find r ns).parent < r
  next_lower r h pos = omega (arith, lower_in valued rows ns G (find r ns) (find_in r ns h) (omega (arith, find_round r ns h)), find_round r ns h)

  pub next_there : (r : ℕ) → present r ns ≡ true → present (find r ns).parent ns ≡ true
  next_there r h = parent_in valued rows ns G (find r ns) (find_in r ns h)

  fuel : (k j r : ℕ) → r ≤ k → r ≤ j → present r ns ≡ true → path_in k ns r ≡ path_in j ns r
  fuel zero j r a b h = let e : r ≡ 0 = omega arith in rw e (path_in_root zero ns ∙ sym (path_in_root j ns))
  fuel (suc k) zero r a b h = let e : r ≡ 0 = omega arith in rw e (path_in_root (suc k) ns ∙ sym (path_in_root zero ns))
  fuel (suc k) (suc j) r a b h =
      by_test (eqb r 0)
      (λ t. rw (eqb-true r 0 t) (path_in_root (suc k) ns ∙ sym (path_in_root (suc j) ns)))
      (λ t. let low : (find r ns).parent < r = next_lower r h (omega tests) in
      path_in_suc k ns r t ∙ ap (λ l. l ++ r ∷ []) (fuel k j (find r ns).parent (omega arith) (omega arith) (next_there r h)) ∙ sym (path_in_suc j ns r t))

  -- the path of a present round is its parent's with the round put after it
  pub path_next : (r : ℕ) → present r ns ≡ true → 0 < r → path ns r ≡ path ns (find r ns).parent ++ r ∷ []
  path_next zero h pos = absurd (omega arith)
  path_next (suc k) h pos =
      let low : (find (suc k) ns).parent < suc k = next_lower (suc k) h pos in
      path_in_suc k ns (suc k) (ne_eqb (suc k) 0 (omega arith)) ∙
      ap (λ l. l ++ suc k ∷ []) (fuel k (find (suc k) ns).parent (find (suc k) ns).parent (omega arith) (omega arith) (next_there (suc k) h))

  -- an uncrossed round stands on the path of every present round at or above it
  pub on_path : (c : ℕ) → crossed c ns ≡ false → (r : ℕ) → present r ns ≡ true → c ≤ r → ancestor ns r c ≡ true
  on_path c u r h l = walk r r h l (omega arith)
    where
      at_root : (x : ℕ) → c ≤ x → x ≡ 0 → any (eqb c) (path ns x) ≡ true
      at_root x b e = let z : c ≡ 0 = omega arith in rw (e, z, path_in_root 0 ns) refl

      walk : (k x : ℕ) → present x ns ≡ true → c ≤ x → x ≤ k → any (eqb c) (path ns x) ≡ true
      walk zero x i b d = at_root x b (omega arith)
      walk (suc k) x i b d =
          by_test (eqb x 0)
          (λ t. at_root x b (eqb-true x 0 t))
          (λ t. let low : (find x ns).parent < x = next_lower x i (omega tests) in
          rw (path_next x i (omega tests), any_snoc (eqb c) (path ns (find x ns).parent) x)
          (by_test (eqb c x)
          (λ s. rw s (or-true (any (eqb c) (path ns (find x ns).parent))))
          (λ s. let up : c ≤ (find x ns).parent = parent_above c ns u (find x ns) (find_in x ns i) (omega (tests, find_round x ns i)) in
          rw (walk k (find x ns).parent (next_there x i) up (omega arith)) refl)))

  first_bound : (post : List Node) (n : Node) → ns ≡ n ∷ post → length (path ns n.round) ≤ 1
  first_bound post n e =
      let both : root ∷ behind_root ns ≡ n ∷ post = sym G.rooted ∙ e in
      let z : root ≡ n = cc in
      rw (← z, path_in_root 0 ns) (omega arith)

  -- a path is no longer than the nodes up to its end
  path_bound : (k : ℕ) (pre post : List Node) (n : Node) → length pre ≤ k → ns ≡ pre ++ n ∷ post → length (path ns n.round) ≤ suc (length pre)
  path_bound zero [] post n b e = first_bound post n e
  path_bound zero (x ∷ pre) post n b e = absurd (omega arith)
  path_bound (suc k) [] post n b e = first_bound post n e
  path_bound (suc k) (x ∷ pre) post n b e =
      let P : Placed valued (root ∷ pre) n = G.placed pre post n (ap behind_root e) in
      let i : n ∈ ns = subst (λ l. n ∈ l) (sym e) (in_cut (x ∷ pre) n post) in
      let f : find n.round ns ≡ n = found valued rows ns G n i in
      let g : path ns n.round ≡ path ns (find n.round ns).parent ++ n.round ∷ [] = path_next n.round (in_present ns i) P.positive in
      rw (g, f, length-append)
      (present_in n.parent (root ∷ pre) P.parent_there (λ y j q. cut j (λ pre₂ post₂ c.
      let a : ns ≡ pre₂ ++ y ∷ (post₂ ++ n ∷ post) =
      G.rooted ∙ ap (λ l. root ∷ l) (ap behind_root e) ∙ ap (λ l. l ++ n ∷ post) c ∙ append_assoc pre₂ (y ∷ post₂) (n ∷ post) in
      let w : length (root ∷ pre) ≡ length pre₂ + length (y ∷ post₂) = ap length c ∙ length-append pre₂ (y ∷ post₂) in
      let v : length (path ns y.round) ≤ suc (length pre₂) = path_bound k pre₂ (post₂ ++ n ∷ post) y (omega arith) a in
      let u : length (path ns n.parent) ≤ suc (length pre₂) = rw q at v in
      omega arith)))

  pub path_length : (r : ℕ) → present r ns ≡ true → length (path ns r) ≤ length ns
  path_length r h =
      present_in r ns h (λ n m q. cut m (λ pre post c.
      let v : length (path ns n.round) ≤ suc (length pre) = path_bound (length pre) pre post n (omega arith) c in
      let u : length (path ns r) ≤ suc (length pre) = rw q at v in
      let w : length ns ≡ length pre + length (n ∷ post) = ap length c ∙ length-append pre (n ∷ post) in
      omega arith))

  -- of the nodes that an accepted add strikes, the crossing decides alone: the second group is empty
  pub crossing_alone : (r p : ℕ) → present p ns ≡ true → p < r → (n : Node) → n ∈ ns →
      strikes ns r p n ≡ crossed_with ADDED r p n
  crossing_alone r p h l n m =
      by_test (eqb n.status ADDED)
      (λ t. by_test (ltb p n.round)
      (λ a. by_test (ltb n.round r) (λ b. rw (t, a, b) refl) (λ b. rw (t, a, b) refl))
      (λ a. by_test (ltb n.round r)
      (λ b. let s : n.status ≢ GHOST = omega tests in
      rw (t, a, b, on_path n.round (uncrossed_in valued rows ns G n m s) p h (omega tests)) refl)
      (λ b. rw (t, a, b) refl)))
      (λ t. rw t refl)

-- an accepted add changes the nodes by crossing alone
pub struck_crossed : (valued : Bool) (rows : ℕ) (ns : List Node) → Grown valued rows ns → (r p : ℕ) → present p ns ≡ true → p < r →
    map (struck ns r p) ns ≡ map (strike_crossed r p) ns
unfolding struck
struck_crossed valued rows ns G r p h l =
    map_same (struck ns r p) (strike_crossed r p) ns (λ n m. rw (crossing_alone valued rows ns G r p h l n m) refl)

-- what an accepted add was found to have
pub accepted_parent : (valued : Bool) (rows : ℕ) (ns : List Node) (r v p : ℕ) → answer valued rows ns (add r v p) ≡ 0 → (present p ns ≡ true) × (p < r)
unfolding answer
accepted_parent valued rows ns r v p z =
    let (a3, (a4, (a5, (a6, rest)))) = passed (causes valued rows ns (add r v p)) refl z in
    (not-false (present p ns) a5, leb-false r p a6)
