-- Grown nodes are left by the calls read off them: the adds in order, then a commit of each COMMITTED node. These calls have the four
-- properties, so all are accepted, and the history statuses of them are the statuses. Assumes nothing.
use mathlib.Core.Path.{◌≡◌, refl, sym, ap, ◌∙◌, subst}
use mathlib.Core.Bool.{Bool, true, false, or-false, and-false}
use mathlib.Core.List.Memᴰ
use mathlib.Core.List.Memᴰ.{tail as there}
use mathlib.Core.List.{List, [], ◌∷◌, ◌++◌, append_assoc, append-nil}
use mathlib.Core.Logic.{⊎_elim}
use Prim.Native.Nat.{ℕ, ◌<◌}
use native.Mathlib.Omega.{arith}
use lib.ListN.{length}
use lib.Seq.{append_snoc}
use lib.Dec.{ltb, eqb}
use borrow.Author.Tests.{eqb-true, eq-eqb, ne_eqb, le-ltb}
use Rattle.laws.specs.Tests.{by_test, clash, tests, impossible, or_right, or_none, same_test}
use Rattle.laws.specs.Lists.{◌∈◌, any, any_append, in_cut, cut}
use Rattle.ids.specs.Ranges.{out_of_range}
use Rattle.tree_theory.specs.Machine.{Call, add, commit, Node, root, fresh, GHOST, COMMITTED, has_round, present, find, after}
use Rattle.tree_theory.specs.Properties.{Properties, InRange, AllOk, history, adds_in, adds, commits, edge_crosses}
use Rattle.tree_theory.specs.Table.{adds_of, commits_of, calls_of, behind_root}
use Rattle.tree_theory.specs.Check.{edge_over, crossed}
use Rattle.tree_theory.proofs.Nodes.{find_in, find_round, in_present}
use Rattle.tree_theory.proofs.Grown.{Grown, Placed, found, uncrossed_in}
use Rattle.tree_theory.proofs.Calls.{AddNext, CommitNext, grow, none, adds_with_intro, commits_elim, commits_intro, adds_in_append}
use Rattle.tree_theory.proofs.Rebuilt.{added_append}
use Rattle.tree_theory.proofs.ReadOff.{add_of, adds_of_append, in_adds, of_adds, any_adds, any_edges, no_commits, adds_in_adds, commits_taken}
use Rattle.tree_theory.proofs.ReadOff.{commits_passed, in_commits, of_commits, none_in_commits, adds_in_commits, added_commits, added_read}
use Rattle.tree_theory.proofs.ReadOff.{commits_of_append}
use Rattle.tree_theory.proofs.FourProperties.{ok_exactly, told_ok}

-- the calls read off the nodes behind the root
abbrev read_off : List Node → List Call
read_off B = adds_of B ++ commits_of B

module _ (valued : Bool) (rows : ℕ) (B : List Node) (G : Grown valued rows (root ∷ B)) where
  add_next : (pre post : List Node) (n : Node) → B ≡ pre ++ n ∷ post → AddNext valued (adds_of pre) n.round n.value n.parent
  unfolding find
  add_next pre post n e =
      let P : Placed valued (root ∷ pre) n = G.placed pre post n e in
      record {
        new = any_adds n.round pre ∙ or_right (has_round n.round root) (present n.round pre) P.new;
        lower = P.lower;
        parent = λ pos.
            let z : eqb 0 n.parent ≡ false = ne_eqb 0 n.parent (omega arith) in
            let there_in : present n.parent pre ≡ true = rw z at P.parent_there in
            adds_with_intro valued n.value (adds_of pre)
            (subst (λ x. add x (find n.parent pre).value (find n.parent pre).parent ∈ adds_of pre) (find_round n.parent pre there_in)
            (in_adds pre (find_in n.parent pre there_in)))
            (λ q. sym (rw z at (P.same_value q pos)));
        clear = λ c m. of_adds pre m (λ x i q. impossible (cc));
      }

  adds_have : (post pre : List Node) → B ≡ pre ++ post → Properties valued (adds_of pre) → Properties valued (adds_of B)
  unfolding adds_of
  adds_have [] pre e P = rw (e, append-nil pre) P
  adds_have (n ∷ post) pre e P =
      adds_have post (pre ++ n ∷ []) (e ∙ sym (append_snoc pre n post))
      (rw (adds_of_append pre (n ∷ [])) (grow valued (adds_of pre) (add_of n) P (add_next pre post n e)))

  commit_next : (pre post : List Node) (n : Node) → B ≡ pre ++ n ∷ post → n.status ≡ COMMITTED → CommitNext (adds_of B ++ commits_of pre) n.round
  commit_next pre post n e s =
      let P : Placed valued (root ∷ pre) n = G.placed pre post n e in
      let m : n ∈ B = subst (λ l. n ∈ l) (sym e) (in_cut pre n post) in
      let u : crossed n.round (root ∷ B) ≡ false = uncrossed_in valued rows (root ∷ B) G n (there m) (omega arith) in
      record {
        follows = rw (any_append (adds n.round) (adds_of B) (commits_of pre), any_adds n.round B, in_present B m) refl;
        new = rw (any_append (commits n.round) (adds_of B) (commits_of pre), no_commits n.round B)
            (by_test (any (commits n.round) (commits_of pre))
            (λ t. commits_elim n.round (commits_of pre) t (λ i. of_commits pre i (λ x j q w.
            let z : n.round ≡ x.round = cc in
            clash (rw (← z) at (in_present pre j)) (or_right (has_round n.round root) (present n.round pre) P.new))))
            (λ t. t));
        clear = rw (any_append (edge_crosses n.round) (adds_of B) (commits_of pre), any_edges n.round B)
            (or_none (or_right (edge_over n.round root) (crossed n.round B) u) (none_in_commits (edge_crosses n.round) (λ r. refl) pre));
      }

  commits_have : (post pre : List Node) → B ≡ pre ++ post → Properties valued (adds_of B ++ commits_of pre) → Properties valued (adds_of B ++ commits_of B)
  unfolding commits_of
  commits_have [] pre e P =
      let z : pre ≡ B = sym (append-nil pre) ∙ sym e in subst (λ l. Properties valued (adds_of B ++ commits_of l)) z P
  commits_have (n ∷ post) pre e P =
      commits_have post (pre ++ n ∷ []) (e ∙ sym (append_snoc pre n post))
      (rw (commits_of_append pre (n ∷ []))
      (by_test (eqb n.status COMMITTED)
      (λ t. rw (commits_taken n [] t)
      (rw (append_assoc (adds_of B) (commits_of pre) (commit n.round ∷ [])) at
      (grow valued (adds_of B ++ commits_of pre) (commit n.round) P (commit_next pre post n e (eqb-true n.status COMMITTED t)))))
      (λ t. rw (commits_passed n [] t, append-nil (commits_of pre)) P)))

  read_have : Properties valued (read_off B)
  unfolding adds_of commits_of
  read_have = commits_have B [] refl (rw (append-nil (adds_of B)) (adds_have B [] refl (none valued)))

  read_ranged : InRange (read_off B)
  read_ranged c m = ⊎_elim
      (λ i. of_adds B i (λ n j e. rw e (in_range n j)))
      (λ i. of_commits B i (λ n j s e. rw e (in_range n j)))
      (Memᴰ.append_cases (adds_of B) m)
    where
      in_range : (n : Node) → n ∈ B → out_of_range n.round ≡ false
      in_range n j = cut j (λ pre post e.
          let P : Placed valued (root ∷ pre) n = G.placed pre post n e in
          or_none (ne_eqb n.round 0 (omega (arith, P.positive))) P.bounded)

  read_adds : adds_in (read_off B) ≡ length B
  read_adds = adds_in_append (adds_of B) (commits_of B) ∙ omega (arith, adds_in_adds B, adds_in_commits B)

  committed_read : (n : Node) → n ∈ B → any (commits n.round) (read_off B) ≡ eqb n.status COMMITTED
  committed_read n m =
      rw (any_append (commits n.round) (adds_of B) (commits_of B), no_commits n.round B)
      (same_test (any (commits n.round) (commits_of B)) (eqb n.status COMMITTED)
      (λ t. commits_elim n.round (commits_of B) t (λ i. of_commits B i (λ x j q w.
      let z : n.round ≡ x.round = cc in
      let y : n ≡ x = sym (found valued rows (root ∷ B) G n (there m)) ∙ ap (λ r. find r (root ∷ B)) z ∙ found valued rows (root ∷ B) G x (there j) in
      eq-eqb n.status COMMITTED (rw y q))))
      (λ t. commits_intro (commits_of B) (in_commits B m (eqb-true n.status COMMITTED t))))

  ghost_read : (n : Node) → n ∈ B → any (edge_crosses n.round) (read_off B) ≡ eqb n.status GHOST
  ghost_read n m =
      rw (
        any_append (edge_crosses n.round) (adds_of B) (commits_of B),
        any_edges n.round B,
        none_in_commits (edge_crosses n.round) (λ r. refl) B,
        or-false,
      )
      (sym (G.ghosts n (there m) ∙ rw (le-ltb n.round 0 (omega arith), and-false (ltb 0 n.round)) refl))

  status_read : (n : Node) → n ∈ B → history (read_off B) n.round ≡ n.status
  unfolding history
  status_read n m =
      cut m (λ pre post e.
      let P : Placed valued (root ∷ pre) n = G.placed pre post n e in
      rw (ne_eqb n.round 0 (omega (arith, P.positive)), committed_read n m, ghost_read n m)
      (by_test (eqb n.status COMMITTED)
      (λ t. rw t (omega tests))
      (λ t. by_test (eqb n.status GHOST)
      (λ s. rw (t, s) (omega tests))
      (λ s. rw (t, s) (omega (tests, G.stated n (there m)))))))

  regrown_behind : 0 < rows → after valued rows fresh (read_off B) ≡ root ∷ B
  regrown_behind pos =
      let ok : AllOk valued rows (read_off B) = (ok_exactly valued rows (read_off B) read_ranged (omega (arith, read_adds, G.fit pos))).1 read_have in
      (told_ok valued rows (read_off B) ok).nodes ∙ ap (λ l. root ∷ l)
      (added_append (read_off B) (adds_of B) (commits_of B) ∙ rw (added_commits (read_off B) B, append-nil) (added_read (read_off B) B status_read))

-- grown nodes are left by the calls read off them
pub regrown : (valued : Bool) (rows : ℕ) (ns : List Node) → Grown valued rows ns → 0 < rows → after valued rows fresh (calls_of ns) ≡ ns
unfolding calls_of
regrown valued rows ns G pos =
    regrown_behind valued rows (behind_root ns) (subst (Grown valued rows) G.rooted G) pos ∙ sym G.rooted
