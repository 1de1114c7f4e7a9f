-- What an add makes GHOST: of a tree's nodes the ADDED ones that its edge crosses. And what the sum over adds comes to: each GHOST row was counted
-- once, or was born GHOST. Assumes nothing.
use mathlib.Core.Path.{◌≡◌, refl, sym, ap, ◌∙◌}
use mathlib.Core.Bool.{Bool, true, false, ◌&&◌, ◌||◌, or-false}
use mathlib.Core.List.{List, [], ◌∷◌, ◌++◌, map, append-nil}
use Prim.Native.Nat.{ℕ, ◌+◌, ◌≤◌, ◌<◌}
use native.Mathlib.Omega.{arith}
use lib.ListN.{length, length-map}
use lib.Dec.{eqb}
use borrow.Author.Tests.{eqb-true}
use Rattle.laws.specs.Tests.{by_test, and_left}
use Rattle.laws.specs.Lists.{◌∈◌, how_many, how_many_append, how_many_most, how_many_same, how_many_none, how_many_either, how_many_map}
use Rattle.laws.specs.First.{passed}
use Rattle.numbers.specs.Numbers.{OK}
use Rattle.tree_theory.specs.Machine.{Call, add, commit, Node, ADDED, GHOST, root, fresh, has_round, has_status, present, find, crossed_with}
use Rattle.tree_theory.specs.Machine.{strikes, struck, new_node, commit_node, causes, answer, change, step, after}
use Rattle.tree_theory.specs.Table.{sized, rows, Tree, nodes, call_number, call_table}
use Rattle.tree_theory.specs.Ghosts.{rounds, made_ghost, ghosts_made, born_ghost, ghosts_born, at_add, over_adds, once, ghost_nodes, GhostsAddUp}
use Rattle.tree_theory.specs.Ghosts.{stepped_ghosts, table_ghosts}
use Rattle.tree_theory.proofs.Nodes.{find_in, find_new, find_absent, present_changed, find_changed, in_present}
use Rattle.tree_theory.proofs.Grown.{Grown, found}
use Rattle.tree_theory.proofs.Paths.{crossing_alone, accepted_parent}
use Rattle.tree_theory.proofs.History.{step_ok, step_refused, all_grown}
use Rattle.tree_theory.proofs.Words.{nodes_table}
use Rattle.tree_theory.proofs.Trees.{tree_held, grown_fit, grown_stated, sized_bounds, sized_rows}
use Rattle.tree_theory.proofs.Steps.{step_grown, tree_number, tree_table}

-- no node is ADDED and GHOST
not_both : (n : Node) → (has_status ADDED n && has_status GHOST n) ≡ false
not_both n =
    by_test (has_status ADDED n) (λ t. let e : n.status ≡ ADDED = eqb-true n.status ADDED t in rw e refl) (λ t. rw t refl)

-- ---- nodes changed one by one, each keeping its round
module _ (f : Node → Node) (same : (n : Node) → (f n).round ≡ n.round) where
  -- the rounds made GHOST are those of the nodes that the change makes so
  made_changed : (valued : Bool) (rows : ℕ) (ns ms : List Node) → Grown valued rows ns →
      ghosts_made ns (map f ns ++ ms) ≡ how_many (λ n. has_status ADDED n && has_status GHOST (f n)) ns
  unfolding ghosts_made
  made_changed valued rows ns ms G =
      how_many_map (made_ghost ns (map f ns ++ ms)) (λ n. n.round) ns ∙
      how_many_same _ _ ns (λ n m. rw (find_changed f same n.round ns ms (in_present ns m), found valued rows ns G n m) refl)

  -- none of them is born
  none_born : (ns after : List Node) → how_many (λ n. born_ghost ns after n.round) (map f ns) ≡ 0
  none_born ns after =
      how_many_map (λ n. born_ghost ns after n.round) f ns ∙
      how_many_none _ ns (λ n m. rw (same n, in_present ns m) refl)

-- ---- what add and commit do to a node
struck_round : (ns : List Node) (r p : ℕ) (n : Node) → (struck ns r p n).round ≡ n.round
unfolding struck
struck_round ns r p n = by_test (strikes ns r p n) (λ t. rw t refl) (λ t. rw t refl)

committed_round : (r : ℕ) (n : Node) → (commit_node r n).round ≡ n.round
unfolding commit_node
committed_round r n = by_test (has_round r n) (λ t. rw t refl) (λ t. rw t refl)

struck_was_added : (ns : List Node) (r p : ℕ) (n : Node) → strikes ns r p n ≡ true → n.status ≡ ADDED
struck_was_added ns r p n t = eqb-true n.status ADDED (and_left (has_status ADDED n) _ t)

struck_turns : (ns : List Node) (r p : ℕ) (n : Node) → (has_status ADDED n && has_status GHOST (struck ns r p n)) ≡ strikes ns r p n
unfolding struck
struck_turns ns r p n =
    by_test (strikes ns r p n)
    (λ t. rw (t, struck_was_added ns r p n t) refl)
    (λ t. rw t (not_both n))

-- GHOST is what was GHOST, and what is made so
struck_ghost : (ns : List Node) (r p : ℕ) (n : Node) →
    has_status GHOST (struck ns r p n) ≡ (has_status GHOST n || (has_status ADDED n && has_status GHOST (struck ns r p n)))
unfolding struck
struck_ghost ns r p n =
    by_test (strikes ns r p n)
    (λ t. rw (t, struck_was_added ns r p n t) refl)
    (λ t. rw (t, not_both n) (sym (or-false (has_status GHOST n))))

apart : (n m : Node) → (has_status GHOST n && (has_status ADDED n && has_status GHOST m)) ≡ false
apart n m =
    by_test (has_status GHOST n) (λ t. let e : n.status ≡ GHOST = eqb-true n.status GHOST t in rw e refl) (λ t. rw t refl)

-- of any nodes, those that are GHOST after an add are those that were and those made so
ghosts_struck : (ns : List Node) (r p : ℕ) (ms : List Node) →
    ghost_nodes (map (struck ns r p) ms) ≡ ghost_nodes ms + how_many (λ n. has_status ADDED n && has_status GHOST (struck ns r p n)) ms
ghosts_struck ns r p ms =
    how_many_map (has_status GHOST) (struck ns r p) ms ∙ how_many_same _ _ ms (λ n m. struck_ghost ns r p n) ∙
    how_many_either (has_status GHOST) _ ms (λ n m. apart n (struck ns r p n))

-- an accepted commit isn't of a GHOST node
committed_ghost : (valued : Bool) (rows : ℕ) (ns : List Node) (r : ℕ) → Grown valued rows ns → answer valued rows ns (commit r) ≡ OK →
    (n : Node) → n ∈ ns → has_status GHOST (commit_node r n) ≡ has_status GHOST n
unfolding commit_node answer
committed_ghost valued rows ns r G z n m =
    by_test (has_round r n)
    (λ t.
    let (a, (b, (c, (d, _)))) = passed (causes valued rows ns (commit r)) refl z in
    let e : find r ns ≡ n = ap (λ k. find k ns) (sym (eqb-true n.round r t)) ∙ found valued rows ns G n m in
    rw t (sym (ap (has_status GHOST) (sym e) ∙ d)))
    (λ t. rw t refl)

-- ---- the number of an add
ghosts_few : (ns ms : List Node) → ghosts_made ns ms ≤ length ns
unfolding ghosts_made
ghosts_few ns ms = omega (arith, how_many_most (made_ghost ns ms) (rounds ns), length-map ns (λ n. n.round))

at_add_few : (valued : Bool) (rows : ℕ) (ns : List Node) (c : Call) → at_add ghosts_made valued rows ns c ≤ length ns
at_add_few valued rows ns (add r v p) = ghosts_few ns _
at_add_few valued rows ns (commit r) = omega arith

-- a table beside itself
ghosts_none : (ns : List Node) → ghosts_made ns ns ≡ 0
unfolding ghosts_made
ghosts_none ns = how_many_none (made_ghost ns ns) (rounds ns) (λ r m. not_both (find r ns))

-- a call that leaves the table counts nothing, where a table beside itself counts nothing
refused_adds : (f : List Node → List Node → ℕ) (valued : Bool) (rows : ℕ) (ns : List Node) (c : Call) → step valued rows ns c ≡ ns → f ns ns ≡ 0 →
    at_add f valued rows ns c ≡ 0
refused_adds f valued rows ns (add r v p) e h = ap (f ns) e ∙ h
refused_adds f valued rows ns (commit r) e h = refl

-- a refused call makes none GHOST
pub none_refused : (valued : Bool) (rows : ℕ) (ns : List Node) (c : Call) → eqb (answer valued rows ns c) OK ≡ false →
    at_add ghosts_made valued rows ns c ≡ 0
none_refused valued rows ns c t = refused_adds ghosts_made valued rows ns c (step_refused valued rows ns c t) (ghosts_none ns)

pub table_none : (valued : Bool) (ws : List ℕ) (c : Call) → eqb (call_number valued ws c) OK ≡ false → table_ghosts valued ws c ≡ 0
unfolding table_ghosts
table_none valued ws (add r v p) t = rw t refl
table_none valued ws (commit r) t = refl

-- an accepted add makes GHOST the ADDED nodes that its edge crosses
pub ghosts_crossed : (valued : Bool) (rows : ℕ) (ns : List Node) (r v p : ℕ) → Grown valued rows ns → answer valued rows ns (add r v p) ≡ OK →
    ghosts_made ns (change ns (add r v p)) ≡ how_many (crossed_with ADDED r p) ns
unfolding change
ghosts_crossed valued rows ns r v p G z =
    let (there, low) = accepted_parent valued rows ns r v p z in
    made_changed (struck ns r p) (struck_round ns r p) valued rows ns (new_node ns r v p ∷ []) G ∙
    how_many_same _ _ ns (λ n m. struck_turns ns r p n ∙ crossing_alone valued rows ns G r p there low n m)

-- on a tree the number of a call on words is that of the step on nodes
module _ (valued : Bool) (ws : List ℕ) (h : sized ws ≡ true) (T : Tree valued ws) where
  nodes_stepped : (c : Call) → nodes (call_table valued ws c) ≡ step valued (rows ws) (nodes ws) c
  nodes_stepped c =
      let G = step_grown valued (rows ws) (nodes ws) c (tree_held valued ws h T).grown (sized_rows ws h) in
      let ns = step valued (rows ws) (nodes ws) c in
      ap nodes (tree_table valued ws h T c) ∙ nodes_table _ ns (grown_fit valued ws ns h G) (grown_stated valued (rows ws) ns G)

  -- no more than a table has rows
  pub tree_few : (c : Call) → stepped_ghosts valued ws c ≤ 256
  tree_few c =
      omega (arith, at_add_few valued (rows ws) (nodes ws) c, (tree_held valued ws h T).grown.fit (sized_rows ws h), (sized_bounds ws h).most)

  pub tree_ghosts : (c : Call) → table_ghosts valued ws c ≡ stepped_ghosts valued ws c
  unfolding table_ghosts
  tree_ghosts (add r v p) =
      let c = add r v p in
      by_test (eqb (call_number valued ws c) OK)
      (λ t. rw (t, nodes_stepped c) refl)
      (λ t. rw t (sym (none_refused valued (rows ws) (nodes ws) c (ap (λ a. eqb a OK) (sym (tree_number valued ws h T c)) ∙ t))))
  tree_ghosts (commit r) = refl

-- ---- the sum over adds
pub over_adds_append : (f : List Node → List Node → ℕ) (valued : Bool) (rows : ℕ) (ns : List Node) (cs ds : List Call) →
    over_adds f valued rows ns (cs ++ ds) ≡ over_adds f valued rows ns cs + over_adds f valued rows (after valued rows ns cs) ds
unfolding over_adds after
over_adds_append f valued rows ns [] ds = omega arith
over_adds_append f valued rows ns (c ∷ cs) ds = omega (arith, over_adds_append f valued rows (step valued rows ns c) cs ds)

-- what the nodes gain at each add, and keep at each commit, adds up
adds_up : (g : List Node → ℕ) (f : List Node → List Node → ℕ) (valued : Bool) (rows : ℕ) → 0 < rows →
    ((ns : List Node) (c : Call) → Grown valued rows ns → g (step valued rows ns c) ≡ g ns + at_add f valued rows ns c) →
    (ns : List Node) → Grown valued rows ns → (cs : List Call) → g (after valued rows ns cs) ≡ g ns + over_adds f valued rows ns cs
unfolding after over_adds
adds_up g f valued rows pos h ns G [] = omega arith
adds_up g f valued rows pos h ns G (c ∷ cs) =
    omega (arith, h ns c G, adds_up g f valued rows pos h (step valued rows ns c) (step_grown valued rows ns c G pos) cs)

-- two numbers at each add
abbrev both : (f g : List Node → List Node → ℕ) → List Node → List Node → ℕ
both f g before after = f before after + g before after

both_at : (f g : List Node → List Node → ℕ) (valued : Bool) (rows : ℕ) (ns : List Node) (c : Call) →
    at_add (both f g) valued rows ns c ≡ at_add f valued rows ns c + at_add g valued rows ns c
both_at f g valued rows ns (add r v p) = refl
both_at f g valued rows ns (commit r) = refl

both_over : (f g : List Node → List Node → ℕ) (valued : Bool) (rows : ℕ) (ns : List Node) (cs : List Call) →
    over_adds (both f g) valued rows ns cs ≡ over_adds f valued rows ns cs + over_adds g valued rows ns cs
unfolding over_adds
both_over f g valued rows ns [] = refl
both_over f g valued rows ns (c ∷ cs) = omega (arith, both_at f g valued rows ns c, both_over f g valued rows (step valued rows ns c) cs)

born_none : (ns : List Node) → ghosts_born ns ns ≡ 0
unfolding ghosts_born
born_none ns = how_many_map (born_ghost ns ns) (λ n. n.round) ns ∙ how_many_none _ ns (λ n m. rw (in_present ns m) refl)

-- ---- of one round: a list of its node alone
abbrev is_ghost : ℕ → List Node → ℕ
is_ghost r ns = ghost_nodes (find r ns ∷ [])

abbrev turned : ℕ → List Node → List Node → ℕ
turned r = both (once made_ghost r) (once born_ghost r)

-- an absent round is no GHOST and no ADDED one
absent_once : (r : ℕ) (ns ms : List Node) → present r ns ≡ false → is_ghost r ms ≡ is_ghost r ns + turned r ns ms
absent_once r ns ms h = rw (h, find_absent r ns h) (omega arith)

same_once : (r : ℕ) (ns : List Node) → turned r ns ns ≡ 0
same_once r ns =
    by_test (present r ns)
    (λ t. rw (not_both (find r ns), t) refl)
    (λ t. rw (not_both (find r ns), t, find_absent r ns t) refl)

none_fresh : (r : ℕ) → is_ghost r fresh ≡ 0
unfolding find
none_fresh r = by_test (has_round r root) (λ t. rw t refl) (λ t. rw t refl)

module _ (valued : Bool) (rows : ℕ) where
  -- ---- row by row: the new node alone is born
  born_new : (ns : List Node) (r v p : ℕ) → answer valued rows ns (add r v p) ≡ OK →
      ghosts_born ns (change ns (add r v p)) ≡ ghost_nodes (new_node ns r v p ∷ [])
  unfolding ghosts_born change answer new_node
  born_new ns r v p z =
      let (a, (b, _)) = passed (causes valued rows ns (add r v p)) refl z in
      let ms = map (struck ns r p) ns in
      let n = new_node ns r v p in
      let new : find r (ms ++ n ∷ []) ≡ n = find_new ms [] n (present_changed (struck ns r p) (struck_round ns r p) r ns ∙ b) in
      how_many_map (born_ghost ns (ms ++ n ∷ [])) (λ k. k.round) (ms ++ n ∷ []) ∙
      how_many_append _ ms (n ∷ []) ∙
      rw (none_born (struck ns r p) (struck_round ns r p) ns (ms ++ n ∷ []), b, new) (omega arith)

  rows_changed : (ns : List Node) (c : Call) → Grown valued rows ns → answer valued rows ns c ≡ OK → step valued rows ns c ≡ change ns c →
      ghost_nodes (change ns c) ≡ ghost_nodes ns + at_add (both ghosts_made ghosts_born) valued rows ns c
  unfolding change
  rows_changed ns (add r v p) G z e =
      let f = struck ns r p in
      let n = new_node ns r v p in
      rw e (omega (
        arith,
        how_many_append (has_status GHOST) (map f ns) (n ∷ []),
        ghosts_struck ns r p ns,
        made_changed f (struck_round ns r p) valued rows ns (n ∷ []) G,
        born_new ns r v p z,
      ))
  rows_changed ns (commit r) G z e =
      omega (arith, how_many_map (has_status GHOST) (commit_node r) ns, how_many_same _ _ ns (committed_ghost valued rows ns r G z))

  -- ---- round by round
  once_changed : (s : ℕ) (ns : List Node) (c : Call) → Grown valued rows ns → answer valued rows ns c ≡ OK → step valued rows ns c ≡ change ns c →
      is_ghost s (change ns c) ≡ is_ghost s ns + at_add (turned s) valued rows ns c
  unfolding change
  once_changed s ns (add r v p) G z e =
      rw e
      (by_test (present s ns)
      (λ t.
      rw (find_changed (struck ns r p) (struck_round ns r p) s ns (new_node ns r v p ∷ []) t, t)
      (omega (arith, ghosts_struck ns r p (find s ns ∷ []))))
      (λ t. absent_once s ns _ t))
  once_changed s ns (commit r) G z e =
      by_test (present s ns)
      (λ t.
      let n = find s ns in
      let at : find s (map (commit_node r) ns) ≡ commit_node r n =
      ap (find s) (sym (append-nil (map (commit_node r) ns))) ∙ find_changed (commit_node r) (committed_round r) s ns [] t in
      rw (at, committed_ghost valued rows ns r G z n (find_in s ns t)) (omega arith))
      (λ t.
      let gone = find_absent s (map (commit_node r) ns) (present_changed (commit_node r) (committed_round r) s ns ∙ t) in
      rw (gone, find_absent s ns t) refl)

  -- ---- a call, accepted or refused
  at_call : (g : List Node → ℕ) (f : List Node → List Node → ℕ) →
      ((ns : List Node) (c : Call) → Grown valued rows ns → answer valued rows ns c ≡ OK → step valued rows ns c ≡ change ns c →
      g (change ns c) ≡ g ns + at_add f valued rows ns c) →
      ((ns : List Node) → f ns ns ≡ 0) →
      (ns : List Node) (c : Call) → Grown valued rows ns → g (step valued rows ns c) ≡ g ns + at_add f valued rows ns c
  at_call g f changes stays ns c G =
      by_test (eqb (answer valued rows ns c) OK)
      (λ t. ap g (step_ok valued rows ns c t) ∙ changes ns c G (eqb-true _ OK t) (step_ok valued rows ns c t))
      (λ t.
      let e = step_refused valued rows ns c t in
      omega (arith, ap g e, refused_adds f valued rows ns c e (stays ns)))

  grown_fresh : Grown valued rows fresh
  unfolding after
  grown_fresh = all_grown valued rows []

  pub ghosts_add_up : 0 < rows → (cs : List Call) → GhostsAddUp valued rows cs
  ghosts_add_up pos cs =
      let made-or-born : List Node → List Node → ℕ = both ghosts_made ghosts_born in
      let none : (ns : List Node) → made-or-born ns ns ≡ 0 = λ ns. omega (arith, ghosts_none ns, born_none ns) in
      record {
        rows_are = omega (
          arith,
          adds_up ghost_nodes made-or-born valued rows pos (at_call ghost_nodes made-or-born rows_changed none) fresh grown_fresh cs,
          both_over ghosts_made ghosts_born valued rows fresh cs,
        );
        each_once = λ r. omega (
          arith,
          adds_up (is_ghost r) (turned r) valued rows pos (at_call (is_ghost r) (turned r) (once_changed r) (same_once r)) fresh grown_fresh cs,
          both_over (once made_ghost r) (once born_ghost r) valued rows fresh cs,
          none_fresh r,
        );
      }
