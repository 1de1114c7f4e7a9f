-- One call on rebuilt nodes: it gets OK exactly if the four properties allow it after the accepted calls (and there is a row), and
-- then the nodes are those rebuilt with it. Assumes nothing.
use mathlib.Core.Path.{◌≡◌, refl, sym, ◌∙◌}
use mathlib.Core.Bool.{Bool, true, false, cond, ◌&&◌, ◌||◌, and-false, or-false}
use mathlib.Core.List.Memᴰ.{head as here}
use mathlib.Core.List.Memᴰ.{tail as there}
use mathlib.Core.List.{List, [], ◌∷◌, ◌++◌, append-nil}
use Prim.Native.Nat.{ℕ, suc, ◌+◌, ◌<◌}
use native.Mathlib.Omega.{arith}
use lib.ListN.{length}
use lib.Dec.{ltb, eqb}
use borrow.Author.Tests.{eqb-true, eq-eqb, ne_eqb, le-ltb, not-false, leb-false, lt-leb, ltb-true}
use Rattle.laws.specs.Tests.{by_test, clash, tests, and_right, or_left, same_test}
use Rattle.laws.specs.Lists.{◌∈◌, any, any_snoc, any_intro, any_elim, any_none, none_any, every_snoc}
use Rattle.laws.specs.First.{passed, zero_of}
use Rattle.ids.specs.Ranges.{out_of_range, above_range}
use Rattle.tree_theory.specs.Machine.{Call, add, commit, Node, ADDED, GHOST, COMMITTED, crosses, present, find, above, blocks, other_value}
use Rattle.tree_theory.specs.Machine.{struck, new_node, commit_node, causes, answer, change}
use Rattle.tree_theory.specs.Properties.{history, round_of, adds_in, adds, commits, adds_with, edge_crosses}
use Rattle.tree_theory.specs.Rebuilt.{made, added_nodes, rebuilt}
use Rattle.tree_theory.proofs.Grown.{absent_crossed}
use Rattle.tree_theory.proofs.Paths.{crossing_alone}
use Rattle.tree_theory.proofs.Calls.{NextCall, AddNext, CommitNext, grow, adds_elim, commits_elim, edge_elim, adds_intro, commits_intro}
use Rattle.tree_theory.proofs.Calls.{adds_with_elim, adds_with_intro, committed_added, adds_in_append}
use Rattle.tree_theory.proofs.Rebuilt.{cons_same, history_committed, history_ghost, Story, rebuilt_grown, added_append, length_added}
use Rattle.tree_theory.proofs.Rebuilt.{in_added, of_added, map_added, crossed_rebuilt, present_rebuilt, find_rebuilt, round_positive}

-- an add needs a row beside those used
abbrev pub RowLeft : ℕ → List Call → Call → Type 0
RowLeft rows h (add r v p) = suc (adds_in h) < rows
RowLeft rows h (commit r) = Unit {0}

pub record CallAllowed (valued : Bool) (rows : ℕ) (h : List Call) (c : Call) : Type 0 where
  pub next : NextCall valued h c
  pub ranged : out_of_range (round_of c) ≡ false
  pub room : RowLeft rows h c

in_range_positive : (r : ℕ) → out_of_range r ≡ false → 0 < r
in_range_positive r h = omega (tests, or_left (eqb r 0) (above_range r) h)

-- the history status after one more call
history_add : (h : List Call) (r v p s : ℕ) →
    history (h ++ add r v p ∷ []) s ≡ cond (eqb (history h s) ADDED && crosses r p s) GHOST (history h s)
unfolding history
history_add h r v p s =
    rw (any_snoc (commits s) h (add r v p), or-false, any_snoc (edge_crosses s) h (add r v p))
    (law (eqb s 0 || any (commits s) h) (any (edge_crosses s) h) (crosses r p s))
  where
    law : (a b x : Bool) → cond a COMMITTED (cond (b || x) GHOST ADDED) ≡
        cond (eqb (cond a COMMITTED (cond b GHOST ADDED)) ADDED && x) GHOST (cond a COMMITTED (cond b GHOST ADDED))
    law true b x = refl
    law false true x = refl
    law false false true = refl
    law false false false = refl

history_commit : (h : List Call) (r s : ℕ) → history (h ++ commit r ∷ []) s ≡ cond (eqb s r) COMMITTED (history h s)
unfolding history
history_commit h r s =
    rw (any_snoc (commits s) h (commit r), any_snoc (edge_crosses s) h (commit r), or-false, eqb_sym r s)
    (law (eqb s 0) (any (commits s) h) (eqb s r) (cond (any (edge_crosses s) h) GHOST ADDED))
  where
    eqb_sym : (a b : ℕ) → eqb a b ≡ eqb b a
    eqb_sym a b = same_test (eqb a b) (eqb b a) (λ t. omega tests) (λ t. omega tests)

    law : (a b x : Bool) (y : ℕ) → cond (a || (b || x)) COMMITTED y ≡ cond x COMMITTED (cond (a || b) COMMITTED y)
    law true b true y = refl
    law true b false y = refl
    law false true true y = refl
    law false true false y = refl
    law false false true y = refl
    law false false false y = refl

module _ (valued : Bool) (rows : ℕ) (h : List Call) (S : Story valued rows h) where
  -- no COMMITTED node is crossed exactly if no committed round is
  unblocked : (r p : ℕ) → any (blocks r p) (rebuilt h) ≡ false → (c : ℕ) → commit c ∈ h → crosses r p c ≡ false
  unblocked r p b c m =
      adds_elim c h (committed_added valued h S.properties c m) (λ v p₁ i.
      let pos : 0 < c = round_positive valued rows h S i in
      rw (history_committed h c pos, commits_intro h m) at (any_none (blocks r p) (rebuilt h) b (made h c v p₁) (there (in_added h h i))))

  blocked : (r p : ℕ) → ((c : ℕ) → commit c ∈ h → crosses r p c ≡ false) → any (blocks r p) (rebuilt h) ≡ false
  blocked r p f = none_any (blocks r p) (rebuilt h) each
    where
      each : (n : Node) → n ∈ rebuilt h → blocks r p n ≡ false
      each n (here e) = rw (e, le-ltb p 0 (omega arith)) refl
      each n (there m) = of_added h h m (λ c v p₁ i e.
          rw (e, history_committed h c (round_positive valued rows h S i))
          (by_test (any (commits c) h) (λ t. rw t (commits_elim c h t (f c))) (λ t. rw t refl)))

  -- a present parent with its value, and an earlier add of it
  parent_of : (v p : ℕ) → present p (rebuilt h) ≡ true → (valued && other_value (rebuilt h) v p) ≡ false → 0 < p → any (adds_with valued p v) h ≡ true
  parent_of v p t o pos =
      adds_elim p h (sym (present_rebuilt valued rows h S p pos) ∙ t) (λ w q m.
      adds_with_intro valued v h m (λ e.
      sym (eqb-true v w (not-false (eqb v w) (rw (e, ne_eqb p 0 (omega arith), find_rebuilt valued rows h S m) at o)))))

  of_parent : (v p : ℕ) → (0 < p → any (adds_with valued p v) h ≡ true) → (valued && other_value (rebuilt h) v p) ≡ false
  of_parent v p f =
      by_test (eqb p 0)
      (λ t. rw t (and-false valued))
      (λ t. adds_with_elim valued p v h (f (omega tests)) (λ w q m e.
      by_test valued
      (λ s. rw (s, t, find_rebuilt valued rows h S m, eq-eqb v w (sym (e s))) refl)
      (λ s. rw s refl)))

  present_parent : (v p : ℕ) → (0 < p → any (adds_with valued p v) h ≡ true) → present p (rebuilt h) ≡ true
  present_parent v p f =
      by_test (eqb 0 p)
      (λ t. rw t refl)
      (λ t. present_rebuilt valued rows h S p (omega tests) ∙ adds_with_elim valued p v h (f (omega tests)) (λ w q m e. adds_intro h m))

  pub ok_allowed : (c : Call) → answer valued rows (rebuilt h) c ≡ 0 → CallAllowed valued rows h c
  unfolding answer
  ok_allowed (add r v p) z =
      let (a3, (a4, (a5, (a6, (a7, (a8, (a9, _))))))) = passed (causes valued rows (rebuilt h) (add r v p)) refl z in
      let pos : 0 < r = in_range_positive r a3 in
      record {
        next = record {
          new = sym (present_rebuilt valued rows h S r pos) ∙ a4;
          lower = leb-false r p a6;
          parent = parent_of v p (not-false (present p (rebuilt h)) a5) a7;
          clear = unblocked r p a8;
        };
        ranged = a3;
        room = omega (arith, leb-false rows (length (rebuilt h)) a9, length_added h h);
      }
  ok_allowed (commit r) z =
      let (a3, (a10, (a11, (a12, _)))) = passed (causes valued rows (rebuilt h) (commit r)) refl z in
      let pos : 0 < r = in_range_positive r a3 in
      let there_in : any (adds r) h ≡ true = sym (present_rebuilt valued rows h S r pos) ∙ not-false (present r (rebuilt h)) a10 in
      adds_elim r h there_in (λ v p m.
      let f : find r (rebuilt h) ≡ made h r v p = find_rebuilt valued rows h S m in
      let new : any (commits r) h ≡ false = sym (history_committed h r pos) ∙ rw f at a11 in
      record {
        next = record {
          follows = there_in;
          new = new;
          clear = sym (history_ghost h r pos new) ∙ rw f at a12;
        };
        ranged = a3;
        room = tt;
      })

  pub allowed_ok : (c : Call) → CallAllowed valued rows h c → answer valued rows (rebuilt h) c ≡ 0
  unfolding answer
  allowed_ok (add r v p) A =
      let N : AddNext valued h r v p = A.next in
      let pos : 0 < r = in_range_positive r A.ranged in
      zero_of (causes valued rows (rebuilt h) (add r v p)) (
        A.ranged,
        (
          present_rebuilt valued rows h S r pos ∙ N.new,
          (
            rw (present_parent v p N.parent) refl,
            (
              lt-leb r p N.lower,
              (of_parent v p N.parent, (blocked r p N.clear, (lt-leb rows (length (rebuilt h)) (omega (arith, length_added h h, A.room)), tt))),
            ),
          ),
        ),
      )
  allowed_ok (commit r) A =
      let N : CommitNext h r = A.next in
      let pos : 0 < r = in_range_positive r A.ranged in
      adds_elim r h N.follows (λ v p m.
      let f : find r (rebuilt h) ≡ made h r v p = find_rebuilt valued rows h S m in
      zero_of (causes valued rows (rebuilt h) (commit r)) (
        A.ranged,
        (
          rw (present_rebuilt valued rows h S r pos, N.follows) refl,
          (rw f (history_committed h r pos ∙ N.new), (rw f (history_ghost h r pos N.new ∙ N.clear), tt)),
        ),
      ))

  pub story_next : (c : Call) → CallAllowed valued rows h c → Story valued rows (h ++ c ∷ [])
  unfolding adds_in
  story_next c A = record {
    properties = grow valued h c S.properties A.next;
    ranged = every_snoc (λ a. out_of_range (round_of a) ≡ false) h c S.ranged A.ranged;
    room = λ pos. rw (adds_in_append h (c ∷ [])) (fits c A.room (S.room pos));
  }
    where
      fits : (c : Call) → RowLeft rows h c → adds_in h < rows → adds_in h + adds_in (c ∷ []) < rows
      fits (add r v p) a b = omega arith
      fits (commit r) a b = omega arith

  struck_made : (r v p : ℕ) → CallAllowed valued rows h (add r v p) → (s w q : ℕ) → add s w q ∈ h →
      struck (rebuilt h) r p (made h s w q) ≡ made (h ++ add r v p ∷ []) s w q
  unfolding struck
  struck_made r v p A s w q m =
      let N : AddNext valued h r v p = A.next in
      rw (
        crossing_alone valued rows (rebuilt h) (rebuilt_grown valued rows h S) r p (present_parent v p N.parent) N.lower (made h s w q)
            (there (in_added h h m)),
        history_add h r v p s,
      )
      (by_test (eqb (history h s) ADDED && crosses r p s) (λ t. rw t refl) (λ t. rw t refl))

  -- a round above an absent one shows that an edge crosses it
  above_crossed : (r : ℕ) → 0 < r → any (adds r) h ≡ false → any (above r) (rebuilt h) ≡ any (edge_crosses r) h
  above_crossed r pos new = same_test (any (above r) (rebuilt h)) (any (edge_crosses r) h)
      (λ t. any_elim (above r) (rebuilt h) t (λ n m e.
      sym (crossed_rebuilt valued rows h S r) ∙
      absent_crossed valued rows (rebuilt h) (rebuilt_grown valued rows h S) r n m (ltb-true r n.round e) (present_rebuilt valued rows h S r pos ∙ new)))
      (λ t. edge_elim r h t (λ s v p m e. any_intro (above r) (rebuilt h) (there (in_added h h m)) (and_right (ltb p r) (ltb r s) e)))

  new_made : (r v p : ℕ) → CallAllowed valued rows h (add r v p) → new_node (rebuilt h) r v p ≡ made (h ++ add r v p ∷ []) r v p
  unfolding new_node history
  new_made r v p A =
      let N : AddNext valued h r v p = A.next in
      let pos : 0 < r = in_range_positive r A.ranged in
      let no-commit : any (commits r) h ≡ false = uncommitted r N.new in
      rw (
        above_crossed r pos N.new,
        any_snoc (commits r) h (add r v p),
        any_snoc (edge_crosses r) h (add r v p),
        ne_eqb r 0 (omega arith),
        no-commit,
        le-ltb r r (omega arith),
        and-false (ltb p r),
        or-false,
      )
      refl
    where
      uncommitted : (r : ℕ) → any (adds r) h ≡ false → any (commits r) h ≡ false
      uncommitted r n = by_test (any (commits r) h) (λ t. commits_elim r h t (λ m. clash (committed_added valued h S.properties r m) n)) (λ t. t)

  committed_made : (r : ℕ) (s w q : ℕ) → commit_node r (made h s w q) ≡ made (h ++ commit r ∷ []) s w q
  unfolding commit_node
  committed_made r s w q =
      rw (history_commit h r s)
      (by_test (eqb s r) (λ t. rw t refl) (λ t. rw t refl))

  pub changed : (c : Call) → CallAllowed valued rows h c → change (rebuilt h) c ≡ rebuilt (h ++ c ∷ [])
  unfolding change struck commit_node added_nodes
  changed (add r v p) A =
      cons_same refl
      (rw (
        added_append (h ++ add r v p ∷ []) h (add r v p ∷ []),
        map_added h (h ++ add r v p ∷ []) (struck (rebuilt h) r p) h (struck_made r v p A),
        new_made r v p A,
      ) refl)
  changed (commit r) A =
      cons_same (rw (ne_eqb 0 r (omega (arith, in_range_positive r A.ranged))) refl)
      (rw (
        added_append (h ++ commit r ∷ []) h (commit r ∷ []),
        append-nil,
        map_added h (h ++ commit r ∷ []) (commit_node r) h (λ s w q m. committed_made r s w q),
      ) refl)
