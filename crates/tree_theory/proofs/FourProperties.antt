-- With rounds in range and a row for each add, each call of a list from fresh gets OK exactly if the list has the four properties.
-- Assumes nothing.
use mathlib.Core.Path.{◌≡◌, refl, ap, ◌∙◌, subst}
use mathlib.Core.Bool.{Bool}
use mathlib.Core.List.Memᴰ
use mathlib.Core.List.Memᴰ.{head as here}
use mathlib.Core.List.Memᴰ.{tail as there}
use mathlib.Core.List.{List, [], ◌∷◌, ◌++◌}
use mathlib.Core.Logic.{◌↔◌}
use Prim.Native.Nat.{ℕ, ◌<◌}
use native.Mathlib.Omega.{arith}
use lib.Seq.{append_snoc}
use borrow.Author.Tests.{eq-eqb}
use Rattle.laws.specs.Lists.{◌∈◌, in_cut}
use Rattle.tree_theory.specs.Machine.{Call, add, commit, Node, fresh, answer, step, answers, after}
use Rattle.tree_theory.specs.Properties.{Properties, InRange, AllOk, adds_in}
use Rattle.tree_theory.specs.Rebuilt.{with_ok, accepted}
use Rattle.tree_theory.proofs.Calls.{prefix, next_of, adds_in_append}
use Rattle.tree_theory.proofs.Accepted.{CallAllowed, RowLeft, allowed_ok}
use Rattle.tree_theory.proofs.History.{Told, told_of, told_fresh, told_next, accepted_ok}

-- if each call gets OK, all are accepted
pub all_accepted : (valued : Bool) (rows : ℕ) (ns : List Node) (cs : List Call) →
    ((n : ℕ) → n ∈ answers valued rows ns cs → n ≡ 0) → accepted valued rows ns cs ≡ cs
unfolding answers with_ok
all_accepted valued rows ns [] f = refl
all_accepted valued rows ns (c ∷ cs) f =
    accepted_ok valued rows ns c cs (eq-eqb (answer valued rows ns c) 0 (f (answer valued rows ns c) (here refl))) ∙
    ap (λ l. c ∷ l) (all_accepted valued rows (step valued rows ns c) cs (λ n m. f n (there m)))

room_for : (rows : ℕ) (h : List Call) (c : Call) (k : List Call) → adds_in (h ++ c ∷ k) < rows → RowLeft rows h c
unfolding adds_in
room_for rows h (add r v p) k b = omega (arith, adds_in_append h (add r v p ∷ k))
room_for rows h (commit r) k b = tt

each_ok : (valued : Bool) (rows : ℕ) (k h : List Call) (ns : List Node) → Told valued rows h ns →
    Properties valued (h ++ k) → InRange (h ++ k) → adds_in (h ++ k) < rows → (n : ℕ) → n ∈ answers valued rows ns k → n ≡ 0
unfolding answers
each_ok valued rows [] h ns T P I b n m = elim m [ ]
each_ok valued rows (c ∷ k) h ns T P I b n m =
    pick (λ i. each_ok valued rows k (h ++ c ∷ []) (step valued rows ns c)
    (told_next valued rows h ns c T (eq-eqb (answer valued rows ns c) 0 z))
    (rw e P) (rw e I) (rw e b) n i) m
  where
    A : CallAllowed valued rows h c
    A = record { next = next_of valued h c k P; ranged = I c (in_cut h c k); room = room_for rows h c k b }

    z : answer valued rows ns c ≡ 0
    z = rw T.nodes (allowed_ok valued rows h T.story c A)

    e : (h ++ c ∷ []) ++ k ≡ h ++ c ∷ k
    e = append_snoc h c k

    pick : (n ∈ answers valued rows (step valued rows ns c) k → n ≡ 0) → n ∈ answer valued rows ns c ∷ answers valued rows (step valued rows ns c) k → n ≡ 0
    pick rest (here q) = q ∙ z
    pick rest (there i) = rest i

-- a list that gets OK throughout is the story of what it leaves
pub told_ok : (valued : Bool) (rows : ℕ) (cs : List Call) → AllOk valued rows cs → Told valued rows cs (after valued rows fresh cs)
told_ok valued rows cs f =
    subst (λ h. Told valued rows h (after valued rows fresh cs)) (all_accepted valued rows fresh cs f) (told_of valued rows cs)

-- OK to each call exactly if the four properties hold
pub ok_exactly : (valued : Bool) (rows : ℕ) (cs : List Call) → InRange cs → adds_in cs < rows → AllOk valued rows cs ↔ Properties valued cs
ok_exactly valued rows cs I b = (
  λ f. (told_ok valued rows cs f).story.properties,
  λ P. each_ok valued rows cs [] fresh (told_fresh valued rows) P I b,
)

-- one more call after a list that gets OK throughout
pub next_ok : (valued : Bool) (rows : ℕ) (cs : List Call) (c : Call) → Properties valued (cs ++ c ∷ []) → InRange (cs ++ c ∷ []) →
    adds_in (cs ++ c ∷ []) < rows → answer valued rows (after valued rows fresh cs) c ≡ 0
next_ok valued rows cs c P I b =
    let ok : AllOk valued rows cs =
    each_ok valued rows cs [] fresh (told_fresh valued rows) (prefix valued cs (c ∷ []) P)
    (λ a m. I a (Memᴰ.append_left (c ∷ []) m)) (omega (arith, adds_in_append cs (c ∷ []))) in
    let T : Told valued rows cs (after valued rows fresh cs) = told_ok valued rows cs ok in
    let A : CallAllowed valued rows cs c = record { next = next_of valued cs c [] P; ranged = I c (in_cut cs c []); room = room_for rows cs c [] b } in
    rw T.nodes (allowed_ok valued rows cs T.story c A)
