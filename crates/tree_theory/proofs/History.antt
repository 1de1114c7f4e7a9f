-- After any list of calls from fresh, refused ones included, the nodes are those rebuilt from the accepted calls. By induction on the list, with the
-- calls accepted so far. Assumes nothing.
use mathlib.Core.Path.{◌≡◌, refl, sym, ap, ◌∙◌, subst}
use mathlib.Core.Bool.{Bool, true, false}
use mathlib.Core.List.{List, [], ◌∷◌, ◌++◌, append-nil}
use Prim.Native.Nat.{ℕ}
use lib.Dec.{eqb}
use lib.Seq.{append_snoc}
use borrow.Author.Tests.{eqb-true}
use Rattle.laws.specs.Tests.{by_test}
use Rattle.tree_theory.specs.Machine.{Call, Node, fresh, answer, answers, change, step, after}
use Rattle.tree_theory.specs.Properties.{adds_in}
use Rattle.tree_theory.specs.Rebuilt.{with_ok, accepted, added_nodes, rebuilt, ToldNodes}
use Rattle.tree_theory.proofs.Grown.{Grown}
use Rattle.tree_theory.proofs.Calls.{none}
use Rattle.tree_theory.proofs.Rebuilt.{Story, rebuilt_grown}
use Rattle.tree_theory.proofs.Accepted.{CallAllowed, ok_allowed, story_next, changed}

pub step_ok : (valued : Bool) (rows : ℕ) (ns : List Node) (c : Call) → eqb (answer valued rows ns c) 0 ≡ true → step valued rows ns c ≡ change ns c
unfolding step
step_ok valued rows ns c t = rw t refl

pub step_refused : (valued : Bool) (rows : ℕ) (ns : List Node) (c : Call) → eqb (answer valued rows ns c) 0 ≡ false → step valued rows ns c ≡ ns
unfolding step
step_refused valued rows ns c t = rw t refl

pub accepted_ok : (valued : Bool) (rows : ℕ) (ns : List Node) (c : Call) (cs : List Call) → eqb (answer valued rows ns c) 0 ≡ true →
    accepted valued rows ns (c ∷ cs) ≡ c ∷ accepted valued rows (step valued rows ns c) cs
unfolding answers with_ok
accepted_ok valued rows ns c cs t = rw t refl

accepted_refused : (valued : Bool) (rows : ℕ) (ns : List Node) (c : Call) (cs : List Call) → eqb (answer valued rows ns c) 0 ≡ false →
    accepted valued rows ns (c ∷ cs) ≡ accepted valued rows (step valued rows ns c) cs
unfolding answers with_ok
accepted_refused valued rows ns c cs t = rw t refl

-- nodes that a story tells
pub record Told (valued : Bool) (rows : ℕ) (h : List Call) (ns : List Node) : Type 0 where
  pub story : Story valued rows h
  pub nodes : ns ≡ rebuilt h

pub told_fresh : (valued : Bool) (rows : ℕ) → Told valued rows [] fresh
unfolding added_nodes adds_in
told_fresh valued rows = record {
  story = record { properties = none valued; ranged = λ c m. elim m [ ]; room = λ pos. pos };
  nodes = refl;
}

-- an accepted call goes behind the story
pub told_next : (valued : Bool) (rows : ℕ) (h : List Call) (ns : List Node) (c : Call) → Told valued rows h ns →
    eqb (answer valued rows ns c) 0 ≡ true → Told valued rows (h ++ c ∷ []) (step valued rows ns c)
told_next valued rows h ns c T t =
    let S : Story valued rows h = T.story in
    let z : answer valued rows (rebuilt h) c ≡ 0 = rw T.nodes at (eqb-true (answer valued rows ns c) 0 t) in
    let A : CallAllowed valued rows h c = ok_allowed valued rows h S c z in
    record {
      story = story_next valued rows h S c A;
      nodes = step_ok valued rows ns c t ∙ ap (λ l. change l c) T.nodes ∙ changed valued rows h S c A;
    }

told_all : (valued : Bool) (rows : ℕ) (cs h : List Call) (ns : List Node) → Told valued rows h ns →
    Told valued rows (h ++ accepted valued rows ns cs) (after valued rows ns cs)
unfolding after answers with_ok
told_all valued rows [] h ns T = rw (append-nil h) T
told_all valued rows (c ∷ cs) h ns T =
    by_test (eqb (answer valued rows ns c) 0)
    (λ t. let e : h ++ accepted valued rows ns (c ∷ cs) ≡ (h ++ c ∷ []) ++ accepted valued rows (step valued rows ns c) cs =
    ap (λ l. h ++ l) (accepted_ok valued rows ns c cs t) ∙ sym (append_snoc h c (accepted valued rows (step valued rows ns c) cs)) in
    subst (λ l. Told valued rows l (after valued rows (step valued rows ns c) cs)) (sym e)
    (told_all valued rows cs (h ++ c ∷ []) (step valued rows ns c) (told_next valued rows h ns c T t)))
    (λ t. let e : h ++ accepted valued rows ns (c ∷ cs) ≡ h ++ accepted valued rows (step valued rows ns c) cs =
    ap (λ l. h ++ l) (accepted_refused valued rows ns c cs t) in
    subst (λ l. Told valued rows l (after valued rows (step valued rows ns c) cs)) (sym e)
    (told_all valued rows cs h (step valued rows ns c) (rw (step_refused valued rows ns c t) T)))

pub told_of : (valued : Bool) (rows : ℕ) (cs : List Call) → Told valued rows (accepted valued rows fresh cs) (after valued rows fresh cs)
told_of valued rows cs = told_all valued rows cs [] fresh (told_fresh valued rows)

pub told_grown : (valued : Bool) (rows : ℕ) (h : List Call) (ns : List Node) → Told valued rows h ns → Grown valued rows ns
told_grown valued rows h ns T = rw T.nodes (rebuilt_grown valued rows h T.story)

-- what holds of the nodes that any list of calls leaves
pub all_grown : (valued : Bool) (rows : ℕ) (cs : List Call) → Grown valued rows (after valued rows fresh cs)
all_grown valued rows cs = told_grown valued rows (accepted valued rows fresh cs) (after valued rows fresh cs) (told_of valued rows cs)

-- after any list of calls the nodes are those of the accepted calls, each with the status that their history gives
pub history_status : (valued : Bool) (rows : ℕ) (cs : List Call) → ToldNodes valued rows cs
history_status valued rows cs = (told_of valued rows cs).nodes
