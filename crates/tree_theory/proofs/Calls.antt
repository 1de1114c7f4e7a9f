-- The four properties call by call: a list has them exactly if each call has, beside the calls before it, what `Next` says.
-- Assumes nothing.
use mathlib.Core.Path.{◌≡◌, refl, sym, ap, ◌∙◌, subst}
use mathlib.Core.Bool.{Bool, true, false, ◌||◌, not}
use mathlib.Core.List.Memᴰ
use mathlib.Core.List.Memᴰ.{head as here}
use mathlib.Core.List.Memᴰ.{tail as there}
use mathlib.Core.List.{List, [], ◌∷◌, ◌++◌, append_assoc}
use mathlib.Core.Logic.{⊎_elim}
use Prim.Native.Nat.{ℕ, ◌+◌, ◌<◌}
use native.Mathlib.Omega.{arith}
use lib.Dec.{eqb}
use borrow.Author.Tests.{eqb-true, eq-eqb}
use Rattle.laws.specs.Tests.{by_test, clash, impossible, or_left, and_left, and_right}
use Rattle.laws.specs.Lists.{◌∈◌, any, any_append, any_intro, any_elim, any_none, none_any, by_last, cut, in_cut, snoc_cut}
use Rattle.tree_theory.specs.Machine.{Call, add, commit, crosses}
use Rattle.tree_theory.specs.Properties.{Properties, adds, commits, adds_with, edge_crosses, adds_in}

pub add_inj : {r v p r' v' p' : ℕ} → add r v p ≡ add r' v' p' → (r ≡ r') × (v ≡ v') × (p ≡ p')
add_inj e = ((cc), (cc), (cc))

-- an add of round c among the calls, handed on; and a commit
pub adds_elim {κ} : {C : Type κ} (c : ℕ) (h : List Call) → any (adds c) h ≡ true → ((v p : ℕ) → add c v p ∈ h → C) → C
adds_elim {C = C} c h t f = any_elim (adds c) h t pick
  where
    pick : (a : Call) → a ∈ h → adds c a ≡ true → C
    pick (add r v p) m e = f v p (subst (λ x. add x v p ∈ h) (eqb-true r c e) m)
    pick (commit r) m e = clash e refl

pub commits_elim {κ} : {C : Type κ} (c : ℕ) (h : List Call) → any (commits c) h ≡ true → (commit c ∈ h → C) → C
commits_elim {C = C} c h t f = any_elim (commits c) h t pick
  where
    pick : (a : Call) → a ∈ h → commits c a ≡ true → C
    pick (add r v p) m e = clash e refl
    pick (commit r) m e = f (subst (λ x. commit x ∈ h) (eqb-true r c e) m)

pub edge_elim {κ} : {C : Type κ} (c : ℕ) (h : List Call) → any (edge_crosses c) h ≡ true → ((r v p : ℕ) → add r v p ∈ h → crosses r p c ≡ true → C) → C
edge_elim {C = C} c h t f = any_elim (edge_crosses c) h t pick
  where
    pick : (a : Call) → a ∈ h → edge_crosses c a ≡ true → C
    pick (add r v p) m e = f r v p m e
    pick (commit r) m e = clash e refl

pub adds_with_elim {κ} : {C : Type κ} (valued : Bool) (c w : ℕ) (h : List Call) → any (adds_with valued c w) h ≡ true →
    ((v p : ℕ) → add c v p ∈ h → (valued ≡ true → v ≡ w) → C) → C
adds_with_elim {C = C} valued c w h t f = any_elim (adds_with valued c w) h t pick
  where
    same : (v : ℕ) → (not valued || eqb v w) ≡ true → valued ≡ true → v ≡ w
    same v e q = eqb-true v w (rw q at e)

    pick : (a : Call) → a ∈ h → adds_with valued c w a ≡ true → C
    pick (add r v p) m e =
        f v p (subst (λ x. add x v p ∈ h) (eqb-true r c (and_left (eqb r c) (not valued || eqb v w) e)) m)
        (same v (and_right (eqb r c) (not valued || eqb v w) e))
    pick (commit r) m e = clash e refl

pub adds_with_intro : (valued : Bool) {c v p : ℕ} (w : ℕ) (h : List Call) → add c v p ∈ h → (valued ≡ true → v ≡ w) → any (adds_with valued c w) h ≡ true
adds_with_intro valued {c} {v} {p} w h m e =
    any_intro (adds_with valued c w) h m
    (by_test valued (λ t. rw (t, eq-eqb c c refl, eq-eqb v w (e t)) refl) (λ t. rw (t, eq-eqb c c refl) refl))

pub adds_intro : {r v p : ℕ} (h : List Call) → add r v p ∈ h → any (adds r) h ≡ true
adds_intro {r} h m = any_intro (adds r) h m (eq-eqb r r refl)

pub commits_intro : {r : ℕ} (h : List Call) → commit r ∈ h → any (commits r) h ≡ true
commits_intro {r} h m = any_intro (commits r) h m (eq-eqb r r refl)

-- what the four properties ask of one more call after the calls h
pub record AddNext (valued : Bool) (h : List Call) (r v p : ℕ) : Type 0 where
  pub new : any (adds r) h ≡ false
  pub lower : p < r
  pub parent : 0 < p → any (adds_with valued p v) h ≡ true
  pub clear : (c : ℕ) → commit c ∈ h → crosses r p c ≡ false

pub record CommitNext (h : List Call) (r : ℕ) : Type 0 where
  pub follows : any (adds r) h ≡ true
  pub new : any (commits r) h ≡ false
  pub clear : any (edge_crosses r) h ≡ false

abbrev pub NextCall : Bool → List Call → Call → Type 0
NextCall valued h (add r v p) = AddNext valued h r v p
NextCall valued h (commit r) = CommitNext h r

pub none : (valued : Bool) → Properties valued []
none valued = record {
  one_add = λ pre post r v p e. absurd (no_cut pre post (add r v p) e);
  one_commit = λ pre post r e. absurd (no_cut pre post (commit r) e);
  follows = λ pre post r e. absurd (no_cut pre post (commit r) e);
  lower = λ r v p m. elim m [ ];
  parent = λ pre post r v p e h. absurd (no_cut pre post (add r v p) e);
  uncrossed = λ r v p c m k. elim m [ ];
}
  where
    no_cut : (pre post : List Call) (c : Call) → [] ≡ pre ++ c ∷ post → ⊥
    no_cut [] post c e = impossible (cc)
    no_cut (x ∷ pre) post c e = impossible (cc)

-- no edge crosses a committed round
pub committed_uncrossed : (valued : Bool) (h : List Call) → Properties valued h → (r : ℕ) → commit r ∈ h → any (edge_crosses r) h ≡ false
committed_uncrossed valued h P r m = none_any (edge_crosses r) h each
  where
    each : (a : Call) → a ∈ h → edge_crosses r a ≡ false
    each (add s v p) i = P.uncrossed s v p r i m
    each (commit s) i = refl

-- the properties pass to what stands in front
pub prefix : (valued : Bool) (h k : List Call) → Properties valued (h ++ k) → Properties valued h
prefix valued h k P = record {
  one_add = λ pre post r v p e. P.one_add pre (post ++ k) r v p (longer pre post (add r v p) e);
  one_commit = λ pre post r e. P.one_commit pre (post ++ k) r (longer pre post (commit r) e);
  follows = λ pre post r e. P.follows pre (post ++ k) r (longer pre post (commit r) e);
  lower = λ r v p m. P.lower r v p (Memᴰ.append_left k m);
  parent = λ pre post r v p e. P.parent pre (post ++ k) r v p (longer pre post (add r v p) e);
  uncrossed = λ r v p c m n. P.uncrossed r v p c (Memᴰ.append_left k m) (Memᴰ.append_left k n);
}
  where
    longer : (pre post : List Call) (c : Call) → h ≡ pre ++ c ∷ post → h ++ k ≡ pre ++ c ∷ (post ++ k)
    longer pre post c e = ap (λ l. l ++ k) e ∙ append_assoc pre (c ∷ post) k

pub next_of : (valued : Bool) (h : List Call) (c : Call) (k : List Call) → Properties valued (h ++ c ∷ k) → NextCall valued h c
next_of valued h (add r v p) k P = record {
  new = P.one_add h k r v p refl;
  lower = P.lower r v p (in_cut h (add r v p) k);
  parent = P.parent h k r v p refl;
  clear = λ c m. P.uncrossed r v p c (in_cut h (add r v p) k) (Memᴰ.append_left (add r v p ∷ k) m);
}
next_of valued h (commit r) k P = record {
  follows = P.follows h k r refl;
  new = P.one_commit h k r refl;
  clear = or_left (any (edge_crosses r) h) (any (edge_crosses r) (commit r ∷ k))
      (sym (any_append (edge_crosses r) h (commit r ∷ k)) ∙ committed_uncrossed valued (h ++ commit r ∷ k) P r (in_cut h (commit r) k));
}

pub grow : (valued : Bool) (h : List Call) (c : Call) → Properties valued h → NextCall valued h c → Properties valued (h ++ c ∷ [])
grow valued h (add r v p) P N = record {
  one_add = λ pre post r₁ v₁ p₁ e. snoc_cut h pre post (add r v p) (add r₁ v₁ p₁) e
      (λ rest q z. P.one_add pre rest r₁ v₁ p₁ q)
      (λ q z w. let s : r ≡ r₁ = cc in rw (← q, ← s) N.new);
  one_commit = λ pre post r₁ e. snoc_cut h pre post (add r v p) (commit r₁) e
      (λ rest q z. P.one_commit pre rest r₁ q)
      (λ q z w. impossible (cc));
  follows = λ pre post r₁ e. snoc_cut h pre post (add r v p) (commit r₁) e
      (λ rest q z. P.follows pre rest r₁ q)
      (λ q z w. impossible (cc));
  lower = λ r₁ v₁ p₁ m. by_last h m (P.lower r₁ v₁ p₁) (λ e. omega (arith, N.lower, add_inj e));
  parent = λ pre post r₁ v₁ p₁ e g. snoc_cut h pre post (add r v p) (add r₁ v₁ p₁) e
      (λ rest q z. P.parent pre rest r₁ v₁ p₁ q g)
      (λ q z w. let s : p ≡ p₁ = cc in let u : v ≡ v₁ = cc in rw (← q, ← s, ← u) (N.parent (omega arith)));
  uncrossed = λ r₁ v₁ p₁ c m k. by_last h k
      (λ i. by_last h m (λ j. P.uncrossed r₁ v₁ p₁ c j i)
      (λ e. let s : r₁ ≡ r = cc in let u : p₁ ≡ p = cc in rw (s, u) (N.clear c i)))
      (λ e. impossible (cc));
}
grow valued h (commit r) P N = record {
  one_add = λ pre post r₁ v₁ p₁ e. snoc_cut h pre post (commit r) (add r₁ v₁ p₁) e
      (λ rest q z. P.one_add pre rest r₁ v₁ p₁ q)
      (λ q z w. impossible (cc));
  one_commit = λ pre post r₁ e. snoc_cut h pre post (commit r) (commit r₁) e
      (λ rest q z. P.one_commit pre rest r₁ q)
      (λ q z w. let s : r ≡ r₁ = cc in rw (← q, ← s) N.new);
  follows = λ pre post r₁ e. snoc_cut h pre post (commit r) (commit r₁) e
      (λ rest q z. P.follows pre rest r₁ q)
      (λ q z w. let s : r ≡ r₁ = cc in rw (← q, ← s) N.follows);
  lower = λ r₁ v₁ p₁ m. by_last h m (P.lower r₁ v₁ p₁) (λ e. impossible (cc));
  parent = λ pre post r₁ v₁ p₁ e g. snoc_cut h pre post (commit r) (add r₁ v₁ p₁) e
      (λ rest q z. P.parent pre rest r₁ v₁ p₁ q g)
      (λ q z w. impossible (cc));
  uncrossed = λ r₁ v₁ p₁ c m k. by_last h m
      (λ j. by_last h k (λ i. P.uncrossed r₁ v₁ p₁ c j i)
      (λ e. let s : c ≡ r = cc in rw s (any_none (edge_crosses r) h N.clear (add r₁ v₁ p₁) j)))
      (λ e. impossible (cc));
}

-- a round is added with one value and one parent
pub unique : (valued : Bool) (h : List Call) → Properties valued h → (r v p v' p' : ℕ) → add r v p ∈ h → add r v' p' ∈ h → (v ≡ v') × (p ≡ p')
unique valued h P r v p v' p' m n =
    cut m (λ pre post e. ⊎_elim
    (λ i. clash (adds_intro pre i) (P.one_add pre post r v p e))
    (λ i. later pre post e i)
    (Memᴰ.append_cases pre (subst (λ l. add r v' p' ∈ l) e n)))
  where
    later : (pre post : List Call) → h ≡ pre ++ add r v p ∷ post → add r v' p' ∈ add r v p ∷ post → (v ≡ v') × (p ≡ p')
    later pre post e (here q) = ((cc), (cc))
    later pre post e (there i) = cut i (λ pre₂ post₂ e₂.
        clash (adds_intro (pre ++ add r v p ∷ pre₂) (in_cut pre (add r v p) pre₂))
        (P.one_add (pre ++ add r v p ∷ pre₂) post₂ r v' p'
        (e ∙ ap (λ l. pre ++ add r v p ∷ l) e₂ ∙ sym (append_assoc pre (add r v p ∷ pre₂) (add r v' p' ∷ post₂)))))

-- a committed round is added
pub committed_added : (valued : Bool) (h : List Call) → Properties valued h → (r : ℕ) → commit r ∈ h → any (adds r) h ≡ true
committed_added valued h P r m =
    cut m (λ pre post e. rw (e, any_append (adds r) pre (commit r ∷ post), P.follows pre post r e) refl)

pub adds_in_append : (h k : List Call) → adds_in (h ++ k) ≡ adds_in h + adds_in k
unfolding adds_in
adds_in_append [] k = omega arith
adds_in_append (add r v p ∷ h) k = omega (arith, adds_in_append h k)
adds_in_append (commit r ∷ h) k = adds_in_append h k
