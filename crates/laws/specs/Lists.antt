-- Lists: membership, "some element passes", how many pass, an element put at the end, cuts, lists mapped.
use Rattle.std.specs.Prelude.{◌≡◌, refl, Bool, true, false, cond, ◌&&◌, ◌||◌, ℕ, suc, ◌+◌, ◌≤◌, length}
use Rattle.std.proofs.Common.{sym, ap, ⊎_elim, arith}
use Rattle.std.proofs.Math.Bool.{or_assoc, or-false}
use mathlib.Core.List.Memᴰ
use mathlib.Core.List.Memᴰ.{head as here}
use mathlib.Core.List.Memᴰ.{tail as there}
use mathlib.Core.List.{List, [], ◌∷◌, ◌++◌, map, Memᴰ}
use Rattle.laws.specs.Tests.{by_test, clash, impossible, or_cases, or_left, or_right}

infix 20 ◌∈◌
abbrev pub ◌∈◌ {ℓ} : {A : Type ℓ} → A → List A → Type ℓ
a ∈ l = Memᴰ a l

module _ {ℓ} {A : Type ℓ} where
  -- some element passes the test
  abbrev pub any : (A → Bool) → List A → Bool
  any p [] = false
  any p (x ∷ l) = p x || any p l

  pub any_append : (p : A → Bool) (l k : List A) → any p (l ++ k) ≡ (any p l || any p k)
  any_append p [] k = refl
  any_append p (x ∷ l) k = rw (any_append p l k) (sym (or_assoc (p x) (any p l) (any p k)))

  pub any_snoc : (p : A → Bool) (l : List A) (x : A) → any p (l ++ x ∷ []) ≡ (any p l || p x)
  any_snoc p l x = rw (any_append p l (x ∷ [])) (ap (λ b. any p l || b) (or-false (p x)))

  pub any_intro : (p : A → Bool) (l : List A) {a : A} → a ∈ l → p a ≡ true → any p l ≡ true
  any_intro p (x ∷ l) (here e) h = rw (← e, h) refl
  any_intro p (x ∷ l) (there m) h = by_test (p x) (λ t. rw t refl) (λ t. rw t (any_intro p l m h))
  any_intro p [] {a = a} x'' h = elim x'' [ ]

  -- an element that passes, handed on
  pub any_elim {κ} : {C : Type κ} (p : A → Bool) (l : List A) → any p l ≡ true → ((a : A) → a ∈ l → p a ≡ true → C) → C
  any_elim p [] h f = clash h refl
  any_elim p (x ∷ l) h f =
      or_cases (p x) (any p l) h (λ t. f x (here refl) t) (λ t. any_elim p l t (λ a m e. f a (there m) e))

  -- none passes
  pub any_none : (p : A → Bool) (l : List A) → any p l ≡ false → (a : A) → a ∈ l → p a ≡ false
  any_none p (x ∷ l) h a (here e) = rw e (or_left (p x) (any p l) h)
  any_none p (x ∷ l) h a (there m) = any_none p l (or_right (p x) (any p l) h) a m
  any_none p [] h a x'' = elim x'' [ ]

  pub none_any : (p : A → Bool) (l : List A) → ((a : A) → a ∈ l → p a ≡ false) → any p l ≡ false
  none_any p [] f = refl
  none_any p (x ∷ l) f = rw (f x (here refl)) (none_any p l (λ a m. f a (there m)))

  -- how many elements pass the test
  abbrev pub how_many : (A → Bool) → List A → ℕ
  how_many p [] = 0
  how_many p (x ∷ l) = cond (p x) (suc (how_many p l)) (how_many p l)

  pub how_many_append : (p : A → Bool) (l k : List A) → how_many p (l ++ k) ≡ how_many p l + how_many p k
  how_many_append p [] k = omega arith
  how_many_append p (x ∷ l) k =
      by_test (p x) (λ t. rw t (omega (arith, how_many_append p l k))) (λ t. rw t (how_many_append p l k))

  pub how_many_most : (p : A → Bool) (l : List A) → how_many p l ≤ length l
  how_many_most p [] = omega arith
  how_many_most p (x ∷ l) = let h = how_many_most p l in by_test (p x) (λ t. rw t (omega arith)) (λ t. rw t (omega arith))

  pub how_many_same : (p q : A → Bool) (l : List A) → ((a : A) → a ∈ l → p a ≡ q a) → how_many p l ≡ how_many q l
  how_many_same p q [] h = refl
  how_many_same p q (x ∷ l) h = rw (h x (here refl), how_many_same p q l (λ a m. h a (there m))) refl

  pub how_many_none : (p : A → Bool) (l : List A) → ((a : A) → a ∈ l → p a ≡ false) → how_many p l ≡ 0
  how_many_none p [] f = refl
  how_many_none p (x ∷ l) f = rw (f x (here refl)) (how_many_none p l (λ a m. f a (there m)))

  -- of two tests that no element passes both, as many as pass either
  pub how_many_either : (p q : A → Bool) (l : List A) → ((a : A) → a ∈ l → (p a && q a) ≡ false) →
      how_many (λ a. p a || q a) l ≡ how_many p l + how_many q l
  how_many_either p q [] h = omega arith
  how_many_either p q (x ∷ l) h =
      let rest = how_many_either p q l (λ a m. h a (there m)) in
      by_test (p x)
      (λ t. rw (t, rw t at (h x (here refl))) (omega (arith, rest)))
      (λ t. by_test (q x) (λ s. rw (t, s) (omega (arith, rest))) (λ s. rw (t, s) rest))

  -- a member of a list with one element more at its end
  pub by_last {κ} : {C : Type κ} (l : List A) {x a : A} → a ∈ l ++ x ∷ [] → (a ∈ l → C) → (a ≡ x → C) → C
  by_last l m f g = ⊎_elim f (λ n. g (Memᴰ.eq_of_singleton n)) (Memᴰ.append_cases l m)

  pub in_last : (l : List A) (x : A) → x ∈ l ++ x ∷ []
  in_last l x = Memᴰ.append_right l (here refl)

  pub every_snoc : (P : A → Type 0) (l : List A) (x : A) → ((a : A) → a ∈ l → P a) → P x → (a : A) → a ∈ l ++ x ∷ [] → P a
  every_snoc P l x f px a m =
      by_last l m (λ n. f a n) (λ e. rw e px)

  -- a list cut at a member
  pub cut {κ} : {C : Type κ} {a : A} {l : List A} → a ∈ l → ((pre post : List A) → l ≡ pre ++ a ∷ post → C) → C
  cut {a = a} (here {xs = xs} e) f = f [] xs (rw e refl)
  cut (there {x = x} m) f = cut m (λ pre post e. f (x ∷ pre) post (ap (λ l. x ∷ l) e))

  pub in_cut : (pre : List A) (a : A) (post : List A) → a ∈ pre ++ a ∷ post
  in_cut pre a post = Memᴰ.append_right pre (here refl)

  no_nil {κ} : {C : Type κ} {b : A} {k : List A} → [] ≡ b ∷ k → C
  no_nil q = impossible (cc)

  -- a cut of a list with one element more at its end falls at that element or within the list
  pub snoc_cut {κ} : {C : Type κ} (l pre post : List A) (x a : A) → l ++ x ∷ [] ≡ pre ++ a ∷ post →
      ((rest : List A) → l ≡ pre ++ a ∷ rest → post ≡ rest ++ x ∷ [] → C) → (l ≡ pre → x ≡ a → post ≡ [] → C) → C
  snoc_cut [] [] post x a e f g = g refl (cc) (cc)
  snoc_cut [] (y ∷ []) post x a e f g =
      let z : [] ≡ a ∷ post = cc in no_nil z
  snoc_cut [] (y ∷ (y' ∷ pre)) post x a e f g =
      let z : [] ≡ y' ∷ (pre ++ a ∷ post) = cc in no_nil z
  snoc_cut (y ∷ l) [] post x a e f g =
      let p : y ≡ a = cc in
      let q : l ++ x ∷ [] ≡ post = cc in
      f l (rw p refl) (sym q)
  snoc_cut (y ∷ l) (z ∷ pre) post x a e f g =
      let p : y ≡ z = cc in
      let q : l ++ x ∷ [] ≡ pre ++ a ∷ post = cc in
      snoc_cut l pre post x a q (λ rest u v. f rest (rw (p, u) refl) v) (λ u v w. g (rw (p, u) refl) v w)

-- two lists mapped alike are alike where the functions agree
pub map_same {ℓ κ} : {A : Type ℓ} {B : Type κ} (f g : A → B) (l : List A) → ((a : A) → a ∈ l → f a ≡ g a) → map f l ≡ map g l
map_same f g [] h = refl
map_same f g (x ∷ l) h = rw (h x (here refl), map_same f g l (λ a m. h a (there m))) refl

pub how_many_map {ℓ κ} : {A : Type ℓ} {B : Type κ} (p : B → Bool) (f : A → B) (l : List A) → how_many p (map f l) ≡ how_many (λ a. p (f a)) l
how_many_map p f [] = refl
how_many_map p f (x ∷ l) = rw (how_many_map p f l) refl

pub map_append {ℓ κ} : {A : Type ℓ} {B : Type κ} (f : A → B) (l k : List A) → map f (l ++ k) ≡ map f l ++ map f k
map_append f [] k = refl
map_append f (x ∷ l) k = rw (map_append f l k) refl
