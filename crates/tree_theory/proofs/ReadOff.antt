-- The adds and commits that are read off nodes, one by one. Assumes nothing.
use mathlib.Core.Path.{◌≡◌, refl, ap}
use mathlib.Core.Bool.{Bool, true, false, ◌||◌}
use mathlib.Core.List.Memᴰ.{head as here}
use mathlib.Core.List.Memᴰ.{tail as there}
use mathlib.Core.List.{List, [], ◌∷◌, ◌++◌}
use Prim.Native.Nat.{ℕ, suc}
use lib.ListN.{length}
use lib.Dec.{eqb}
use borrow.Author.Tests.{eqb-true, eq-eqb}
use Rattle.laws.specs.Tests.{by_test}
use Rattle.laws.specs.Lists.{◌∈◌, any, none_any}
use Rattle.tree_theory.specs.Machine.{Call, add, commit, Node, COMMITTED, has_round, present}
use Rattle.tree_theory.specs.Properties.{history, adds_in, adds, commits, edge_crosses}
use Rattle.tree_theory.specs.Table.{adds_of, commits_of}
use Rattle.tree_theory.specs.Check.{edge_over, crossed}
use Rattle.tree_theory.specs.Rebuilt.{added_nodes}

abbrev pub add_of : Node → Call
add_of n = add n.round n.value n.parent

pub adds_of_append : (l k : List Node) → adds_of (l ++ k) ≡ adds_of l ++ adds_of k
unfolding adds_of
adds_of_append [] k = refl
adds_of_append (n ∷ l) k = ap (λ x. add_of n ∷ x) (adds_of_append l k)

pub in_adds : {n : Node} (l : List Node) → n ∈ l → add_of n ∈ adds_of l
unfolding adds_of
in_adds (x ∷ l) (here e) = rw e (here refl)
in_adds (x ∷ l) (there m) = there (in_adds l m)
in_adds {n = n} [] x' = elim x' [ ]

pub of_adds {κ} : {C : Type κ} {c : Call} (l : List Node) → c ∈ adds_of l → ((n : Node) → n ∈ l → c ≡ add_of n → C) → C
unfolding adds_of
of_adds [] m f = elim m [ ]
of_adds (x ∷ l) (here e) f = f x (here refl) e
of_adds (x ∷ l) (there m) f = of_adds l m (λ n i e. f n (there i) e)

pub any_adds : (c : ℕ) (l : List Node) → any (adds c) (adds_of l) ≡ present c l
unfolding adds_of
any_adds c [] = refl
any_adds c (n ∷ l) = ap (λ b. has_round c n || b) (any_adds c l)

pub any_edges : (c : ℕ) (l : List Node) → any (edge_crosses c) (adds_of l) ≡ crossed c l
unfolding adds_of
any_edges c [] = refl
any_edges c (n ∷ l) = ap (λ b. edge_over c n || b) (any_edges c l)

pub no_commits : (c : ℕ) (l : List Node) → any (commits c) (adds_of l) ≡ false
unfolding adds_of
no_commits c [] = refl
no_commits c (n ∷ l) = no_commits c l

pub adds_in_adds : (l : List Node) → adds_in (adds_of l) ≡ length l
unfolding adds_of adds_in
adds_in_adds [] = refl
adds_in_adds (n ∷ l) = ap suc (adds_in_adds l)

pub commits_taken : (n : Node) (l : List Node) → eqb n.status COMMITTED ≡ true → commits_of (n ∷ l) ≡ commit n.round ∷ commits_of l
unfolding commits_of
commits_taken n l t = rw t refl

pub commits_passed : (n : Node) (l : List Node) → eqb n.status COMMITTED ≡ false → commits_of (n ∷ l) ≡ commits_of l
unfolding commits_of
commits_passed n l t = rw t refl

pub in_commits : {n : Node} (l : List Node) → n ∈ l → n.status ≡ COMMITTED → commit n.round ∈ commits_of l
in_commits {n} (x ∷ l) (here e) s =
    rw (commits_taken x l (eq-eqb x.status COMMITTED (rw (← e) s)), e) (here refl)
in_commits {n} (x ∷ l) (there m) s =
    by_test (eqb x.status COMMITTED)
    (λ t. rw (commits_taken x l t) (there (in_commits l m s)))
    (λ t. rw (commits_passed x l t) (in_commits l m s))
in_commits {n = n} [] x'' s = elim x'' [ ]

pub of_commits {κ} : {C : Type κ} {c : Call} (l : List Node) → c ∈ commits_of l → ((n : Node) → n ∈ l → n.status ≡ COMMITTED → c ≡ commit n.round → C) → C
unfolding commits_of
of_commits [] m f = elim m [ ]
of_commits {C = C} {c} (x ∷ l) m f =
    by_test (eqb x.status COMMITTED)
    (λ t. taken t (rw (commits_taken x l t) at m) (λ i. of_commits l i (λ n j s e. f n (there j) s e)))
    (λ t. of_commits l (rw (commits_passed x l t) at m) (λ n j s e. f n (there j) s e))
  where
    taken : eqb x.status COMMITTED ≡ true → c ∈ commit x.round ∷ commits_of l → (c ∈ commits_of l → C) → C
    taken t (here e) g = f x (here refl) (eqb-true x.status COMMITTED t) e
    taken t (there i) g = g i

-- commits add nothing and have no edge
pub none_in_commits : (p : Call → Bool) → ((r : ℕ) → p (commit r) ≡ false) → (l : List Node) → any p (commits_of l) ≡ false
none_in_commits p h l = none_any p (commits_of l) (λ c m. of_commits l m (λ n i s e. rw e (h n.round)))

pub adds_in_commits : (l : List Node) → adds_in (commits_of l) ≡ 0
unfolding adds_in commits_of
adds_in_commits [] = refl
adds_in_commits (n ∷ l) =
    by_test (eqb n.status COMMITTED) (λ t. rw t (adds_in_commits l)) (λ t. rw t (adds_in_commits l))

pub added_commits : (h : List Call) (l : List Node) → added_nodes h (commits_of l) ≡ []
unfolding added_nodes commits_of
added_commits h [] = refl
added_commits h (n ∷ l) =
    by_test (eqb n.status COMMITTED) (λ t. rw t (added_commits h l)) (λ t. rw t (added_commits h l))

pub commits_of_append : (l k : List Node) → commits_of (l ++ k) ≡ commits_of l ++ commits_of k
unfolding commits_of
commits_of_append [] k = refl
commits_of_append (n ∷ l) k =
    by_test (eqb n.status COMMITTED)
    (λ t. rw t (ap (λ x. commit n.round ∷ x) (commits_of_append l k)))
    (λ t. rw t (commits_of_append l k))

-- nodes that have their history statuses are those that their adds make
pub added_read : (h : List Call) (l : List Node) → ((n : Node) → n ∈ l → history h n.round ≡ n.status) → added_nodes h (adds_of l) ≡ l
unfolding added_nodes adds_of
added_read h [] f = refl
added_read h (n ∷ l) f = rw (f n (here refl), added_read h l (λ x m. f x (there m))) refl
