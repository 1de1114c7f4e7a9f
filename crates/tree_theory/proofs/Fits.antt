-- The local tests of a table, read as facts and back. Assumes nothing.
use mathlib.Core.Path.{◌≡◌, refl, sym, ◌∙◌}
use mathlib.Core.Bool.{Bool, true, false, ◌&&◌, ◌||◌, not}
use mathlib.Core.List.{List}
use Prim.Native.Nat.{ℕ, zero, suc, ◌+◌, ◌-◌, ◌<◌, ◌≤◌}
use native.Mathlib.Omega.{arith}
use lib.ListN.{length, get_or, drop, replicate, length-drop, length-replicate, get_or-replicate}
use lib.Seq.{ext_get_or, get_or-drop}
use lib.Dec.{ltb, eqb}
use borrow.Author.Tests.{eqb-true, eq-eqb, ne_eqb, lt-ltb, ltb-true, not-true, not-false}
use Rattle.laws.specs.Tests.{by_test, tests, and_left, and_right, and_intro, or_right, or_cases, or_none}
use Rattle.laws.specs.Conjunction.{and_four}
use Rattle.ids.specs.Ranges.{out_of_range, above_range}
use Rattle.tree_theory.specs.Machine.{Node, root, ADDED, GHOST, COMMITTED, present, find, other_value}
use Rattle.tree_theory.specs.Table.{row, rows_of}
use Rattle.tree_theory.specs.Check.{crossed, round_fits, parent_fits, value_fits, status_fits, fits, is_root, row_fits, fits_to, zeros_to}
use Rattle.tree_theory.proofs.Grown.{Placed, Stated}

pub record Fit (valued : Bool) (earlier all : List Node) (n : Node) : Type 0 where
  pub placed : Placed valued earlier n
  pub stated : Stated n
  pub ghost : eqb n.status GHOST ≡ crossed n.round all

module _ (valued : Bool) (earlier all : List Node) (n : Node) where
  placed_of : round_fits earlier n ≡ true → parent_fits earlier n ≡ true → value_fits valued earlier n ≡ true → Placed valued earlier n
  placed_of a b c =
      let rng : out_of_range n.round ≡ false =
      not-true (out_of_range n.round) (and_left (not (out_of_range n.round)) (not (present n.round earlier)) a) in
      let low : n.parent < n.round = ltb-true n.parent n.round (and_right (present n.parent earlier) (ltb n.parent n.round) b) in
      record {
        positive = omega arith;
        bounded = or_right (eqb n.round 0) (above_range n.round) rng;
        new = not-true (present n.round earlier) (and_right (not (out_of_range n.round)) (not (present n.round earlier)) a);
        parent_there = and_left (present n.parent earlier) (ltb n.parent n.round) b;
        lower = low;
        same_value = λ q pos. eqb-true n.value (find n.parent earlier).value
            (not-false (eqb n.value (find n.parent earlier).value)
            (rw (q, ne_eqb n.parent 0 (omega arith)) at (not-true (valued && other_value earlier n.value n.parent) c)));
      }

  of_placed_value : Placed valued earlier n → value_fits valued earlier n ≡ true
  of_placed_value P =
      by_test valued
      (λ q. by_test (eqb n.parent 0)
      (λ t. rw (q, t) refl)
      (λ t. rw (q, t, eq-eqb n.value (find n.parent earlier).value (P.same_value q (omega tests))) refl))
      (λ q. rw q refl)

  status_of : status_fits all n ≡ true → Stated n × (eqb n.status GHOST ≡ crossed n.round all)
  status_of h =
      by_test (crossed n.round all)
      (λ t. let s : eqb n.status GHOST ≡ true = rw t at h in (omega tests, s ∙ sym t))
      (λ t. let s : (eqb n.status ADDED || eqb n.status COMMITTED) ≡ true = rw t at h in
      or_cases (eqb n.status ADDED) (eqb n.status COMMITTED) s
      (λ u. (omega tests, ne_eqb n.status GHOST (omega tests) ∙ sym t))
      (λ u. (omega tests, ne_eqb n.status GHOST (omega tests) ∙ sym t)))

  of_status : Stated n → eqb n.status GHOST ≡ crossed n.round all → status_fits all n ≡ true
  of_status b g =
      by_test (crossed n.round all)
      (λ t. rw t (g ∙ t))
      (λ t. rw t
      (by_test (eqb n.status ADDED)
      (λ u. rw u refl)
      (λ u. let v : eqb n.status GHOST ≡ false = g ∙ t in rw u (omega tests))))

  pub fit_of : fits valued earlier all n ≡ true → Fit valued earlier all n
  unfolding fits
  fit_of h =
      let (a, b, c, d) = and_four (round_fits earlier n) (parent_fits earlier n) (value_fits valued earlier n) (status_fits all n) h in
      record { placed = placed_of a b c; stated = (status_of d).0; ghost = (status_of d).1 }

  pub of_fit : Fit valued earlier all n → fits valued earlier all n ≡ true
  unfolding fits
  of_fit F =
      let P : Placed valued earlier n = F.placed in
      let ranged : out_of_range n.round ≡ false = or_none (ne_eqb n.round 0 (omega (arith, P.positive))) P.bounded in
      let a : round_fits earlier n ≡ true = rw (ranged, P.new) refl in
      let b : parent_fits earlier n ≡ true = and_intro P.parent_there (lt-ltb n.parent n.round P.lower) in
      and_intro a (and_intro b (and_intro (of_placed_value P) (of_status F.stated F.ghost)))

pub root_of : (n : Node) → is_root n ≡ true → n ≡ root
root_of n h =
    let (a, b, c, d) = and_four (eqb n.round 0) (eqb n.parent 0) (eqb n.value 0) (eqb n.status COMMITTED) h in
    same (eqb-true n.round 0 a) (eqb-true n.parent 0 b) (eqb-true n.value 0 c) (eqb-true n.status COMMITTED d)
  where
    same : n.round ≡ 0 → n.parent ≡ 0 → n.value ≡ 0 → n.status ≡ COMMITTED → n ≡ root
    same a b c d = λ i. record { round = a i; parent = b i; value = c i; status = d i }

module _ (valued : Bool) (ws : List ℕ) (n : ℕ) where
  pub first_row : row_fits valued ws n 0 ≡ is_root (row ws 0)
  unfolding row_fits
  first_row = refl

  pub later_row : (i : ℕ) → 0 < i → row_fits valued ws n i ≡ fits valued (rows_of ws i) (rows_of ws n) (row ws i)
  unfolding row_fits
  later_row i h = rw (ne_eqb i 0 (omega arith)) refl

  pub fits_at : (k i : ℕ) → fits_to valued ws n k ≡ true → i < k → row_fits valued ws n i ≡ true
  unfolding fits_to
  fits_at zero i h l = absurd (omega arith)
  fits_at (suc k) i h l =
      by_test (eqb i k)
      (λ t. rw (eqb-true i k t) (and_right (fits_to valued ws n k) (row_fits valued ws n k) h))
      (λ t. fits_at k i (and_left (fits_to valued ws n k) (row_fits valued ws n k) h) (omega tests))

  pub fits_all : (k : ℕ) → ((i : ℕ) → i < k → row_fits valued ws n i ≡ true) → fits_to valued ws n k ≡ true
  unfolding fits_to
  fits_all zero f = refl
  fits_all (suc k) f = and_intro (fits_all k (λ i l. f i (omega arith))) (f k (omega arith))

module _ (ws : List ℕ) (a : ℕ) where
  zeros_at : (j i : ℕ) → zeros_to ws a j ≡ true → i < j → a ≤ i → get_or ws i 0 ≡ 0
  unfolding zeros_to
  zeros_at zero i h l b = absurd (omega arith)
  zeros_at (suc j) i h l b =
      by_test (eqb i j)
      (λ t. or_cases (ltb j a) (eqb (get_or ws j 0) 0) (and_right (zeros_to ws a j) (ltb j a || eqb (get_or ws j 0) 0) h)
      (λ u. absurd (omega tests))
      (λ u. rw (eqb-true i j t) (eqb-true (get_or ws j 0) 0 u)))
      (λ t. zeros_at j i (and_left (zeros_to ws a j) (ltb j a || eqb (get_or ws j 0) 0) h) (omega tests) b)

  pub zeros_all : (j : ℕ) → ((i : ℕ) → a ≤ i → get_or ws i 0 ≡ 0) → zeros_to ws a j ≡ true
  unfolding zeros_to
  zeros_all zero f = refl
  zeros_all (suc j) f =
      and_intro (zeros_all j f)
      (by_test (ltb j a) (λ t. rw t refl) (λ t. rw (t, f j (omega tests)) refl))

  pub zeros_drop : zeros_to ws a (length ws) ≡ true → drop a ws ≡ replicate (length ws - a) 0
  zeros_drop h =
      ext_get_or 0 (drop a ws) (replicate (length ws - a) 0) (length-drop a ws ∙ sym (length-replicate (length ws - a) 0))
      (λ i l. let b : i < length ws - a = rw (length-drop a ws) at l in
      get_or-drop a ws i 0 ∙ zeros_at (length ws) (a + i) h (omega arith) (omega arith) ∙ sym (get_or-replicate (length ws - a) i 0 0 b))
