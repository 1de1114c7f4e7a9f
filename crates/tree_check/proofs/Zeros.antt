-- The words that the check of the free rows reads: all from a place on. Assumes nothing.
use mathlib.Core.Path.{◌≡◌, refl, sym, ap, ◌∙◌}
use mathlib.Core.Bool.{Bool, true, ◌&&◌}
use mathlib.Core.List.{List}
use Prim.Native.Nat.{ℕ, zero, suc, ◌+◌, ◌-◌, ◌≤◌, ◌<◌}
use native.Mathlib.Omega.{arith}
use lib.ListN.{length, get_or, take, drop, length-drop}
use lib.Seq.{get_or-drop}
use lib.Dec.{eqb}
use borrow.Author.Tests.{lt-ltb, le-ltb}
use Rattle.std.specs.List.{list_all}
use Rattle.std.proofs.lemmas.List.Folds.{list_all_more}
use Rattle.tree_theory.specs.Check.{zeros_to}

-- a word is zero
abbrev pub is_zero : ℕ → Bool
is_zero w = eqb w 0

zeros_before : (ws : List ℕ) (a n : ℕ) → n ≤ a → zeros_to ws a n ≡ true
unfolding zeros_to
zeros_before ws a zero h = refl
zeros_before ws a (suc n) h = rw (zeros_before ws a n (omega arith), lt-ltb n a (omega arith)) refl

zeros_by : (ws : List ℕ) (a d : ℕ) → a + d ≤ length ws → zeros_to ws a (a + d) ≡ list_all is_zero (take d (drop a ws))
unfolding zeros_to
zeros_by ws a zero h = let e : a + 0 ≡ a = omega arith in rw e (zeros_before ws a a (omega arith))
zeros_by ws a (suc d) h =
    let e : a + suc d ≡ suc (a + d) = omega arith in
    let f : d + 1 ≡ suc d = omega arith in
    let within : d < length (drop a ws) = omega (arith, length-drop a ws) in
    rw (e, le-ltb (a + d) a (omega arith))
    (ap (λ b. b && is_zero (get_or ws (a + d) 0)) (zeros_by ws a d (omega arith)) ∙
    ap (λ w. list_all is_zero (take d (drop a ws)) && is_zero w) (sym (get_or-drop a ws d 0)) ∙
    sym (rw f at (list_all_more is_zero (drop a ws) d 0 within)))

-- all from word a on, as a part of the slice has them
pub zeros_all : (ws : List ℕ) (a : ℕ) → a ≤ length ws → list_all is_zero (take (length ws - a) (drop a ws)) ≡ zeros_to ws a (length ws)
zeros_all ws a h =
    let e : a + (length ws - a) ≡ length ws = omega arith in
    sym (rw e at (zeros_by ws a (length ws - a) (omega arith)))
