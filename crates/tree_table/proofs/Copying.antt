-- A copy of the first words of a list over those of another. Assumes nothing.
use mathlib.Core.Path.{◌≡◌, refl, ap, ◌∙◌}
use mathlib.Core.List.{List, [], ◌∷◌, ◌++◌}
use Prim.Native.Nat.{ℕ, zero, suc, ◌+◌, ◌<◌}
use native.Mathlib.Omega.{arith}
use lib.ListN.{length, get_or, set, take, drop, length-set}

-- d after n turns, with the words of s, is l
pub record Copied (s d : List ℕ) (n : ℕ) (l : List ℕ) : Type 0 where
  pub kept : length l ≡ length d
  pub words : l ≡ take n s ++ drop n d

pub copied_none : (s d : List ℕ) → Copied s d 0 d
copied_none s d = record { kept = refl; words = refl }

one_more : (n : ℕ) (s d : List ℕ) → n < length s → n < length d → set (take n s ++ drop n d) n (get_or s n 0) ≡ take (suc n) s ++ drop (suc n) d
one_more n [] d h k = absurd (omega arith)
one_more n (x ∷ s) [] h k = absurd (omega arith)
one_more zero (x ∷ s) (y ∷ d) h k = refl
one_more (suc n) (x ∷ s) (y ∷ d) h k = ap (λ (t : List ℕ). x ∷ t) (one_more n s d (omega arith) (omega arith))

pub copied_more : {s d : List ℕ} {n : ℕ} {l : List ℕ} → Copied s d n l → n < length s → n < length d → Copied s d (n + 1) (set l n (get_or s n 0))
copied_more {s = s} {d = d} {n = n} {l = l} C h k =
    let e : n + 1 ≡ suc n = omega arith in
    record {
      kept = length-set l n (get_or s n 0) ∙ C.kept;
      words = rw e (ap (λ (x : List ℕ). set x n (get_or s n 0)) C.words ∙ one_more n s d h k);
    }
