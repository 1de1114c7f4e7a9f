-- What is held of the records, by the two arrays that hold its parts. Assumes nothing.
use mathlib.Core.Path.{◌≡◌, refl, ap}
use mathlib.Core.List.{List, [], ◌∷◌}
use Prim.Native.Nat.{ℕ, zero, suc, ◌<◌}
use native.Mathlib.Omega.{arith}
use lib.ListN.{length, get_or, set, replicate}
use Rattle.play_office.specs.declared.HeldLead.{HeldLead}
use Rattle.play_office.specs.declared.HeldRounds.{HeldRounds}
use Rattle.play_office.specs.Represents.{HeldRecord}

abbrev pub in_parts : HeldRounds → HeldLead → HeldRecord
in_parts r p = record { rounds = r; lead = p }

-- element i has element i of each array
unfoldable pub held_list : List HeldRounds → List HeldLead → List HeldRecord
held_list [] ps = []
held_list (r ∷ rs) [] = []
held_list (r ∷ rs) (p ∷ ps) = in_parts r p ∷ held_list rs ps

pub held_at : (rs : List HeldRounds) (ps : List HeldLead) (i : ℕ) (r : HeldRounds) (p : HeldLead) → i < length (held_list rs ps) →
    get_or (held_list rs ps) i (in_parts r p) ≡ in_parts (get_or rs i r) (get_or ps i p)
unfolding held_list
held_at [] ps i r p l = absurd (omega arith)
held_at (a ∷ rs) [] i r p l = absurd (omega arith)
held_at (a ∷ rs) (b ∷ ps) zero r p l = refl
held_at (a ∷ rs) (b ∷ ps) (suc i) r p l = held_at rs ps i r p (omega arith)

pub held_set : (rs : List HeldRounds) (ps : List HeldLead) (i : ℕ) (r : HeldRounds) (p : HeldLead) →
    set (held_list rs ps) i (in_parts r p) ≡ held_list (set rs i r) (set ps i p)
unfolding held_list
held_set [] ps i r p = refl
held_set (a ∷ rs) [] zero r p = refl
held_set (a ∷ rs) [] (suc i) r p = refl
held_set (a ∷ rs) (b ∷ ps) zero r p = refl
held_set (a ∷ rs) (b ∷ ps) (suc i) r p = ap (λ hs. in_parts a b ∷ hs) (held_set rs ps i r p)

pub held_first : (n : ℕ) (r : HeldRounds) (p : HeldLead) → replicate n (in_parts r p) ≡ held_list (replicate n r) (replicate n p)
unfolding held_list
held_first zero r p = refl
held_first (suc n) r p = ap (λ hs. in_parts r p ∷ hs) (held_first n r p)
