-- A loop that writes zero from the front on: after n turns the first n elements are zero and the rest is as it was.
use Rattle.std.specs.Prelude.{◌≡◌, refl, List, ◌++◌, ℕ, ◌+◌, ◌≤◌, ◌<◌, length, set, drop, replicate}
use Rattle.std.proofs.Common.{ap, ◌∙◌, append-nil, arith, length-set, drop_of_length-le}
use Rattle.std.proofs.lemmas.List.Edits.{fill_none, fill_more}

-- d after n turns is t
pub record Zeroed (d : List ℕ) (n : ℕ) (t : List ℕ) : Type 0 where
  pub within : n ≤ length d
  pub kept : length t ≡ length d
  pub zeros : t ≡ replicate n 0 ++ drop n d

pub zeroed_none : (d : List ℕ) → Zeroed d 0 d
zeroed_none d = record { within = omega arith; kept = refl; zeros = fill_none d 0 }

pub zeroed_more : (d : List ℕ) (n : ℕ) (t : List ℕ) → Zeroed d n t → n < length t → Zeroed d (n + 1) (set t n 0)
zeroed_more d n t z h = record {
  within = omega arith;
  kept = length-set t n 0 ∙ z.kept;
  zeros = ap (λ (l : List ℕ). set l n 0) z.zeros ∙ fill_more n 0 d (omega arith);
}

pub zeroed_all : (d : List ℕ) (n : ℕ) (t : List ℕ) → Zeroed d n t → length t ≤ n → t ≡ replicate (length d) 0
zeroed_all d n t z h =
    let e : n ≡ length d = omega arith in
    z.zeros ∙ rw (e, drop_of_length-le d {i = length d} (omega arith)) (append-nil (replicate (length d) 0))
