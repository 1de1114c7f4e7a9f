-- Two quorums of more than n members together have a member in common: their counts share one. Assumes nothing.
use Prim.Native.Nat.{ℕ, ◌+◌, ◌<◌}
use native.Mathlib.Omega.{arith}
use Rattle.quorum.specs.Quorum.{Majority, HasQuorum}
use Rattle.quorum.proofs.Counts.{share}

-- the property may grow
pub wider : {n k : ℕ} {P Q : ℕ → Type 0} → ((s : ℕ) → P s → Q s) → HasQuorum n k P → HasQuorum n k Q
wider f w = record { who = w.who; enough = w.enough; each = λ s l h. f s (w.each s l h) }

-- a member of both
pub both {ℓ} : {C : Type ℓ} {n j k : ℕ} {P Q : ℕ → Type 0} → n < j + k → HasQuorum n j P → HasQuorum n k Q → ((s : ℕ) → s < n → P s → Q s → C) → C
both {n = n} h a b f =
    share a.who b.who n (omega arith) (λ s l p q. f s l (a.each s l p) (b.each s l q))

-- two quorums of f+1 are more than the 2f+1 members
pub exceeds : {k n f : ℕ} → Majority k n f → n < k + k
exceeds m = omega (arith, m.asked, m.members)

-- and so they have a member in common
pub majorities {ℓ} : {C : Type ℓ} {k n f : ℕ} {P Q : ℕ → Type 0} → Majority k n f → HasQuorum n k P → HasQuorum n k Q →
    ((s : ℕ) → s < n → P s → Q s → C) → C
majorities m a b g = both (exceeds m) a b g
