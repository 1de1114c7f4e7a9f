-- The quorum of each size is f+1 of 2f+1 (02, ticket 4). Assumes nothing.
use mathlib.Core.Path.{refl}
use Prim.Native.Nat.{ℕ, ◌+◌, ◌*◌}
use Rattle.quorum.specs.Quorum.{quorum, Majority}

majority : (f : ℕ) → Majority (f + 1) (2 * f + 1) f
majority f = record { asked = refl; members = refl }

-- 2 of 3, 3 of 5, 4 of 7: f is 1, 2 and 3
pub quorum_cases : Majority (quorum 3) 3 1 × Majority (quorum 5) 5 2 × Majority (quorum 7) 7 3
unfolding quorum
quorum_cases = (majority 1, majority 2, majority 3)
