-- Quorums: how many members an office needs, and enough of the members 0 to n-1, each with a property.
use Rattle.std.specs.Prelude.{◌≡◌, Bool, true, cond, ℕ, ◌+◌, ◌*◌, ◌<◌, ◌≤◌, eqb}
use Rattle.quorum.specs.Count.{count}

-- more than a record has flags: in an office of another size no count of them is a quorum
abbrev pub NO_QUORUM : ℕ
NO_QUORUM = 8

-- a case for each size (02, ticket 4): 2 of 3, 3 of 5, 4 of 7
unfoldable pub quorum : ℕ → ℕ
quorum n =
    cond (eqb n 3) 2
    (cond (eqb n 5) 3
    (cond (eqb n 7) 4
    NO_QUORUM))

-- k of n is f+1 of 2f+1 (01, "Members")
pub record Majority (k n f : ℕ) : Type 0 where
  pub asked : k ≡ f + 1
  pub members : n ≡ 2 * f + 1

-- at least k of the n members have the property P
pub record HasQuorum (n k : ℕ) (P : ℕ → Type 0) : Type 0 where
  pub who : ℕ → Bool
  pub enough : k ≤ count who n
  pub each : (s : ℕ) → s < n → who s ≡ true → P s
