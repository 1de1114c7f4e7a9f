-- The phases of the member record (01, "Members"), and how many flags each needs.
use Rattle.std.specs.Prelude.{ℕ}
use Rattle.quorum.specs.Quorum.{quorum}
use Rattle.member_record.specs.declared.Who.{Who}

-- no round led yet
abbrev pub IDLE : ℕ
IDLE = 0

-- JOINs are counted
abbrev pub COLLECTING : ℕ
COLLECTING = 1

-- the proposal is made, and VOTEs are counted
abbrev pub PROPOSED : ℕ
PROPOSED = 2

abbrev pub DECIDED : ℕ
DECIDED = 3

-- the flags that a phase needs to end: joins while collecting, votes once proposed; decided, it has the votes that it needed. The quorum each
unfoldable pub needed : Who → ℕ → ℕ
unfolding quorum
needed w phase = quorum w.n
