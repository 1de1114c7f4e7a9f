-- The JOINs of one member for one round (02, tickets 2 and 6).
use Rattle.std.specs.Prelude.{◌≡◌, List, ℕ}
use Rattle.laws.specs.Lists.{◌∈◌}
use Rattle.message.specs.declared.Message.{Message}
use Rattle.message.specs.declared.Body.{Body}
use Rattle.message.specs.declared.Body.TheVariants.{Start, Join, JoinVoted, Propose, Vote}

-- a JOIN of round r by member m, with or without a vote
abbrev pub JoinOf : ℕ → ℕ → Body → Type 0
JoinOf r m (Start r₁ m₁) = ⊥
JoinOf r m (Join r₁ m₁) = (r₁.0 ≡ r) × (m₁.0 ≡ m)
JoinOf r m (JoinVoted r₁ m₁ q w) = (r₁.0 ≡ r) × (m₁.0 ≡ m)
JoinOf r m (Propose r₁ m₁ v) = ⊥
JoinOf r m (Vote r₁ m₁) = ⊥

-- a JOIN in slot s
abbrev pub JoinIn : ℕ → ℕ → ℕ → Message → Type 0
JoinIn s r m g = (g.slot.0 ≡ s) × JoinOf r m g.body

-- however often START was repeated, those of one slot are equal
abbrev pub SameJoins : List Message → Type 0
SameJoins sent = (s r m : ℕ) (g h : Message) → g ∈ sent → h ∈ sent → JoinIn s r m g → JoinIn s r m h → g ≡ h
