-- XDR numbers (RFC 4506, 4.2 and 4.5): an unsigned integer is 4 bytes, an unsigned hyper 8, high byte first.
use Rattle.std.specs.Prelude.{List, [], ◌∷◌, ◌++◌, ℕ, zero, suc, ◌+◌, ◌*◌, ◌/◌, ◌%◌, ◌<◌, take, drop}
use Rattle.laws.specs.Lists.{◌∈◌}

-- each element is a byte
abbrev pub AllBytes : List ℕ → Type 0
AllBytes l = (b : ℕ) → b ∈ l → b < 256

-- x as n bytes, high byte first: the low byte stands last
unfoldable pub big_endian : ℕ → ℕ → List ℕ
big_endian zero x = []
big_endian (suc n) x = big_endian n (x / 256) ++ x % 256 ∷ []

-- the number that bytes spell, high byte first, after those that spelt a
unfoldable pub value_after : ℕ → List ℕ → ℕ
value_after a [] = a
value_after a (b ∷ l) = value_after (a * 256 + b) l

unfoldable pub value : List ℕ → ℕ
unfolding value_after
value l = value_after 0 l

-- an unsigned integer
unfoldable pub word : ℕ → List ℕ
unfolding big_endian
word x = big_endian 4 x

-- an unsigned hyper
unfoldable pub hyper : ℕ → List ℕ
unfolding big_endian
hyper x = big_endian 8 x

-- the unsigned integer that stands at a place
unfoldable pub word_at : List ℕ → ℕ → ℕ
unfolding value
word_at s at = value (take 4 (drop at s))

-- the unsigned hyper that stands at a place
unfoldable pub hyper_at : List ℕ → ℕ → ℕ
unfolding value
hyper_at s at = value (take 8 (drop at s))
