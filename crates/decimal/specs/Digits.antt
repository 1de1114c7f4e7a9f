-- A number in decimal, in ASCII: without zeros in front, and at the right of a column.
use Rattle.std.specs.Prelude.{true, false, List, [], ◌∷◌, ◌++◌, ℕ, zero, suc, ◌+◌, ◌-◌, ◌*◌, ◌/◌, ◌%◌, length, replicate, ltb}

abbrev pub BLANK : ℕ
BLANK = 32

-- the character of a digit
abbrev pub digit : ℕ → ℕ
digit d = 48 + d

-- n in at most k digits, the lowest last
unfoldable pub digits_within : ℕ → ℕ → List ℕ
digits_within zero n = []
digits_within (suc k) n = elim (ltb n 10) [ true ↦ digit n ∷ [] | false ↦ digits_within k (n / 10) ++ digit (n % 10) ∷ [] ]

-- n in decimal; it has at most n + 1 digits
unfoldable pub decimal : ℕ → List ℕ
unfolding digits_within
decimal n = digits_within (suc n) n

-- n at the right of a column of w characters, blanks before it; a number that is longer than the column takes its own length
unfoldable pub decimal_in : ℕ → ℕ → List ℕ
unfolding decimal
decimal_in w n = replicate (w - length (decimal n)) BLANK ++ decimal n

-- the number that digits spell, after those that spelt a
unfoldable pub spelt_after : ℕ → List ℕ → ℕ
spelt_after a [] = a
spelt_after a (c ∷ l) = spelt_after (a * 10 + (c - 48)) l

-- the number that digits spell
unfoldable pub number_spelt : List ℕ → ℕ
unfolding spelt_after
number_spelt l = spelt_after 0 l
