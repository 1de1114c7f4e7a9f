-- Rounds run 1 to 1,000,000 (01, "The tree"); senders are 0 to 6 (01, "Messages"); slots are 0 to 7 (02, ticket 6).
use Rattle.std.specs.Prelude.{Bool, ◌||◌, ℕ, ltb, eqb}

abbrev pub above_range : ℕ → Bool
above_range r = ltb 1000000 r

abbrev pub out_of_range : ℕ → Bool
out_of_range r = eqb r 0 || above_range r

-- no office has more than seven members
abbrev pub no_member : ℕ → Bool
no_member s = ltb 6 s

-- an office has eight slots
abbrev pub SLOTS : ℕ
SLOTS = 8

abbrev pub no_slot : ℕ → Bool
no_slot s = ltb 7 s
