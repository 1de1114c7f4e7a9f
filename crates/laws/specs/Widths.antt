-- The numbers that 64 bits hold are those below this one.
use Rattle.std.specs.Prelude.{ℕ}

-- two to the 64th
abbrev pub BELOW_64_BITS : ℕ
BELOW_64_BITS = 18446744073709551616
