-- XDR numbers of both widths, one behind another: what a layout is a list of.
use Rattle.std.specs.Prelude.{◌≡◌, List, [], ◌∷◌, ◌++◌, ℕ, ◌+◌}
use Rattle.xdr.specs.Words.{word, hyper, word_at, hyper_at}

pub data Item : Type 0 where
  integer : ℕ → Item
  long : ℕ → Item

-- how many bytes one has
abbrev pub width : Item → ℕ
width (integer x) = 4
width (long x) = 8

-- how many all have
abbrev pub span : List Item → ℕ
span [] = 0
span (i ∷ l) = width i + span l

-- the bytes of one
unfoldable pub item_bytes : Item → List ℕ
item_bytes (integer x) = word x
item_bytes (long x) = hyper x

-- the bytes of all
unfoldable pub encoded : List Item → List ℕ
unfolding item_bytes
encoded [] = []
encoded (i ∷ l) = item_bytes i ++ encoded l

-- they stand in s from a place on
abbrev pub Stand : List ℕ → ℕ → List Item → Type 0
Stand s at [] = Unit {0}
Stand s at (integer x ∷ l) = (word_at s at ≡ x) × Stand s (at + 4) l
Stand s at (long x ∷ l) = (hyper_at s at ≡ x) × Stand s (at + 8) l
