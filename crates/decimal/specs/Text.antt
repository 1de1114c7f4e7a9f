-- Text put at a place of lent bytes.
use Rattle.std.specs.Prelude.{◌≡◌, List, ◌++◌, ℕ, ◌+◌, length, take, drop}

-- the text stands at its place, nothing beside it changes, and the next place is behind it
pub record PutText (old : List ℕ) (at : ℕ) (text : List ℕ) (next : ℕ) (new : List ℕ) : Type 0 where
  pub next_is : next ≡ at + length text
  pub bytes_are : new ≡ take at old ++ text ++ drop (at + length text) old
