-- What play is lent beside the list and the lengths of the tables: the store, which all slots share, the words of the eight tables, and a byte for each
-- answer.
use Rattle.std.specs.Prelude.{List, ℕ}

pub record Lent : Type 0 where
  pub store : List ℕ
  pub words : List ℕ
  pub answers : List ℕ

abbrev pub as_lent : List ℕ → List ℕ → List ℕ → Lent
as_lent store words answers = record { store = store; words = words; answers = answers }
