-- What a step may write of what play is lent: the store, which all slots share, and the table of its slot.
use Rattle.std.specs.Prelude.{List, ℕ}

pub record Memory : Type 0 where
  pub store : List ℕ
  pub table : List ℕ

abbrev pub in_memory : List ℕ → List ℕ → Memory
in_memory store table = record { store = store; table = table }
