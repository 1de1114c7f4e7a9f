-- What a search over the rows of a table finds.
use Rattle.std.specs.Prelude.{cond, Option, Some, None, List, [], ◌∷◌, ℕ, suc}
use Rattle.tree_theory.specs.Machine.{Node, has_round, present}

-- the place of the first node that has round r; how many nodes there are where none has
unfoldable pub row_index : ℕ → List Node → ℕ
row_index r [] = 0
row_index r (n ∷ ns) = cond (has_round r n) 0 (suc (row_index r ns))

-- the same, where one has it
abbrev pub row_place : ℕ → List Node → Option ℕ
row_place r ns = cond (present r ns) (Some (row_index r ns)) None
