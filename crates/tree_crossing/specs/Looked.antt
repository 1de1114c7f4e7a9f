-- What one walk over nodes tells of an edge (r, p).
use Rattle.std.specs.Prelude.{List, ℕ, length}
use Rattle.laws.specs.Lists.{any, how_many}
use Rattle.tree_theory.specs.Machine.{Node, ADDED, present, above, blocks, crossed_with}
use Rattle.tree_table.specs.Rows.{row_place}
use Rattle.tree_crossing.specs.declared.look.Look.{Look}

abbrev pub look_of : ℕ → ℕ → List Node → Look
look_of r p ns =
    record {
      used = length ns;
      present = present r ns;
      parent = row_place p ns;
      above = any (above r) ns;
      blocked = any (blocks r p) ns;
      strikes = how_many (crossed_with ADDED r p) ns;
    }
