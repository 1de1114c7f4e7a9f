-- A proposal makes no more rounds GHOST than a table has nodes.
use Rattle.std.proofs.Common.{◌≡◌, true, List, ℕ, ◌≤◌, arith}
use Rattle.tree_theory.specs.Machine.{add}
use Rattle.tree_theory.specs.Table.{TreeTable}
use Rattle.tree_theory.specs.Ghosts.{stepped_ghosts}
use Rattle.tree_theory.proofs.Ghosts.{tree_few}
use Rattle.play_effects.proofs.propose.Goals as goal

-- whatever the call of add names
few : {ws : List ℕ} {n : ℕ} (r v p : ℕ) → TreeTable true ws → n ≡ stepped_ghosts true ws (add r v p) → n ≤ 256
few {ws} r v p T e = omega (arith, e, tree_few true ws T.long T.tree (add r v p))

pub counted-requires : goal.counted-requires
counted-requires c =
    let most = few _ _ _ c.requires.2 c.add_in_tree.ensures.ghosts_are in
    (c.requires.0, omega arith, omega arith, omega arith, omega (arith, most, c.unwrap_or-ghosts.ensures))
