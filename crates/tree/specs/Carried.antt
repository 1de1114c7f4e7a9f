-- What carrying out a plan asks for, and what can be previewed.
use Rattle.std.specs.Prelude.{◌≡◌, Bool, List, ℕ, ◌+◌, ◌*◌, ◌≤◌, length}
use Rattle.tree_theory.specs.Machine.{Call}
use Rattle.tree_theory.specs.Table.{TreeTable}
use Rattle.tree_steps.specs.declared.call.Plan.{Plan}
use Rattle.tree_steps.specs.Planned.{call_strikes}

-- a call can be written into a table: its row is there, and of the rows before so many are struck, few enough for an answer
pub record CanWrite (ws : List ℕ) (c : Call) (plan : Plan) : Type 0 where
  pub fits : 4 * plan.row + 4 ≤ length ws
  pub strikes_is : plan.strikes ≡ call_strikes ws c plan.row
  pub few : plan.strikes ≤ 256

-- what can be previewed: a tree, in a second table of its length
pub record CanShow (valued : Bool) (ws us : List ℕ) : Type 0 where
  pub first : TreeTable valued ws
  pub alike : length us ≡ length ws
