-- add and commit as the code has them, what one writes, and what a plan for one must come to.
use Rattle.std.specs.Prelude.{◌≡◌, Bool, List, [], ◌∷◌, ◌++◌, map, ℕ, ◌+◌, ◌*◌, ◌≤◌, length, set, drop, Result, IfOk}
use Rattle.laws.specs.Lists.{how_many}
use Rattle.numbers.specs.declared.Refusal.{Refusal}
use Rattle.numbers.specs.Numbers.{number_of}
use Rattle.tree_theory.specs.Machine.{Call, ADDED, add, commit, node_of, crossed_with, strike_crossed, answer, change}
use Rattle.tree_theory.specs.Table.{rows, rows_of, nodes, words, table}
use Rattle.tree_theory.specs.Ghosts.{stepped_ghosts}
use Rattle.tree_steps.specs.declared.call.Plan.{Plan}
use Rattle.tree_steps.specs.declared.call.TreeCall.{TreeCall}
use Rattle.tree_steps.specs.declared.call.TreeCall.TheVariants as tree-call

-- the machine's call
abbrev pub call_of : TreeCall → Call
call_of (tree-call.Add r v p) = add r.0 v p.0
call_of (tree-call.Commit r) = commit r.0

-- what a call with row n and status s leaves: of an add, the ADDED ones that its edge crosses of the n rows before made GHOST, and its node; of a
-- commit, the status
abbrev pub call_written : List ℕ → Call → ℕ → ℕ → List ℕ
call_written ws (add r v p) n s = words (map (strike_crossed r p) (rows_of ws n) ++ node_of r p v s ∷ []) ++ drop (4 * n + 4) ws
call_written ws (commit r) n s = set ws (4 * n + 3) s

-- how many of the rows before it a call that writes into row n strikes
abbrev pub call_strikes : List ℕ → Call → ℕ → ℕ
call_strikes ws (add r v p) n = how_many (crossed_with ADDED r p) (rows_of ws n)
call_strikes ws (commit r) n = 0

-- a row and a status which, written, make the machine's table; how many others are struck, which is how many rounds are made GHOST
pub record PlanMakes (valued : Bool) (ws : List ℕ) (c : Call) (plan : Plan) : Type 0 where
  pub fits : 4 * plan.row + 4 ≤ length ws
  pub makes : call_written ws c plan.row plan.status ≡ table (length ws) (change (nodes ws) c)
  pub strikes_is : plan.strikes ≡ call_strikes ws c plan.row
  pub ghosts_are : plan.strikes ≡ stepped_ghosts valued ws c

-- the machine's number and, where that is OK, such a plan
pub record Planned (valued : Bool) (ws : List ℕ) (c : Call) (planned : Result Plan Refusal) : Type 0 where
  pub number_is : number_of planned ≡ answer valued (rows ws) (nodes ws) c
  pub plan_is : IfOk planned (PlanMakes valued ws c)
