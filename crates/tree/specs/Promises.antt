-- What the calls of a tree of either kind promise: an equation for the number, for each count and for each lent slice.
use Rattle.std.specs.Prelude.{◌≡◌, Bool, Result, List, ℕ, length}
use Rattle.std.specs.Result.{result_unwrap_or}
use Rattle.numbers.specs.declared.Refusal.{Refusal}
use Rattle.tree_theory.specs.Machine.{Call, answer, step}
use Rattle.tree_theory.specs.Table.{rows, nodes, table, Tree, call_number, call_table, path_number, path_count, path_slice}
use Rattle.tree_theory.specs.Ghosts.{stepped_ghosts, table_ghosts}
use Rattle.tree_theory.specs.Preview.{preview_number, preview_ghosts, preview_table}

-- how many an answer counts: rounds made GHOST, or rounds of a path; a refusal none
abbrev pub counted_of : Result ℕ Refusal → ℕ
counted_of answer = result_unwrap_or answer 0

-- add or commit of any table: the number, and the table left
pub record CalledOnTable (valued : Bool) (ws : List ℕ) (c : Call) (number : ℕ) (ws' : List ℕ) : Type 0 where
  pub number_is : number ≡ call_number valued ws c
  pub table_is : ws' ≡ call_table valued ws c

-- the table after the machine's step on its nodes
abbrev pub stepped_table : Bool → List ℕ → Call → List ℕ
stepped_table valued ws c = table (length ws) (step valued (rows ws) (nodes ws) c)

-- add or commit of a tree: the machine's number and the machine's table; it is a tree again
pub record CalledOnTree (valued : Bool) (ws : List ℕ) (c : Call) (number : ℕ) (ws' : List ℕ) : Type 0 where
  pub number_is : number ≡ answer valued (rows ws) (nodes ws) c
  pub table_is : ws' ≡ stepped_table valued ws c
  pub tree : Tree valued ws'

-- add or commit of any table: the number, the table left, and how many rounds were made GHOST; a commit counts none
pub record CountedOnTable (valued : Bool) (ws : List ℕ) (c : Call) (number ghosts : ℕ) (ws' : List ℕ) : Type 0 where
  pub called : CalledOnTable valued ws c number ws'
  pub ghosts_are : ghosts ≡ table_ghosts valued ws c

-- add or commit of a tree: the same by the machine's step
pub record CountedOnTree (valued : Bool) (ws : List ℕ) (c : Call) (number ghosts : ℕ) (ws' : List ℕ) : Type 0 where
  pub called : CalledOnTree valued ws c number ws'
  pub ghosts_are : ghosts ≡ stepped_ghosts valued ws c

-- a preview of any table ws in a second one us: the number, how many rounds the call would make GHOST, and both tables left
pub record Previewed (valued : Bool) (ws us : List ℕ) (c : Call) (number ghosts : ℕ) (ws' us' : List ℕ) : Type 0 where
  pub number_is : number ≡ preview_number valued ws us c
  pub ghosts_are : ghosts ≡ preview_ghosts valued ws us c
  pub first_is : ws' ≡ ws
  pub second_is : us' ≡ preview_table valued ws us c

-- path of any table: the number, how many rounds, and the slice lent for them
pub record PathGiven (valued : Bool) (ws : List ℕ) (r : ℕ) (out : List ℕ) (number count : ℕ) (out' : List ℕ) : Type 0 where
  pub number_is : number ≡ path_number valued ws r out
  pub count_is : count ≡ path_count valued ws r out
  pub slice_is : out' ≡ path_slice valued ws r out
