-- The recursion to the parent that writes a path: what it asks, and what it promises.
use Rattle.std.specs.Prelude.{◌≡◌, Bool, true, cond, Option, Some, None, List, ◌++◌, ℕ, ◌+◌, ◌≤◌, length, drop, leb}
use Rattle.tree_theory.specs.Machine.{present, path}
use Rattle.tree_theory.specs.Table.{MOST_WORDS, used, nodes, TreeTable}

-- what it asks: a tree with n used rows, r among them
pub record PathOf (ws : List ℕ) (n r behind : ℕ) : Type 0 where
  pub valued : Bool
  pub table : TreeTable valued ws
  pub rows_are : n ≡ used ws
  pub there : present r (nodes ws) ≡ true
  pub short : length (path (nodes ws) r) + behind ≤ MOST_WORDS

-- the path of r written, and how long it is, where out has room for it and for `behind` more rounds; else none, and out as it was
pub record PathWritten (ws : List ℕ) (r behind : ℕ) (out : List ℕ) (count : Option ℕ) (out' : List ℕ) : Type 0 where
  pub count_is : count ≡ cond (leb (length (path (nodes ws) r) + behind) (length out)) (Some (length (path (nodes ws) r))) None
  pub slice_is : out' ≡ cond (leb (length (path (nodes ws) r) + behind) (length out)) (path (nodes ws) r ++ drop (length (path (nodes ws) r)) out) out
