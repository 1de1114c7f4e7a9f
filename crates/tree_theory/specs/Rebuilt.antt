-- The second demand's history statuses: what any list of calls from fresh leaves is told by the calls that were accepted, and which these are is read
-- off the numbers that the calls gave (01, "History status"). So an add or a commit that answers 0 and writes nothing is ruled out.
use Rattle.std.specs.Prelude.{◌≡◌, Bool, cond, List, [], ◌∷◌, ◌++◌, ℕ, ◌-◌, length, replicate, eqb}
use Rattle.numbers.specs.Numbers.{OK}
use Rattle.tree_theory.specs.Machine.{Call, add, commit, COMMITTED, Node, node_of, root, fresh, answers, after}
use Rattle.tree_theory.specs.Properties.{history}
use Rattle.tree_theory.specs.Table.{call_numbers, calls_table, fresh_table}

-- of a list of calls those that got OK, by the list of their numbers
unfoldable pub with_ok : List Call → List ℕ → List Call
with_ok [] numbers = []
with_ok (c ∷ cs) [] = []
with_ok (c ∷ cs) (n ∷ numbers) = cond (eqb n OK) (c ∷ with_ok cs numbers) (with_ok cs numbers)

-- the accepted ones of a list of calls
abbrev pub accepted : Bool → ℕ → List Node → List Call → List Call
accepted valued rows ns cs = with_ok cs (answers valued rows ns cs)

abbrev pub accepted_on_words : Bool → List ℕ → List Call → List Call
accepted_on_words valued ws cs = with_ok cs (call_numbers valued ws cs)

-- the node of an add, where h are the accepted calls
abbrev pub made : List Call → ℕ → ℕ → ℕ → Node
made h r v p = node_of r p v (history h r)

-- a node for each add of a list, in order
unfoldable pub added_nodes : List Call → List Call → List Node
added_nodes h [] = []
added_nodes h (add r v p ∷ cs) = made h r v p ∷ added_nodes h cs
added_nodes h (commit r ∷ cs) = added_nodes h cs

-- the nodes that the accepted calls h tell
abbrev pub rebuilt : List Call → List Node
rebuilt h = root ∷ added_nodes h h

-- the same in words: round, parent, value, history status
unfoldable pub added_words : List Call → List Call → List ℕ
added_words h [] = []
added_words h (add r v p ∷ cs) = r ∷ p ∷ v ∷ history h r ∷ added_words h cs
added_words h (commit r ∷ cs) = added_words h cs

abbrev pub rebuilt_words : List Call → List ℕ
rebuilt_words h = 0 ∷ 0 ∷ 0 ∷ COMMITTED ∷ added_words h h

-- the table of `len` words that they tell: the root, a row for each add, free rows all zeros
abbrev pub rebuilt_table : ℕ → List Call → List ℕ
rebuilt_table len h = rebuilt_words h ++ replicate (len - length (rebuilt_words h)) 0

-- after any list of calls from fresh, refused ones included: the nodes
abbrev pub ToldNodes : Bool → ℕ → List Call → Type 0
ToldNodes valued rows cs = after valued rows fresh cs ≡ rebuilt (accepted valued rows fresh cs)

-- and the words, where all is done on a table of words that was made fresh
pub record ToldTable (valued : Bool) (ws : List ℕ) (cs : List Call) : Type 0 where
  pub table_is : calls_table valued (fresh_table ws) cs ≡ rebuilt_table (length ws) (accepted_on_words valued (fresh_table ws) cs)
  pub length_is : length (calls_table valued (fresh_table ws) cs) ≡ length ws
