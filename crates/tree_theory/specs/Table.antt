-- The node table: words in lent memory, four a row. Which tables are trees, and what the calls make of one (01, "The tree" and the
-- rows table, round, add, commit, path and last of the place table).
use Rattle.std.specs.Prelude.{◌≡◌, Bool, true, false, cond, ◌&&◌, not, List, [], ◌∷◌, ◌++◌, ℕ, zero, suc, ◌+◌, ◌-◌, ◌*◌, ◌/◌, ◌%◌, length, get_or, replicate, drop, ltb, leb, eqb}
use Rattle.laws.specs.First.{Cause, ◌gives◌, first}
use Rattle.ids.specs.Ranges.{above_range}
use Rattle.numbers.specs.Numbers.{OK, TABLE_LENGTH, NOT_A_TREE, ROUND_RANGE, ROUND_ABSENT, PATH_TOO_LONG}
use Rattle.tree_theory.specs.Machine.{Node, node_of, Call, add, commit, FREE, COMMITTED, fresh, present, path, causes, change, after}

-- the longest table: 256 rows
abbrev pub MOST_WORDS : ℕ
MOST_WORDS = 1024

-- the length of a table: a multiple of 4 from 4 to 1,024
abbrev pub sized_length : ℕ → Bool
sized_length n = eqb (n % 4) 0 && (leb 4 n && leb n MOST_WORDS)

abbrev pub sized : List ℕ → Bool
sized ws = sized_length (length ws)

abbrev pub rows : List ℕ → ℕ
rows ws = length ws / 4

-- four words a node: round, parent, value, status
unfoldable pub words : List Node → List ℕ
words [] = []
words (n ∷ ns) = n.round ∷ n.parent ∷ n.value ∷ n.status ∷ words ns

-- a table of `len` words: the nodes, then free rows, all zeros
unfoldable pub table : ℕ → List Node → List ℕ
unfolding words
table len ns = words ns ++ replicate (len - 4 * length ns) 0

-- A table is a tree if some list of calls from fresh leaves it, calls of that kind of tree.
pub record Tree (valued : Bool) (ws : List ℕ) : Type 0 where
  pub calls : List Call
  pub left : table (length ws) (after valued (rows ws) fresh calls) ≡ ws

-- what the calls on a tree ask of the words that they are lent: a table of an allowed length that is a tree
pub record TreeTable (valued : Bool) (ws : List ℕ) : Type 0 where
  pub long : sized ws ≡ true
  pub tree : Tree valued ws

-- row i of a table, read as a node
abbrev pub row : List ℕ → ℕ → Node
row ws i = node_of (get_or ws (4 * i) 0) (get_or ws (4 * i + 1) 0) (get_or ws (4 * i + 2) 0) (get_or ws (4 * i + 3) 0)

-- the first n rows
unfoldable pub rows_of : List ℕ → ℕ → List Node
rows_of ws zero = []
rows_of ws (suc i) = rows_of ws i ++ row ws i ∷ []

-- how many rows stand before the first FREE one, from row i on with k rows to go
unfoldable pub used_from : List ℕ → ℕ → ℕ → ℕ
used_from ws zero i = i
used_from ws (suc k) i = elim (eqb (row ws i).status FREE) [ true ↦ i | false ↦ used_from ws k (suc i) ]

abbrev pub used : List ℕ → ℕ
used ws = used_from ws (rows ws) 0

-- the used rows
abbrev pub nodes : List ℕ → List Node
nodes ws = rows_of ws (used ws)

-- the calls read off nodes: an add for each, then a commit for each that is COMMITTED
unfoldable pub adds_of : List Node → List Call
adds_of [] = []
adds_of (n ∷ ns) = add n.round n.value n.parent ∷ adds_of ns

unfoldable pub commits_of : List Node → List Call
commits_of [] = []
commits_of (n ∷ ns) = cond (eqb n.status COMMITTED) (commit n.round ∷ commits_of ns) (commits_of ns)

abbrev pub behind_root : List Node → List Node
behind_root [] = []
behind_root (n ∷ ns) = ns

unfoldable pub calls_of : List Node → List Call
unfolding adds_of commits_of
calls_of ns = adds_of (behind_root ns) ++ commits_of (behind_root ns)

unfoldable pub same_words : List ℕ → List ℕ → Bool
same_words [] [] = true
same_words [] (y ∷ ys) = false
same_words (x ∷ xs) [] = false
same_words (x ∷ xs) (y ∷ ys) = eqb x y && same_words xs ys

-- the table is the one that the calls read off its rows leave. That this decides `Tree` is the theorem `is_tree_exact`.
unfoldable pub is_tree : Bool → List ℕ → Bool
unfolding table after calls_of same_words rows_of used_from
is_tree valued ws = same_words (table (length ws) (after valued (rows ws) fresh (calls_of (nodes ws)))) ws

-- the row "table" of the place table
abbrev pub table_causes : Bool → List ℕ → List Cause
table_causes valued ws = not (sized ws) gives TABLE_LENGTH ∷ not (is_tree valued ws) gives NOT_A_TREE ∷ []

-- add and commit on a lent table: the number, and the table after
unfoldable pub call_number : Bool → List ℕ → Call → ℕ
unfolding is_tree causes
call_number valued ws c = first (table_causes valued ws ++ causes valued (rows ws) (nodes ws) c)

unfoldable pub call_table : Bool → List ℕ → Call → List ℕ
unfolding call_number table change
call_table valued ws c = cond (eqb (call_number valued ws c) OK) (table (length ws) (change (nodes ws) c)) ws

-- a list of calls on a lent table, one after another: the numbers, and the table after
unfoldable pub call_numbers : Bool → List ℕ → List Call → List ℕ
unfolding call_table
call_numbers valued ws [] = []
call_numbers valued ws (c ∷ cs) = call_number valued ws c ∷ call_numbers valued (call_table valued ws c) cs

unfoldable pub calls_table : Bool → List ℕ → List Call → List ℕ
unfolding call_table
calls_table valued ws [] = ws
calls_table valued ws (c ∷ cs) = calls_table valued (call_table valued ws c) cs

-- fresh checks length only
unfoldable pub fresh_number : List ℕ → ℕ
fresh_number ws = first (not (sized ws) gives TABLE_LENGTH ∷ [])

unfoldable pub fresh_table : List ℕ → List ℕ
unfolding fresh_number table
fresh_table ws = cond (eqb (fresh_number ws) OK) (table (length ws) fresh) ws

-- the rows "round" and "path" of the place table
abbrev pub path_causes : List ℕ → ℕ → List ℕ → List Cause
path_causes ws r out =
    above_range r gives ROUND_RANGE ∷
    not (present r (nodes ws)) gives ROUND_ABSENT ∷
    ltb (length out) (length (path (nodes ws) r)) gives PATH_TOO_LONG ∷ []

-- path: the number, how many rounds, and the slice lent for them after
unfoldable pub path_number : Bool → List ℕ → ℕ → List ℕ → ℕ
unfolding is_tree
path_number valued ws r out = first (table_causes valued ws ++ path_causes ws r out)

unfoldable pub path_count : Bool → List ℕ → ℕ → List ℕ → ℕ
unfolding path_number
path_count valued ws r out = cond (eqb (path_number valued ws r out) OK) (length (path (nodes ws) r)) 0

unfoldable pub path_slice : Bool → List ℕ → ℕ → List ℕ → List ℕ
unfolding path_number
path_slice valued ws r out =
    cond (eqb (path_number valued ws r out) OK) (path (nodes ws) r ++ drop (length (path (nodes ws) r)) out) out
