-- The machine (01, "The tree"; Algorithm 1 of source document 001, with 01's tests), and lists of calls of it.
-- `valued` says which kind of tree it is: a value tree, where the value test, number 7, is made, or a command tree (02, ticket 1), where it isn't.
use Rattle.std.specs.Prelude.{Bool, true, false, cond, ◌&&◌, ◌||◌, not, List, [], ◌∷◌, ◌++◌, map, ℕ, zero, suc, length, ltb, leb, eqb}
use Rattle.laws.specs.Lists.{any}
use Rattle.ids.specs.Ranges.{out_of_range}
use Rattle.laws.specs.First.{Cause, ◌gives◌, first}
use Rattle.numbers.specs.Numbers.{OK, ROUND_RANGE, ROUND_PRESENT, PARENT_ABSENT, PARENT_NOT_BELOW, VALUE_DIFFERS, CROSSES_COMMITTED, NO_FREE_ROW}
use Rattle.numbers.specs.Numbers.{ROUND_ABSENT, IS_COMMITTED, IS_GHOST, no_row_left}

-- a used row of the node table
pub record Node : Type 0 where
  pub round : ℕ
  pub parent : ℕ
  pub value : ℕ
  pub status : ℕ

-- the status of a free row
abbrev pub FREE : ℕ
FREE = 0

abbrev pub ADDED : ℕ
ADDED = 1

abbrev pub GHOST : ℕ
GHOST = 2

abbrev pub COMMITTED : ℕ
COMMITTED = 3

abbrev pub node_of : ℕ → ℕ → ℕ → ℕ → Node
node_of r p v s = record { round = r; parent = p; value = v; status = s }

abbrev pub with_status : Node → ℕ → Node
with_status n s = node_of n.round n.parent n.value s

abbrev pub root : Node
root = node_of 0 0 0 COMMITTED

-- the nodes of a fresh table
abbrev pub fresh : List Node
fresh = root ∷ []

pub data Call : Type 0 where
  add : (r v p : ℕ) → Call
  commit : (r : ℕ) → Call

-- the edge (r, p) crosses c: p < c < r
abbrev pub crosses : ℕ → ℕ → ℕ → Bool
crosses r p c = ltb p c && ltb c r

abbrev pub has_round : ℕ → Node → Bool
has_round r n = eqb n.round r

abbrev pub has_status : ℕ → Node → Bool
has_status s n = eqb n.status s

abbrev pub present : ℕ → List Node → Bool
present r ns = any (has_round r) ns

-- the node of round r; the root where r is absent
unfoldable pub find : ℕ → List Node → Node
find r [] = root
find r (n ∷ ns) = cond (has_round r n) n (find r ns)

-- the path of the root is 0 alone; any other path is the path of the parent with the round put after it.
-- A parent is below its round, so r steps are enough.
unfoldable pub path_in : ℕ → List Node → ℕ → List ℕ
path_in zero ns r = 0 ∷ []
path_in (suc k) ns r = elim (eqb r 0) [ true ↦ 0 ∷ [] | false ↦ path_in k ns (find r ns).parent ++ r ∷ [] ]

abbrev pub path : List Node → ℕ → List ℕ
path ns r = path_in r ns r

-- c is an ancestor of a node whose parent is p
abbrev pub ancestor : List Node → ℕ → ℕ → Bool
ancestor ns p c = any (eqb c) (path ns p)

-- a node of status s that the edge (r, p) crosses
abbrev pub crossed_with : ℕ → ℕ → ℕ → Node → Bool
crossed_with s r p n = eqb n.status s && crosses r p n.round

-- a COMMITTED one
abbrev pub blocks : ℕ → ℕ → Node → Bool
blocks r p n = crossed_with COMMITTED r p n

-- v is not the value of the parent p, which isn't the root
abbrev pub other_value : List Node → ℕ → ℕ → Bool
other_value ns v p = not (eqb p 0) && not (eqb v (find p ns).value)

-- why a call is refused, in the order of the place table, where `rows` is the number of rows of the table
unfoldable pub causes : Bool → ℕ → List Node → Call → List Cause
causes valued rows ns (add r v p) =
    out_of_range r gives ROUND_RANGE ∷
    present r ns gives ROUND_PRESENT ∷
    not (present p ns) gives PARENT_ABSENT ∷
    leb r p gives PARENT_NOT_BELOW ∷
    (valued && other_value ns v p) gives VALUE_DIFFERS ∷
    any (blocks r p) ns gives CROSSES_COMMITTED ∷
    no_row_left rows (length ns) gives NO_FREE_ROW ∷ []
causes valued rows ns (commit r) =
    out_of_range r gives ROUND_RANGE ∷
    not (present r ns) gives ROUND_ABSENT ∷
    eqb (find r ns).status COMMITTED gives IS_COMMITTED ∷
    eqb (find r ns).status GHOST gives IS_GHOST ∷ []

-- 0 (OK) or the number of the first cause
unfoldable pub answer : Bool → ℕ → List Node → Call → ℕ
unfolding causes
answer valued rows ns c = first (causes valued rows ns c)

-- the ADDED nodes that add(r, v, p) makes GHOST: those that (r, p) crosses, and every other below r that isn't an ancestor of r
abbrev pub strikes : List Node → ℕ → ℕ → Node → Bool
strikes ns r p n = eqb n.status ADDED && (crosses r p n.round || (ltb n.round r && not (ancestor ns p n.round)))

unfoldable pub struck : List Node → ℕ → ℕ → Node → Node
struck ns r p n = cond (strikes ns r p n) (with_status n GHOST) n

-- the ADDED nodes that (r, p) crosses made GHOST. Of a tree's nodes an accepted add strikes no others: the theorem `struck_crossed`.
abbrev pub strike_crossed : ℕ → ℕ → Node → Node
strike_crossed r p n = cond (crossed_with ADDED r p n) (with_status n GHOST) n

abbrev pub above : ℕ → Node → Bool
above r n = ltb r n.round

-- the node that add(r, v, p) makes: GHOST if any round above r is present, else ADDED
unfoldable pub new_node : List Node → ℕ → ℕ → ℕ → Node
new_node ns r v p = node_of r p v (cond (any (above r) ns) GHOST ADDED)

unfoldable pub commit_node : ℕ → Node → Node
commit_node r n = cond (has_round r n) (with_status n COMMITTED) n

-- what an accepted call makes of the nodes; they stand in order of adding
unfoldable pub change : List Node → Call → List Node
change ns (add r v p) = map (struck ns r p) ns ++ new_node ns r v p ∷ []
change ns (commit r) = map (commit_node r) ns

-- one call: a refused one changes nothing
unfoldable pub step : Bool → ℕ → List Node → Call → List Node
unfolding answer change
step valued rows ns c = cond (eqb (answer valued rows ns c) OK) (change ns c) ns

-- the nodes after a list of calls
unfoldable pub after : Bool → ℕ → List Node → List Call → List Node
unfolding step
after valued rows ns [] = ns
after valued rows ns (c ∷ cs) = after valued rows (step valued rows ns c) cs

-- the answers to a list of calls
unfoldable pub answers : Bool → ℕ → List Node → List Call → List ℕ
unfolding step
answers valued rows ns [] = []
answers valued rows ns (c ∷ cs) = answer valued rows ns c ∷ answers valued rows (step valued rows ns c) cs
