-- The code's test for a tree, row by row, and not 01's words. That it decides `is_tree` is the theorem `checks_exact`.
use Rattle.std.specs.Prelude.{Bool, true, cond, ◌&&◌, ◌||◌, not, List, ℕ, zero, suc, ◌*◌, length, get_or, ltb, leb, eqb}
use Rattle.laws.specs.Lists.{any}
use Rattle.ids.specs.Ranges.{out_of_range}
use Rattle.tree_theory.specs.Machine.{Node, ADDED, GHOST, COMMITTED, crosses, present, find, other_value}
use Rattle.tree_theory.specs.Table.{row, rows_of, used}

-- the edge of a node crosses c
abbrev pub edge_over : ℕ → Node → Bool
edge_over c n = crosses n.round n.parent c

-- some edge crosses c
abbrev pub crossed : ℕ → List Node → Bool
crossed c ns = any (edge_over c) ns

-- the round is in range and no earlier one
abbrev pub round_fits : List Node → Node → Bool
round_fits earlier n = not (out_of_range n.round) && not (present n.round earlier)

-- the parent is an earlier round, and lower
abbrev pub parent_fits : List Node → Node → Bool
parent_fits earlier n = present n.parent earlier && ltb n.parent n.round

-- in a value tree, the value is the parent's, unless that is the root
abbrev pub value_fits : Bool → List Node → Node → Bool
value_fits valued earlier n = not (valued && other_value earlier n.value n.parent)

-- GHOST if some edge crosses the round, else ADDED or COMMITTED
abbrev pub status_fits : List Node → Node → Bool
status_fits all n = cond (crossed n.round all) (eqb n.status GHOST) (eqb n.status ADDED || eqb n.status COMMITTED)

-- a node behind the root fits the nodes before it and all nodes
unfoldable pub fits : Bool → List Node → List Node → Node → Bool
unfolding find
fits valued earlier all n = round_fits earlier n && (parent_fits earlier n && (value_fits valued earlier n && status_fits all n))

-- the words 0, 0, 0, 3
abbrev pub is_root : Node → Bool
is_root n = eqb n.round 0 && (eqb n.parent 0 && (eqb n.value 0 && eqb n.status COMMITTED))

-- row i of n used rows
unfoldable pub row_fits : Bool → List ℕ → ℕ → ℕ → Bool
unfolding fits rows_of
row_fits valued ws n i = cond (eqb i 0) (is_root (row ws 0)) (fits valued (rows_of ws i) (rows_of ws n) (row ws i))

-- the first i of n used rows
unfoldable pub fits_to : Bool → List ℕ → ℕ → ℕ → Bool
unfolding row_fits
fits_to valued ws n zero = true
fits_to valued ws n (suc i) = fits_to valued ws n i && row_fits valued ws n i

-- of the first j words those from word a on are 0
unfoldable pub zeros_to : List ℕ → ℕ → ℕ → Bool
zeros_to ws a zero = true
zeros_to ws a (suc j) = zeros_to ws a j && (ltb j a || eqb (get_or ws j 0) 0)

-- the free rows are all zeros
abbrev pub free_zero : List ℕ → Bool
free_zero ws = zeros_to ws (4 * used ws) (length ws)

-- the root row, then used rows, then free rows
unfoldable pub checks : Bool → List ℕ → Bool
unfolding fits_to zeros_to
checks valued ws = leb 1 (used ws) && (fits_to valued ws (used ws) (used ws) && free_zero ws)
