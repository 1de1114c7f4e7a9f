-- How many rounds an add makes GHOST, from the tables before and after it; the sum over a list of calls, and how it is tied to the table left
-- (02, ticket 3).
use Rattle.std.specs.Prelude.{◌≡◌, Bool, cond, ◌&&◌, not, List, [], ◌∷◌, map, ℕ, ◌+◌, eqb}
use Rattle.laws.specs.Lists.{how_many}
use Rattle.numbers.specs.Numbers.{OK}
use Rattle.tree_theory.specs.Machine.{Node, Call, add, commit, ADDED, GHOST, has_status, present, find, fresh, step, after}
use Rattle.tree_theory.specs.Table.{rows, nodes, call_number, call_table}

-- the rounds of a table, in the order of its rows
abbrev pub rounds : List Node → List ℕ
rounds ns = map (λ n. n.round) ns

-- round r was ADDED before and is GHOST after
abbrev pub made_ghost : List Node → List Node → ℕ → Bool
made_ghost before after r = has_status ADDED (find r before) && has_status GHOST (find r after)

-- how many rounds of the table before are made so
unfoldable pub ghosts_made : List Node → List Node → ℕ
ghosts_made before after = how_many (made_ghost before after) (rounds before)

-- round r was absent before and is GHOST after
abbrev pub born_ghost : List Node → List Node → ℕ → Bool
born_ghost before after r = not (present r before) && has_status GHOST (find r after)

-- how many rounds of the table after are born so
unfoldable pub ghosts_born : List Node → List Node → ℕ
ghosts_born before after = how_many (born_ghost before after) (rounds after)

-- what the tables before and after an add come to; a commit isn't asked
abbrev pub at_add : (List Node → List Node → ℕ) → Bool → ℕ → List Node → Call → ℕ
at_add f valued rows ns (add r v p) = f ns (step valued rows ns (add r v p))
at_add f valued rows ns (commit r) = 0

-- and the sum of that over the adds of a list of calls
unfoldable pub over_adds : (List Node → List Node → ℕ) → Bool → ℕ → List Node → List Call → ℕ
over_adds f valued rows ns [] = 0
over_adds f valued rows ns (c ∷ cs) = at_add f valued rows ns c + over_adds f valued rows (step valued rows ns c) cs

-- how many nodes are GHOST
abbrev pub ghost_nodes : List Node → ℕ
ghost_nodes ns = how_many (has_status GHOST) ns

-- 1 if a test of the tables before and after holds of round r
abbrev pub once : (List Node → List Node → ℕ → Bool) → ℕ → List Node → List Node → ℕ
once test r before after = cond (test before after r) 1 0

-- the table that calls from fresh leave
pub record GhostsAddUp (valued : Bool) (rows : ℕ) (cs : List Call) : Type 0 where
  -- its GHOST rows are as many as the adds made GHOST and as were born GHOST
  pub rows_are : ghost_nodes (after valued rows fresh cs) ≡
      over_adds ghosts_made valued rows fresh cs + over_adds ghosts_born valued rows fresh cs
  -- a round that is GHOST there was made so by one add or was born so, and any other by none
  pub each_once : (r : ℕ) → cond (has_status GHOST (find r (after valued rows fresh cs))) 1 0 ≡
      over_adds (once made_ghost r) valued rows fresh cs + over_adds (once born_ghost r) valued rows fresh cs

-- how many rounds the machine's call on the nodes of a table makes GHOST
abbrev pub stepped_ghosts : Bool → List ℕ → Call → ℕ
stepped_ghosts valued ws c = at_add ghosts_made valued (rows ws) (nodes ws) c

-- on a lent table: how many rounds an add that gets OK makes GHOST, from the tables before and after it; a refusal makes none
unfoldable pub table_ghosts : Bool → List ℕ → Call → ℕ
table_ghosts valued ws (add r v p) =
    cond (eqb (call_number valued ws (add r v p)) OK) (ghosts_made (nodes ws) (nodes (call_table valued ws (add r v p)))) 0
table_ghosts valued ws (commit r) = 0
