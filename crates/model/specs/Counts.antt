-- The trees that the proposals and decisions made leave, and what play's result counts (01, "For the reviewer"), over all slots (02, ticket 6): accepted is
-- the zeros among the answers, messages the rows used, proposals the nodes less the roots, decisions the COMMITTED less the roots. And how many rounds were
-- made GHOST (02, ticket 3).
use Rattle.std.specs.Prelude.{true, cond, List, [], ◌∷◌, ℕ, zero, suc, ◌+◌, eqb}
use Rattle.ids.specs.Ranges.{SLOTS}
use Rattle.numbers.specs.Numbers.{OK}
use Rattle.laws.specs.Lists.{how_many}
use Rattle.tree_theory.specs.Machine.{Node, COMMITTED, has_status, fresh}
use Rattle.tree_theory.specs.Ghosts.{ghosts_made, ghosts_born, over_adds}
use Rattle.tree_theory.specs.Machine.{after as after-calls}
use Rattle.member.specs.Table.{Named, nothing, proposal, decision}
use Rattle.model.specs.Model.{Sizes, Office, Event, made_in, event_answer, next}
use Rattle.model.specs.Demand.{calls}

-- the tree of slot s: its proposals and decisions, in the order made, from a fresh table of the rows lent
abbrev pub made_tree : Sizes → Office → ℕ → List Node
made_tree z o s = after-calls true (z.tables s) fresh (calls (made_in o s))

-- how many rounds its proposals made GHOST, from the tables before and after each (02, ticket 3)
abbrev pub made_ghosts : Sizes → Office → ℕ → ℕ
made_ghosts z o s = over_adds ghosts_made true (z.tables s) fresh (calls (made_in o s))

-- and how many were born so
abbrev pub born_ghosts : Sizes → Office → ℕ → ℕ
born_ghosts z o s = over_adds ghosts_born true (z.tables s) fresh (calls (made_in o s))

-- the sum over the slots below k
unfoldable pub sum_below : (ℕ → ℕ) → ℕ → ℕ
sum_below f zero = 0
sum_below f (suc k) = sum_below f k + f k

-- over all slots
abbrev pub over_slots : (ℕ → ℕ) → ℕ
over_slots f = sum_below f SLOTS

-- how many decisions a sequence has
unfoldable pub decisions : List Named → ℕ
decisions [] = 0
decisions (nothing ∷ ns) = decisions ns
decisions (proposal r x b ∷ ns) = decisions ns
decisions (decision r x ∷ ns) = suc (decisions ns)

-- how many nodes are COMMITTED
abbrev pub committed_nodes : List Node → ℕ
committed_nodes ns = how_many (has_status COMMITTED) ns

-- how many answers are 0
abbrev pub zeros : List ℕ → ℕ
zeros answers = how_many (λ a. eqb a OK) answers

-- how many events are accepted
unfoldable pub accepted_events : Sizes → Office → List Event → ℕ
unfolding event_answer next
accepted_events z o [] = 0
accepted_events z o (e ∷ es) = cond (eqb (event_answer z o e) OK) (suc (accepted_events z (next z o e) es)) (accepted_events z (next z o e) es)
