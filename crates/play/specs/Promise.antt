-- What play promises, on every answer: the number, the five counts, the answers, the store, with equal JOINs in it, and the tables of the eight slots, and the
-- third demand.
use Rattle.std.specs.Prelude.{◌≡◌, true, cond, not, ◌||◌, Result, Ok, Err, List, ◌∷◌, ℕ, ◌+◌, ◌<◌, length, ltb}
use Rattle.laws.specs.First.{Cause, ◌gives◌, first}
use Rattle.ids.specs.Ranges.{SLOTS}
use Rattle.numbers.specs.declared.Refusal.{Refusal}
use Rattle.numbers.specs.Numbers.{OK, LIST_SHAPE, OFFICE_SIZE, STORE_OR_ANSWERS, refusal_number}
use Rattle.tree_theory.specs.Machine.{Node, GHOST, fresh, has_status, find}
use Rattle.tree_theory.specs.Table.{nodes}
use Rattle.tree_theory.specs.Ghosts.{ghost_nodes, made_ghost, born_ghost, over_adds, once}
use Rattle.member_record.specs.Record.{allowed}
use Rattle.model.specs.Model.{made_in}
use Rattle.model.specs.Demand.{Demand, calls, ended}
use Rattle.model.specs.Counts.{committed_nodes, born_ghosts, over_slots}
use Rattle.play_events.specs.List.{members_of, count_of, list_fits, events_of}
use Rattle.play_store.specs.Rows.{store_sized}
use Rattle.play_tables.specs.Tables.{table_at, eight_causes}
use Rattle.play_run.specs.declared.Played.{Played}
use Rattle.play_run.specs.Answer.{PlayAnswer, taken_answer}
use Rattle.play_run.specs.Lent.{Lent}
use Rattle.play_run.specs.Ran.{sizes_of, Ran}

-- the row "list" of the place table: 26 count above 1,000, or bytes, count and kinds don't match; 27 N; 28 store not 1 to 2,000 whole rows, or
-- too few answer bytes; then 1, of the eight tables in slot order. `ls` has their lengths
abbrev pub list_causes : List ℕ → List ℕ → Lent → List Cause
list_causes list ls L =
    not (list_fits list) gives LIST_SHAPE ∷
    not (allowed (members_of list)) gives OFFICE_SIZE ∷
    (not (store_sized L.store) || ltb (length L.answers) (count_of list)) gives STORE_OR_ANSWERS ∷
    eight_causes ls L.words

unfoldable pub play_number : List ℕ → List ℕ → Lent → ℕ
play_number list ls L = first (list_causes list ls L)

-- with a refusal each count is 0
abbrev pub refused_list : ℕ → PlayAnswer
refused_list number = record { number = number; accepted = 0; messages = 0; proposals = 0; decisions = 0; ghosts = 0 }

-- what a list is answered with
abbrev pub answer_of : Result Played Refusal → PlayAnswer
answer_of (Ok p) = taken_answer p
answer_of (Err e) = refused_list (refusal_number e)

-- the nodes in the table of slot s
abbrev pub nodes_in : List ℕ → Lent → ℕ → List Node
nodes_in ls L s = nodes (table_at ls L.words s)

-- A list that play takes: what its events come to, the third demand, and what is counted off the tables.
pub record TakenList (list ls : List ℕ) (L : Lent) (r : PlayAnswer) (L' : Lent) : Type 0 where
  pub played : Ran list ls L r L'
  -- the third demand, of each slot
  pub demand : Demand (sizes_of list ls L.store) (events_of list) (table_at ls L'.words)
  -- proposals are the nodes less the roots, decisions the COMMITTED less the roots
  pub proposals_are : r.proposals + SLOTS ≡ over_slots (λ s. length (nodes_in ls L' s))
  pub decisions_are : r.decisions + SLOTS ≡ over_slots (λ s. committed_nodes (nodes_in ls L' s))
  -- the GHOST nodes are as many as the proposals made GHOST, and as were born GHOST
  pub ghosts_left :
      let z = sizes_of list ls L.store in
      over_slots (λ s. ghost_nodes (nodes_in ls L' s)) ≡ r.ghosts + over_slots (born_ghosts z (ended z (events_of list)))
  -- and round by round, in each slot: one that is GHOST was made so by one proposal or was born so, and any other by none
  pub ghosts_once : (s k : ℕ) → s < SLOTS →
      let z = sizes_of list ls L.store in
      let made = calls (made_in (ended z (events_of list)) s) in
      cond (has_status GHOST (find k (nodes_in ls L' s))) 1 0 ≡
      over_adds (once made_ghost k) true (z.tables s) fresh made + over_adds (once born_ghost k) true (z.tables s) fresh made

-- a refused list leaves everything, and counts nothing
pub record RefusedList (L : Lent) (r : PlayAnswer) (L' : Lent) : Type 0 where
  pub counts_none : r ≡ refused_list r.number
  pub lent_stays : L' ≡ L

-- Play's promise, on every answer.
pub record Given (list ls : List ℕ) (L : Lent) (r : PlayAnswer) (L' : Lent) : Type 0 where
  pub number_is : r.number ≡ play_number list ls L
  pub taken : r.number ≡ OK → TakenList list ls L r L'
  pub refused : (r.number ≡ OK → ⊥) → RefusedList L r L'
