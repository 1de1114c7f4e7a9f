-- What the events of a list come to: the five counts, the answers, the store and the tables.
use Rattle.std.specs.Prelude.{◌≡◌, true, cond, List, [], ◌++◌, ℕ, ◌-◌, ◌/◌, ◌<◌, ◌≤◌, length, take, drop, eqb}
use Rattle.ids.specs.declared.Slot.{Slot}
use Rattle.ids.specs.Ranges.{SLOTS}
use Rattle.numbers.specs.Numbers.{OK}
use Rattle.tree_theory.specs.Machine.{fresh}
use Rattle.tree_theory.specs.Table.{table}
use Rattle.member_record.specs.Record.{allowed}
use Rattle.member.specs.declared.StepAnswer.{StepAnswer}
use Rattle.model.specs.Model.{Sizes, Event, Office, first_office, made_in, event_answers, proposals}
use Rattle.model.specs.Demand.{ended}
use Rattle.model.specs.Joins.{JoinIn}
use Rattle.model.specs.Counts.{made_tree, made_ghosts, zeros, decisions, over_slots}
use Rattle.play_events.specs.List.{members_of, count_of, list_fits, events_of}
use Rattle.play_store.specs.Rows.{store_rows, store_sized, stored, row_at, fetched}
use Rattle.play_tables.specs.Tables.{length_at, table_at, all_tables, TablesFit}
use Rattle.play_effects.specs.Effects.{EventEffect}
use Rattle.play_effects.specs.declared.Tally.{Tally}
use Rattle.play_effects.specs.Memory.{in_memory}
use Rattle.play_office.specs.Represents.{AnswerBefore, AnswerSettled}
use Rattle.play_run.specs.Answer.{PlayAnswer}
use Rattle.play_run.specs.Lent.{Lent}

-- what the model is fed: four words are a row
abbrev pub sizes_of : List ℕ → List ℕ → List ℕ → Sizes
sizes_of list ls store = record { n = members_of list; store = store_rows store; tables = λ s. length_at ls s / 4 }

-- 1 for an accepted event
abbrev pub one : ℕ → ℕ
one number = cond (eqb number OK) 1 0

-- two JOINs of one member of a slot for one round, in the rows used, are equal, byte for byte
abbrev pub SameJoinRows : List ℕ → ℕ → Type 0
SameJoinRows s used =
    (i j q r m : ℕ) → i < used → j < used → JoinIn q r m (fetched s i) → JoinIn q r m (fetched s j) → row_at s i ≡ row_at s j

-- the tables that the model's proposals and decisions make, one after another in slot order
abbrev pub made_tables : Sizes → List ℕ → Office → List ℕ
made_tables z ls o = all_tables (λ s. table (length_at ls s) (made_tree z o s)) SLOTS

-- What the events of a list come to, on what was lent. `z` is what the model is fed, `es` the events, `ls` the lengths of the tables.
pub record PlayedEvents (z : Sizes) (es : List Event) (ls : List ℕ) (L : Lent) (r : PlayAnswer) (L' : Lent) : Type 0 where
  pub number_ok : r.number ≡ OK
  -- one answer byte per event, as the model answers; bytes past the count stay
  pub answers_are : L'.answers ≡ event_answers z (first_office z.n) es ++ drop (length es) L.answers
  -- message k at the front of row k, zeros after
  pub store_is : L'.store ≡ stored (length L.store) (ended z es).sent
  -- a member's JOINs for one round are equal, byte for byte, however often START was repeated
  pub joins_same : SameJoinRows L'.store r.messages
  -- of each slot the tree that the model's proposals and decisions make, in every row
  pub tables_are : L'.words ≡ made_tables z ls (ended z es)
  -- accepted is the zeros among the answers, messages the rows used
  pub accepted_is : r.accepted ≡ zeros (event_answers z (first_office z.n) es)
  pub messages_are : r.messages ≡ length (ended z es).sent
  -- of all slots
  pub proposals_made : r.proposals ≡ over_slots (λ s. proposals (made_in (ended z es) s))
  pub decisions_made : r.decisions ≡ over_slots (λ s. decisions (made_in (ended z es) s))
  -- the rounds that the proposals made GHOST, from the tables before and after each
  pub ghosts_are : r.ghosts ≡ over_slots (made_ghosts z (ended z es))

-- a list that play takes, a cleared store and fresh tables
pub record Ready (list ls : List ℕ) (L : Lent) : Type 0 where
  pub fits : list_fits list ≡ true
  pub members : allowed (members_of list) ≡ true
  pub store_length : store_sized L.store ≡ true
  pub cleared : L.store ≡ stored (length L.store) []
  pub tables_fit : TablesFit ls L.words
  pub are_fresh : (s : ℕ) → s < SLOTS → table_at ls L.words s ≡ table (length_at ls s) fresh
  pub room : count_of list ≤ length L.answers

abbrev pub Ran : List ℕ → List ℕ → Lent → PlayAnswer → Lent → Type 0
Ran list ls L r L' = PlayedEvents (sizes_of list ls L.store) (events_of list) ls L r L'

-- the words from one place to another
abbrev pub part : ℕ → ℕ → List ℕ → List ℕ
part from to ws = take (to - from) (drop from ws)

-- before an answer takes effect on the store and the table that stands from one place of the words to another
pub record SettleBefore (t : Tally) (slot : Slot) (a : StepAnswer) (from to : ℕ) (store ws : List ℕ) : Type 0 where
  pub starts : from ≤ to
  pub ends : to ≤ length ws
  pub answer : AnswerBefore t slot a (in_memory store (part from to ws))

-- it took effect: that table is written over, and the words beside it are what they were
pub record PartSettled (t : Tally) (slot : Slot) (a : StepAnswer) (from to : ℕ) (store ws : List ℕ) (w : EventEffect) (store' ws' : List ℕ) : Type 0 where
  pub left : List ℕ
  pub settled : AnswerSettled t slot a (in_memory store (part from to ws)) w (in_memory store' left)
  pub words_are : ws' ≡ take from ws ++ (left ++ drop (to - from) (drop from ws))
  pub long : length left ≡ to - from
