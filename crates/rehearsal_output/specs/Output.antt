-- What the rehearsal prints for a list, with 64 table rows for each slot and 1,000 store rows (01, "Play" and "Cases from the rig"; 02, ticket 6): in
-- decimal, one blank between numbers, a line feed after each line.
use Rattle.std.specs.Prelude.{Bool, true, false, cond, not, List, [], ◌∷◌, ◌++◌, ℕ, zero, suc, ◌*◌, get_or, replicate, eqb}
use Rattle.laws.specs.First.{◌gives◌, first}
use Rattle.ids.specs.Ranges.{SLOTS}
use Rattle.numbers.specs.Numbers.{OK, LIST_SHAPE, OFFICE_SIZE}
use Rattle.decimal.specs.Digits.{BLANK, decimal}
use Rattle.tree_theory.specs.Machine.{Node}
use Rattle.tree_theory.specs.Table.{nodes}
use Rattle.member_record.specs.Record.{allowed}
use Rattle.model.specs.Model.{Sizes, Event, first_office, event_answers}
use Rattle.model.specs.Demand.{ended}
use Rattle.model.specs.Counts.{made_tree}
use Rattle.play_events.specs.List.{LONGEST_LIST, members_of, list_fits, events_of}
use Rattle.play_tables.specs.Tables.{table_at}

-- of each slot
abbrev pub REHEARSAL_TABLE_ROWS : ℕ
REHEARSAL_TABLE_ROWS = 64

-- the words of a slot's table, and the lengths of the eight tables
abbrev pub REHEARSAL_TABLE_WORDS : ℕ
REHEARSAL_TABLE_WORDS = 4 * REHEARSAL_TABLE_ROWS

abbrev pub rehearsal_lengths : List ℕ
rehearsal_lengths = replicate SLOTS REHEARSAL_TABLE_WORDS

abbrev pub REHEARSAL_STORE_ROWS : ℕ
REHEARSAL_STORE_ROWS = 1000

abbrev pub LINE_FEED : ℕ
LINE_FEED = 10

-- a number of a line: the first, or behind a blank
abbrev pub in_line : Bool → ℕ → List ℕ
in_line true x = decimal x
in_line false x = BLANK ∷ decimal x

-- numbers behind the first of a line
unfoldable pub behind_blanks : List ℕ → List ℕ
behind_blanks [] = []
behind_blanks (x ∷ l) = in_line false x ++ behind_blanks l

-- numbers with one blank between them
unfoldable pub spaced : List ℕ → List ℕ
unfolding behind_blanks
spaced [] = []
spaced (x ∷ l) = in_line true x ++ behind_blanks l

-- numbers on a line; an empty line for none
unfoldable pub line : List ℕ → List ℕ
unfolding spaced
line l = spaced l ++ LINE_FEED ∷ []

-- a node's round, parent, value, status
abbrev pub node_line : Node → List ℕ
node_line n = line (n.round ∷ n.parent ∷ n.value ∷ n.status ∷ [])

unfoldable pub node_lines : List Node → List ℕ
unfolding line
node_lines [] = []
node_lines (n ∷ ns) = node_line n ++ node_lines ns

-- the nodes of slots 0 to k - 1, slot after slot
unfoldable pub slots_lines : (ℕ → List Node) → ℕ → List ℕ
unfolding node_lines
slots_lines f zero = []
slots_lines f (suc k) = slots_lines f k ++ node_lines (f k)

-- the nodes in the table of slot s
abbrev pub slot_nodes : List ℕ → ℕ → List Node
slot_nodes ws s = nodes (table_at rehearsal_lengths ws s)

-- what the model is fed: the rows of the table of each of the eight slots
abbrev pub rehearsal_sizes : List ℕ → Sizes
rehearsal_sizes list = record { n = members_of list; store = REHEARSAL_STORE_ROWS; tables = λ s. get_or (replicate SLOTS REHEARSAL_TABLE_ROWS) s 0 }

-- the answers, then each node of each slot
unfoldable pub run_output : Sizes → List Event → List ℕ
unfolding line slots_lines
run_output z es = line (event_answers z (first_office z.n) es) ++ slots_lines (made_tree z (ended z es)) SLOTS

-- the number of a list: 26 or 27. 28 and 1 can't occur with whole rows and an answer byte for each event, and with eight tables that fill the words
unfoldable pub rehearsal_number : List ℕ → ℕ
rehearsal_number list = first (not (list_fits list) gives LIST_SHAPE ∷ not (allowed (members_of list)) gives OFFICE_SIZE ∷ [])

-- of a refused list a line with only its number
unfoldable pub rehearsal_output : List ℕ → List ℕ
unfolding rehearsal_number run_output
rehearsal_output list =
    cond (eqb (rehearsal_number list) OK) (run_output (rehearsal_sizes list) (events_of list)) (line (rehearsal_number list ∷ []))

-- so many bytes from the front of an input tell what is printed for it: one more than the longest list
abbrev pub ENOUGH : ℕ
ENOUGH = suc LONGEST_LIST
