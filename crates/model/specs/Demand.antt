-- The third demand, one claim about a whole list of events, slot by slot (01, "The model"; 02, ticket 6): whatever is lost, repeated, late or out of order.
use Rattle.std.specs.Prelude.{◌≡◌, true, List, [], ◌∷◌, ◌++◌, ℕ, ◌*◌, ◌<◌}
use Rattle.laws.specs.Lists.{◌∈◌}
use Rattle.ids.specs.Ranges.{SLOTS}
use Rattle.tree_theory.specs.Machine.{Call, add, commit, fresh}
use Rattle.tree_theory.specs.Machine.{after as after-calls}
use Rattle.tree_theory.specs.Table.{table}
use Rattle.tree_theory.specs.Properties.{AllOk}
use Rattle.member.specs.Table.{Named, nothing, proposal, decision}
use Rattle.model.specs.Model.{Sizes, Event, Office, first_office, made_in, office_after, offered}

-- proposals and decisions, in the order made, as add and commit
unfoldable pub calls : List Named → List Call
calls [] = []
calls (nothing ∷ ns) = calls ns
calls (proposal r x b ∷ ns) = add r x b ∷ calls ns
calls (decision r x ∷ ns) = commit r ∷ calls ns

-- the model at the end of a list
abbrev pub ended : Sizes → List Event → Office
ended z es = office_after z (first_office z.n) es

-- of slot s: `left` is its table as play leaves it
pub record SlotDemand (z : Sizes) (es : List Event) (s : ℕ) (left : List ℕ) : Type 0 where
  -- entered in the order made into a fresh tree of the rows of its table, each proposal and decision of the slot gets OK
  pub ok : AllOk true (z.tables s) (calls (made_in (ended z es) s))
  -- the table left is that tree in the rows lent, four words each, free rows too
  pub table_is : left ≡ table (4 * z.tables s) (after-calls true (z.tables s) fresh (calls (made_in (ended z es) s)))
  -- all values decided in the slot are equal
  pub equal : (r x q y : ℕ) → decision r x ∈ made_in (ended z es) s → decision q y ∈ made_in (ended z es) s → x ≡ y
  -- and each was offered at an accepted start of the slot earlier in the list
  pub earlier : (pre post : List Event) (r x : ℕ) → es ≡ pre ++ post → decision r x ∈ made_in (ended z pre) s → x ∈ offered s z (first_office z.n) pre

-- of each slot: `left` has the tables that play leaves
abbrev pub Demand : Sizes → List Event → (ℕ → List ℕ) → Type 0
Demand z es left = (s : ℕ) → s < SLOTS → SlotDemand z es s (left s)
