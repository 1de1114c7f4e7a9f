-- What a message sent, a proposal and a decision do to the tally, the store and the slot's table, and when they are refused with 30 and 9.
use Rattle.std.specs.Prelude.{◌≡◌, Bool, true, cond, not, Result, Ok, Err, List, [], ◌∷◌, ℕ, ◌+◌, ◌-◌, ◌<◌, eqb}
use Rattle.laws.specs.First.{Cause, first, ◌gives◌}
use Rattle.numbers.specs.declared.Refusal.{Refusal}
use Rattle.numbers.specs.Numbers.{OK, NO_FREE_ROW, STORE_FULL, refusal_number, no_row_left}
use Rattle.tree_theory.specs.Machine.{Call, FREE}
use Rattle.tree_theory.specs.Table.{row, rows}
use Rattle.tree_theory.specs.Ghosts.{stepped_ghosts}
use Rattle.message.specs.declared.Message.{Message}
use Rattle.tree.specs.Promises.{stepped_table}
use Rattle.play_store.specs.Rows.{store_rows, put_row}
use Rattle.play_effects.specs.declared.Tally.{Tally}
use Rattle.play_effects.specs.Memory.{Memory}

-- an event's number, and the tally after it
pub record EventEffect : Type 0 where
  pub tally : Tally
  pub number : ℕ

-- the counts of an office that play works, over all slots: no store has as many rows, nor have all tables together
pub record CountsFit (t : Tally) : Type 0 where
  pub sent : t.sent < 4000
  pub proposals : t.proposals < 4000
  pub decisions : t.decisions < 4000
  pub ghosts : t.ghosts < 4000

-- so much more sent, proposed, decided and made GHOST
abbrev pub counted : Tally → ℕ → ℕ → ℕ → ℕ → Tally
counted t a b c d = record { n = t.n; sent = t.sent + a; proposals = t.proposals + b; decisions = t.decisions + c; ghosts = t.ghosts + d }

-- a refused event leaves the tally
abbrev pub refused_event : Tally → ℕ → EventEffect
refused_event t number = record { tally = t; number = number }

-- an accepted one gives it
abbrev pub accepted_event : Tally → EventEffect
accepted_event t = record { tally = t; number = OK }

-- what an answer says, where the tally was t
abbrev pub effect_of : Tally → Result Tally Refusal → EventEffect
effect_of t (Ok u) = accepted_event u
effect_of t (Err e) = refused_event t (refusal_number e)

-- the messages sent fill the store
abbrev pub no_room_to_send : Tally → List ℕ → Bool
no_room_to_send t store = no_row_left (store_rows store) t.sent

-- the last row of the slot's table isn't free: nodes stand in order of adding, so then none is
abbrev pub no_room_to_propose : List ℕ → Bool
no_room_to_propose ws = not (eqb (row ws (rows ws - 1)).status FREE)

-- a step that sends g; the table isn't lent to it
pub record SendEffect (t : Tally) (g : Message) (store : List ℕ) (w : EventEffect) (store' : List ℕ) : Type 0 where
  pub result_is : w ≡ cond (no_room_to_send t store) (refused_event t STORE_FULL) (accepted_event (counted t 1 0 0 0))
  pub store_is : store' ≡ cond (no_room_to_send t store) store (put_row store t.sent g)

-- the row "last" of the place table, where a message would be sent and a proposal made
abbrev pub proposal_causes : Tally → Memory → List Cause
proposal_causes t M =
    no_room_to_send t M.store gives STORE_FULL ∷
    no_room_to_propose M.table gives NO_FREE_ROW ∷ []

abbrev pub proposal_number : Tally → Memory → ℕ
proposal_number t M = first (proposal_causes t M)

-- a step that sends g and names c
pub record ProposalEffect (t : Tally) (g : Message) (c : Call) (M : Memory) (w : EventEffect) (M' : Memory) : Type 0 where
  pub result_is : w ≡ cond (eqb (proposal_number t M) OK) (accepted_event (counted t 1 1 0 (stepped_ghosts true M.table c))) (refused_event t (proposal_number t M))
  pub store_is : M'.store ≡ cond (eqb (proposal_number t M) OK) (put_row M.store t.sent g) M.store
  pub table_is : M'.table ≡ cond (eqb (proposal_number t M) OK) (stepped_table true M.table c) M.table

-- a step that names c and sends nothing; the store isn't lent to it
pub record DecisionEffect (t : Tally) (c : Call) (ws : List ℕ) (w : EventEffect) (ws' : List ℕ) : Type 0 where
  pub result_is : w ≡ accepted_event (counted t 0 0 1 0)
  pub table_is : ws' ≡ stepped_table true ws c
