-- The third demand: of any list of events, whatever is lost, repeated, late or out of order, and of any slot. The proposals and decisions made in it have
-- the four properties, so the tree says OK to each; decided values are those of COMMITTED nodes of one tree. Assumes nothing.
use mathlib.Core.Path.{◌≡◌, refl, sym, ◌∙◌}
use mathlib.Core.Bool.{true}
use mathlib.Core.List.Memᴰ.{tail as there}
use mathlib.Core.List.{List}
use Prim.Native.Nat.{ℕ, ◌*◌, ◌<◌}
use borrow.Author.Tests.{eqb-true}
use Rattle.laws.specs.Lists.{◌∈◌}
use Rattle.ids.specs.Ranges.{SLOTS}
use Rattle.tree_theory.specs.Machine.{Call, Node, COMMITTED, fresh, after}
use Rattle.tree_theory.specs.Table.{table}
use Rattle.tree_theory.specs.Properties.{Properties, InRange, AllOk, adds_in, history}
use Rattle.tree_theory.specs.Rebuilt.{made}
use Rattle.tree_theory.proofs.Calls.{commits_intro}
use Rattle.tree_theory.proofs.Rebuilt.{in_added, history_committed, round_positive}
use Rattle.tree_theory.proofs.History.{Told}
use Rattle.tree_theory.proofs.FourProperties.{told_ok, ok_exactly}
use Rattle.tree_theory.proofs.Agreement.{agreement}
use Rattle.member_record.specs.Record.{allowed}
use Rattle.member.specs.Table.{Named, decision}
use Rattle.model.specs.Model.{Sizes, Event, first_office, made_in, offered}
use Rattle.model.specs.Demand.{calls, ended, SlotDemand, Demand}
use Rattle.model.specs.Counts.{made_tree}
use Rattle.model.proofs.View.{sizes_in, view}
use Rattle.model.proofs.Made.{adds_in_calls, proposal_call, decision_call}
use Rattle.model.proofs.Invariant.{ProposalMade, MadeSo}
use Rattle.model.proofs.Events.{holds}

module _ (z : Sizes) (es : List Event) (ok : allowed z.n ≡ true) (s : ℕ) (low : s < SLOTS) where
  -- what was made in the slot
  abbrev slot_made : List Named
  slot_made = made_in (ended z es) s

  pub made_holds : MadeSo (sizes_in z s) (view (ended z es) s).sent slot_made (offered s z (first_office z.n) es)
  made_holds = (holds z ok s low es).made_so

  -- the four properties of the calls made
  pub made_properties : Properties true (calls slot_made)
  made_properties = made_holds.properties

  -- their rounds are in range
  pub rounds_in_range : InRange (calls slot_made)
  rounds_in_range = made_holds.ranged

  module _ (rows : 0 < z.tables s) where
    -- there is a row for each add beside the root
    pub adds_fit : adds_in (calls slot_made) < z.tables s
    adds_fit = rw (adds_in_calls slot_made) (made_holds.room rows)

    -- so the tree says OK to each call
    pub all_ok : AllOk true (z.tables s) (calls slot_made)
    all_ok = (ok_exactly true (z.tables s) (calls slot_made) rounds_in_range adds_fit).1 made_properties

    -- and the tree that they leave is told by them
    pub tree_told : Told true (z.tables s) (calls slot_made) (after true (z.tables s) fresh (calls slot_made))
    tree_told = told_ok true (z.tables s) (calls slot_made) all_ok

    -- a decided value is that of a COMMITTED node beside the root, handed on
    decided_node {κ} : {C : Type κ} (r x : ℕ) → decision r x ∈ slot_made →
        ((n : Node) → n ∈ after true (z.tables s) fresh (calls slot_made) → n.status ≡ COMMITTED → 0 < n.round → n.value ≡ x → C) → C
    decided_node r x i f =
        let a : ProposalMade slot_made r x = made_holds.decided_added r x i in
        let h : List Call = calls slot_made in
        let pos : 0 < r = round_positive true (z.tables s) h tree_told.story (proposal_call slot_made a.is_made) in
        f (made h r x a.parent) (rw tree_told.nodes (there (in_added h h (proposal_call slot_made a.is_made))))
        (eqb-true (history h r) COMMITTED (history_committed h r pos ∙ commits_intro h (decision_call slot_made i))) pos refl

    -- given that the slot's table left is the tree of what the model made in it
    pub slot_demand_met : (left : List ℕ) → left ≡ table (4 * z.tables s) (made_tree z (ended z es) s) → SlotDemand z es s left
    slot_demand_met left t = record {
      ok = all_ok;
      table_is = t;
      equal = λ r x q y i j. decided_node r x i (λ n k c p e. decided_node q y j (λ n' k' c' p' e'.
          sym e ∙ agreement (z.tables s) (calls slot_made) n n' k k' c c' p p' ∙ e'));
      earlier = λ pre post r x e i. offered_before pre r x i;
    }
      where
        -- the same invariant of the events so far
        offered_before : (pre : List Event) (r x : ℕ) → decision r x ∈ made_in (ended z pre) s → x ∈ offered s z (first_office z.n) pre
        offered_before pre r x i =
            let M : MadeSo (sizes_in z s) (view (ended z pre) s).sent (made_in (ended z pre) s) (offered s z (first_office z.n) pre) =
            (holds z ok s low pre).made_so in
            M.offered_so r x (M.decided_added r x i).parent (M.decided_added r x i).is_made

-- given that each slot's table left is the tree of what the model made in it
pub demand_met : (z : Sizes) (es : List Event) → allowed z.n ≡ true → (left : ℕ → List ℕ) → ((s : ℕ) → s < SLOTS → 0 < z.tables s) →
    ((s : ℕ) → s < SLOTS → left s ≡ table (4 * z.tables s) (made_tree z (ended z es) s)) → Demand z es left
demand_met z es ok left rows t s low = slot_demand_met z es ok s low (rows s low) (left s) (t s low)
