-- The tree of a slot, event after event: it says OK to what each accepted event of the slot proposes or decides, that call makes the slot's tree after
-- the event, what a proposal makes GHOST is counted on, and the tree's nodes are counted by the proposals and decisions made. Assumes nothing.
use mathlib.Core.Path.{◌≡◌, refl, ap, subst, ◌∙◌}
use mathlib.Core.Bool.{true}
use mathlib.Core.List.{List, [], ◌∷◌, ◌++◌}
use Prim.Native.Nat.{ℕ, suc, ◌+◌, ◌<◌}
use native.Mathlib.Omega.{arith}
use lib.ListN.{length}
use Rattle.ids.specs.Ranges.{SLOTS}
use Rattle.numbers.specs.Numbers.{OK}
use Rattle.tree_theory.specs.Machine.{Call, add, commit, fresh, step}
use Rattle.tree_theory.specs.Machine.{answer as answer-call, after as after-calls}
use Rattle.tree_theory.specs.Properties.{Properties, InRange, AllOk, adds_in}
use Rattle.tree_theory.specs.Ghosts.{ghosts_made, at_add, over_adds}
use Rattle.tree_theory.proofs.Rebuilt.{length_added}
use Rattle.tree_theory.proofs.History.{told_fresh, told_grown}
use Rattle.tree_theory.proofs.FourProperties.{next_ok, told_ok}
use Rattle.tree_theory.proofs.Steps.{after_append}
use Rattle.tree_theory.proofs.Ghosts.{over_adds_append}
use Rattle.member_record.specs.Record.{allowed}
use Rattle.member.specs.Table.{Named, nothing, proposal, decision}
use Rattle.model.specs.Model.{Sizes, Event, Office, first_office, made_in, event_outcome, event_answer, made_by, taken, proposals}
use Rattle.model.specs.Demand.{calls, ended}
use Rattle.model.specs.Counts.{made_tree, made_ghosts, decisions, committed_nodes}
use Rattle.model.proofs.View.{SlotView, view_taken}
use Rattle.model.proofs.Kept.{was_accepted, ended_kept}
use Rattle.model.proofs.Made.{calls_append, adds_in_calls}
use Rattle.model.proofs.Demanded.{made_properties, rounds_in_range, adds_fit}
use Rattle.model.proofs.Committed.{commits_in, committed_count}
use Rattle.model.proofs.Fold.{next_taken, after_last}

commits_in_calls : (l : List Named) → commits_in (calls l) ≡ decisions l
unfolding calls commits_in decisions
commits_in_calls [] = refl
commits_in_calls (nothing ∷ l) = commits_in_calls l
commits_in_calls (proposal r x b ∷ l) = commits_in_calls l
commits_in_calls (decision r x ∷ l) = ap suc (commits_in_calls l)

-- what an event names makes the tree of its slot after it
module _ (z : Sizes) (o : Office) (e : Event) (eight : e.slot < length o.slots) where
  made_taken : made_in (taken z o e) e.slot ≡ made_in o e.slot ++ made_by (event_outcome z o e).named
  made_taken = ap (λ (v : SlotView). v.made) (view_taken z o e eight)

  calls_taken : (n : Named) → (event_outcome z o e).named ≡ n → calls (made_in (taken z o e) e.slot) ≡ calls (made_in o e.slot) ++ calls (made_by n)
  calls_taken n h = ap calls (made_taken ∙ ap (λ a. made_in o e.slot ++ made_by a) h) ∙ calls_append (made_in o e.slot) (made_by n)

  tree_taken : (n : Named) → (event_outcome z o e).named ≡ n →
      made_tree z (taken z o e) e.slot ≡ after-calls true (z.tables e.slot) (made_tree z o e.slot) (calls (made_by n))
  tree_taken n h = rw (calls_taken n h) (after_append true (z.tables e.slot) fresh (calls (made_in o e.slot)) (calls (made_by n)))

  pub tree_nothing : (event_outcome z o e).named ≡ nothing → made_tree z (taken z o e) e.slot ≡ made_tree z o e.slot
  unfolding calls after-calls
  tree_nothing h = tree_taken nothing h

  pub tree_proposal : (r x b : ℕ) → (event_outcome z o e).named ≡ proposal r x b →
      made_tree z (taken z o e) e.slot ≡ step true (z.tables e.slot) (made_tree z o e.slot) (add r x b)
  unfolding calls after-calls
  tree_proposal r x b h = tree_taken (proposal r x b) h

  pub tree_decision : (r x : ℕ) → (event_outcome z o e).named ≡ decision r x →
      made_tree z (taken z o e) e.slot ≡ step true (z.tables e.slot) (made_tree z o e.slot) (commit r)
  unfolding calls after-calls
  tree_decision r x h = tree_taken (decision r x) h

  -- and what it makes GHOST is counted on
  ghosts_taken : (n : Named) → (event_outcome z o e).named ≡ n →
      made_ghosts z (taken z o e) e.slot ≡
      made_ghosts z o e.slot + over_adds ghosts_made true (z.tables e.slot) (made_tree z o e.slot) (calls (made_by n))
  ghosts_taken n h = rw (calls_taken n h) (over_adds_append ghosts_made true (z.tables e.slot) fresh (calls (made_in o e.slot)) (calls (made_by n)))

  pub ghosts_nothing : (event_outcome z o e).named ≡ nothing → made_ghosts z (taken z o e) e.slot ≡ made_ghosts z o e.slot + 0
  unfolding calls over_adds
  ghosts_nothing h = ghosts_taken nothing h

  pub ghosts_proposal : (r x b : ℕ) → (event_outcome z o e).named ≡ proposal r x b →
      made_ghosts z (taken z o e) e.slot ≡ made_ghosts z o e.slot + at_add ghosts_made true (z.tables e.slot) (made_tree z o e.slot) (add r x b)
  unfolding calls over_adds
  ghosts_proposal r x b h = omega (arith, ghosts_taken (proposal r x b) h)

  pub ghosts_decision : (r x : ℕ) → (event_outcome z o e).named ≡ decision r x → made_ghosts z (taken z o e) e.slot ≡ made_ghosts z o e.slot + 0
  unfolding calls over_adds
  ghosts_decision r x h = ghosts_taken (decision r x) h

module _ (z : Sizes) (es : List Event) (ok : allowed z.n ≡ true) where
  -- the tree of its slot says OK to the call of an accepted event
  module _ (e : Event) (rows : 0 < z.tables e.slot) (a : event_answer z (ended z es) e ≡ OK) where
    low : e.slot < SLOTS
    low = (was_accepted z (ended z es) e a).slot

    -- the calls after the event
    last_calls : (n : Named) (c : Call) → (event_outcome z (ended z es) e).named ≡ n → calls (made_by n) ≡ c ∷ [] →
        calls (made_in (ended z (es ++ e ∷ [])) e.slot) ≡ calls (made_in (ended z es) e.slot) ++ c ∷ []
    last_calls n c h s =
        rw (
          after_last z (first_office z.n) es e,
          next_taken z (ended z es) e a,
          calls_taken z (ended z es) e (omega (arith, low, (ended_kept z es ok).eight)) n h,
          s,
        ) refl

    takes : (n : Named) (c : Call) → (event_outcome z (ended z es) e).named ≡ n → calls (made_by n) ≡ c ∷ [] →
        answer-call true (z.tables e.slot) (made_tree z (ended z es) e.slot) c ≡ OK
    takes n c h s =
        let q : calls (made_in (ended z (es ++ e ∷ [])) e.slot) ≡ calls (made_in (ended z es) e.slot) ++ c ∷ [] = last_calls n c h s in
        next_ok true (z.tables e.slot) (calls (made_in (ended z es) e.slot)) c
        (subst (Properties true) q (made_properties z (es ++ e ∷ []) ok e.slot low))
        (subst InRange q (rounds_in_range z (es ++ e ∷ []) ok e.slot low))
        (subst (λ l. adds_in l < z.tables e.slot) q (adds_fit z (es ++ e ∷ []) ok e.slot low rows))

    pub takes_proposal : (r x b : ℕ) → (event_outcome z (ended z es) e).named ≡ proposal r x b →
        answer-call true (z.tables e.slot) (made_tree z (ended z es) e.slot) (add r x b) ≡ OK
    unfolding calls
    takes_proposal r x b h = takes (proposal r x b) (add r x b) h refl

    pub takes_decision : (r x : ℕ) → (event_outcome z (ended z es) e).named ≡ decision r x →
        answer-call true (z.tables e.slot) (made_tree z (ended z es) e.slot) (commit r) ≡ OK
    unfolding calls
    takes_decision r x h = takes (decision r x) (commit r) h refl

-- where the tree says OK to each call, the nodes count what was made
module _ (rows : ℕ) (made : List Named) (ok : AllOk true rows (calls made)) where
  -- proposals are the nodes less the root
  pub nodes_counted : length (after-calls true rows fresh (calls made)) ≡ suc (proposals made)
  nodes_counted = rw ((told_ok true rows (calls made) ok).nodes, length_added (calls made) (calls made), adds_in_calls made) refl

  -- decisions are the COMMITTED nodes less the root
  pub committed_counted : 0 < rows → committed_nodes (after-calls true rows fresh (calls made)) ≡ suc (decisions made)
  committed_counted some =
      rw (
        committed_count true rows fresh (calls made) some (told_grown true rows [] fresh (told_fresh true rows)) ok,
        commits_in_calls made,
      ) (omega arith)
