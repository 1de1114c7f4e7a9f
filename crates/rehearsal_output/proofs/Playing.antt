-- What play leaves in what the rehearsal lends is what is printed. Assumes nothing.
use mathlib.Core.Path.{◌≡◌, refl, sym, ap, ◌∙◌}
use mathlib.Core.Bool.{true}
use mathlib.Core.List.{List, ◌∷◌, [], ◌++◌}
use Prim.Native.Nat.{ℕ, ◌*◌, ◌≤◌, ◌<◌}
use native.Mathlib.Omega.{arith}
use lib.ListN.{length, take, drop, length-append}
use lib.Seq.{take_at}
use lib.Dec.{eqb}
use borrow.Author.Tests.{le-ltb, ne_eqb}
use Rattle.laws.specs.Tests.{by_test}
use Rattle.ids.specs.Ranges.{SLOTS}
use Rattle.numbers.specs.Numbers.{OK}
use Rattle.decimal.specs.Text.{PutText}
use Rattle.tree_theory.specs.Table.{nodes}
use Rattle.tree_theory.proofs.Grown.{Grown}
use Rattle.tree_theory.proofs.Words.{nodes_table}
use Rattle.tree_theory.proofs.History.{all_grown}
use Rattle.tree_theory.proofs.Trees.{grown_stated}
use Rattle.member_record.specs.Record.{allowed}
use Rattle.model.specs.Model.{Sizes, Event, first_office, made_in, event_answers}
use Rattle.model.specs.Demand.{calls, ended}
use Rattle.model.specs.Counts.{made_tree}
use Rattle.model.proofs.Fold.{length_answers}
use Rattle.play_events.specs.List.{members_of, count_of, body, list_fits, events_of}
use Rattle.play_events.proofs.Events.{length_events}
use Rattle.play_store.specs.Rows.{store_sized}
use Rattle.play_tables.specs.Tables.{tables_number, TablesFit}
use Rattle.play_tables.proofs.Sizes.{fit_number}
use Rattle.play_run.specs.Answer.{PlayAnswer}
use Rattle.play_run.specs.Lent.{Lent, as_lent}
use Rattle.play_run.specs.Ran.{sizes_of}
use Rattle.play_run.proofs.Running.{list_parts}
use Rattle.play.specs.Promise.{play_number, Given}
use Rattle.rehearsal_output.specs.Output.{line, slot_nodes, slots_lines, run_output}
use Rattle.rehearsal_output.specs.Output.{REHEARSAL_STORE_ROWS, rehearsal_lengths, rehearsal_sizes, rehearsal_number, rehearsal_output}
use Rattle.rehearsal_output.specs.Promise.{Printed, RehearsalLent}
use Rattle.rehearsal_output.proofs.Lines.{line_some, slots_same}
use Rattle.rehearsal_output.proofs.Tables.{lent_rows, lent_words, lent_fit}

-- something is printed for every list
pub output_some : (list : List ℕ) → 0 < length (rehearsal_output list)
unfolding rehearsal_output run_output
output_some list =
    let z : Sizes = rehearsal_sizes list in
    let es = events_of list in
    let answers = event_answers z (first_office z.n) es in
    by_test (eqb (rehearsal_number list) OK)
    (λ t. rw (t, length-append (line answers) (slots_lines (made_tree z (ended z es)) SLOTS)) (omega (arith, line_some answers)))
    (λ t. rw t (line_some (rehearsal_number list ∷ [])))

-- what the page holds at the end is what its buffer is left with
pub as_printed : {list old held new : List ℕ} {n : ℕ} → PutText old 0 (rehearsal_output list) n held → new ≡ held → Printed list old n new
as_printed {list} {old} {held} {new} {n} P left =
    let text = rehearsal_output list in
    let long : n ≡ length text = omega (arith, P.next_is) in
    let front : new ≡ text ++ drop n old = left ∙ P.bytes_are ∙ rw P.next_is refl in
    record { length_is = long; bytes_are = front; within = omega (arith, ap length front, length-append text (drop n old)) }

module _ (list : List ℕ) {store words answers out : List ℕ} (R : RehearsalLent store words answers out) where
  store_whole : store_sized store ≡ true
  store_whole = rw R.store_length refl

  tables_fit : TablesFit rehearsal_lengths words
  tables_fit = lent_fit R.tables_length

  -- the list row has no other number to give
  number_same : play_number list rehearsal_lengths (as_lent store words answers) ≡ rehearsal_number list
  unfolding play_number rehearsal_number tables_number
  number_same =
      by_test (list_fits list)
      (λ f.
      let few : count_of list ≤ length answers = omega (arith, (list_parts {list = list} f).few, R.answers_length) in
      by_test (allowed (members_of list))
      (λ m. rw (f, m, store_whole, le-ltb (length answers) (count_of list) few) (fit_number rehearsal_lengths words tables_fit))
      (λ m. rw (f, m) refl))
      (λ f. rw f refl)

  abbrev z : Sizes
  z = sizes_of list rehearsal_lengths store

  sizes_same : z ≡ rehearsal_sizes list
  sizes_same = rw R.store_length (λ i. record { n = members_of list; store = REHEARSAL_STORE_ROWS; tables = λ s. lent_rows s i })

  module _ {a : PlayAnswer} {left : Lent} (G : Given list rehearsal_lengths (as_lent store words answers) a left) where
    number_is : rehearsal_number list ≡ a.number
    number_is = sym (G.number_is ∙ number_same)

    -- of a refused list the number
    pub refused_output : (a.number ≡ OK → ⊥) → rehearsal_output list ≡ line (a.number ∷ [])
    unfolding rehearsal_output
    refused_output h = rw (number_is, ne_eqb a.number OK h) refl

    module _ (ok : a.number ≡ OK) where
      abbrev es : List Event
      es = events_of list

      -- the nodes left in each slot
      held : (s : ℕ) → s < SLOTS → slot_nodes left.words s ≡ made_tree z (ended z es) s
      held s h =
          let ns = made_tree z (ended z es) s in
          let grown : Grown true (z.tables s) ns = all_grown true (z.tables s) (calls (made_in (ended z es) s)) in
          let some : 0 < z.tables s = rw (lent_words s h) (omega arith) in
          ap nodes ((G.taken ok).demand s h).table_is ∙
          nodes_table (4 * z.tables s) ns (omega (arith, grown.fit some)) (grown_stated true (z.tables s) ns grown)

      answers_left : take (count_of list) left.answers ≡ event_answers z (first_office z.n) es
      unfolding events_of
      answers_left =
          let said = event_answers z (first_office z.n) es in
          let long : length said ≡ count_of list = length_answers z (first_office z.n) es ∙ length_events (count_of list) (body list) in
          ap (take (count_of list)) (G.taken ok).played.answers_are ∙ take_at said _ (count_of list) long

      -- of a list that is taken the answers and the nodes of all slots
      pub taken_output : rehearsal_output list ≡ line (take (count_of list) left.answers) ++ slots_lines (slot_nodes left.words) SLOTS
      unfolding rehearsal_output run_output
      taken_output =
          let zero : rehearsal_number list ≡ OK = number_is ∙ ok in
          rw (answers_left, slots_same _ _ SLOTS held, zero) (ap (λ y. run_output y es) (sym sizes_same))
