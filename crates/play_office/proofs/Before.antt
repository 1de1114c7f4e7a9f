-- What the memory holds before a step: a tree in each slot's table, counts that fit, and the model's members. Assumes nothing.
use mathlib.Core.Path.{◌≡◌, refl, sym, ap, subst, ◌∙◌}
use mathlib.Core.Bool.{true, false, ◌&&◌, ◌||◌, not}
use mathlib.Core.List.{List}
use Prim.Native.Nat.{ℕ, suc, ◌+◌, ◌-◌, ◌*◌, ◌%◌, ◌≤◌, ◌<◌}
use native.Mathlib.Omega.{arith}
use lib.ListN.{length, get_or}
use lib.Dec.{leb, ltb, eqb}
use borrow.Author.Tests.{leb-true, lt-ltb, le-ltb, ne_eqb}
use Rattle.laws.specs.Tests.{tests, by_test, and_right, or_cases}
use Rattle.laws.specs.Lists.{how_many_most}
use Rattle.laws.specs.Elements.{getD_in}
use Rattle.ids.specs.Ranges.{SLOTS, no_slot}
use Rattle.tree_theory.specs.Machine.{GHOST, COMMITTED, FREE, Node, root, has_status, fresh, after}
use Rattle.tree_theory.specs.Table.{nodes, rows, sized, table, Tree}
use Rattle.tree_theory.proofs.Words.{nodes_table, status_word, free_word}
use Rattle.tree_theory.proofs.Grown.{Grown}
use Rattle.tree_theory.proofs.History.{all_grown}
use Rattle.tree_theory.proofs.Trees.{grown_fit, grown_stated, sized_bounds, sized_rows}
use Rattle.tree_theory.proofs.Steps.{written_tree}
use Rattle.tree_theory.proofs.Ghosts.{ghosts_add_up}
use Rattle.member_record.specs.declared.Who.{Who}
use Rattle.member_record.specs.Phases.{DECIDED}
use Rattle.member_record.specs.Record.{allowed}
use Rattle.member_record.proofs.Sound.{parts}
use Rattle.model.specs.Model.{Event, made_in, member_at, at_member, proposals}
use Rattle.model.specs.Demand.{calls}
use Rattle.model.specs.Counts.{made_tree, made_ghosts, decisions}
use Rattle.model.proofs.Tree.{nodes_counted, committed_counted}
use Rattle.model.proofs.Sums.{sum_most}
use Rattle.play_store.specs.Rows.{row_length, most_rows, store_rows, store_sized}
use Rattle.play_effects.specs.declared.Tally.{Tally}
use Rattle.play_effects.specs.Effects.{CountsFit, no_room_to_propose}
use Rattle.play_office.specs.Represents.{HeldRecord, StepBefore, RECORDS, place_of, event_place, table_slot, event_record}

-- no office has more than seven members
pub allowed_seven : (n : ℕ) → allowed n ≡ true → n ≤ 7
allowed_seven n h =
    or_cases (eqb n 3) (eqb n 5 || eqb n 7) h (λ t. omega tests)
    (λ t. or_cases (eqb n 5) (eqb n 7) t (λ f. omega tests) (λ f. omega tests))

-- the place of a record, and the slot of a table, where there is one
pub in_place : (s k : ℕ) → s < SLOTS → k < 7 → place_of s k ≡ 7 * s + k
in_place s k a b = rw (le-ltb 7 s (omega arith), lt-ltb k 7 b) refl

pub in_table : (s : ℕ) → s < SLOTS → table_slot s ≡ s
in_table s a = rw (le-ltb 7 s (omega arith)) refl

-- they are within the array, and one of the eight, all the same
pub place_below : (s k : ℕ) → place_of s k < RECORDS
place_below s k =
    by_test (no_slot s)
    (λ a. rw a (omega arith))
    (λ a. by_test (ltb k 7) (λ b. rw (a, b) (omega tests)) (λ b. rw (a, b) (omega arith)))

pub table_below : (s : ℕ) → table_slot s < SLOTS
table_below s = by_test (no_slot s) (λ a. rw a (omega arith)) (λ a. rw a (omega tests))

-- no table and no store has more rows
rows_most : (ws : List ℕ) → sized ws ≡ true → rows ws ≤ 256
rows_most ws h = omega (arith, (sized_bounds ws h).most)

store_rows_most : (s : List ℕ) → store_sized s ≡ true → store_rows s ≤ most_rows
store_rows_most s h =
    let most = row_length * most_rows in
    let lengths = and_right (eqb (length s % row_length) 0) (leb row_length (length s) && leb (length s) most) h in
    omega (arith, leb-true (length s) most (and_right (leb row_length (length s)) (leb (length s) most) lengths))

module _ {t : Tally} {store : List ℕ} (B : StepBefore t store) where
  module _ (s : ℕ) (low : s < SLOTS) where
    abbrev ws : List ℕ
    ws = B.tables s

    abbrev ns : List Node
    ns = made_tree B.z B.o s

    rows_lent : 0 < B.z.tables s
    rows_lent = rw (B.sizes.table_is s low) (sized_rows ws (B.sizes.table_length s low))

    -- the slot's table holds the model's tree
    grown : Grown true (rows ws) ns
    grown = rw (← (B.sizes.table_is s low)) (all_grown true (B.z.tables s) (calls (made_in B.o s)))

    pub nodes_held : nodes ws ≡ ns
    nodes_held =
        ap nodes (B.represents.slots s low).nodes_are ∙
        nodes_table (length ws) ns (grown_fit true ws ns (B.sizes.table_length s low) grown) (grown_stated true (rows ws) ns grown)

    pub is_a_tree : Tree true ws
    is_a_tree =
        let made = calls (made_in B.o s) in
        let is : ws ≡ table (length ws) (after true (rows ws) fresh made) =
        (B.represents.slots s low).nodes_are ∙ ap (λ n. table (length ws) (after true n fresh made)) (B.sizes.table_is s low) in
        subst (Tree true) (sym is) (written_tree true ws made (B.sizes.table_length s low))

    length_tree : length ns ≤ rows ws
    length_tree = grown.fit (sized_rows ws (B.sizes.table_length s low))

    counted_tree : length ns ≡ suc (proposals (made_in B.o s))
    counted_tree = nodes_counted (B.z.tables s) (made_in B.o s) (B.sound.all_ok s low)

    -- the last row is used exactly where as many proposals were made as there are rows beside the root
    pub last_used : B.z.tables s ≤ suc (proposals (made_in B.o s)) → no_room_to_propose ws ≡ true
    unfolding table
    last_used full =
        let i = rows ws - 1 in
        let some = sized_rows ws (B.sizes.table_length s low) in
        let there : i < length ns = omega (arith, counted_tree, B.sizes.table_is s low) in
        let is : get_or ws (4 * i + 3) 0 ≡ (get_or ns i root).status =
        ap (λ l. get_or l (4 * i + 3) 0) (B.represents.slots s low).nodes_are ∙ status_word ns _ i there in
        let stated = grown_stated true (rows ws) ns grown (get_or ns i root) (getD_in ns i root there) in
        ap not (ne_eqb (get_or ws (4 * i + 3) 0) FREE (λ q. stated (sym is ∙ q)))

    pub last_free : suc (proposals (made_in B.o s)) < B.z.tables s → no_room_to_propose ws ≡ false
    last_free room =
        let i = rows ws - 1 in
        let is : get_or ws (4 * i + 3) 0 ≡ 0 =
        ap (λ l. get_or l (4 * i + 3) 0) (B.represents.slots s low).nodes_are ∙
        free_word (length ws) ns (4 * i + 3) (omega (arith, counted_tree, B.sizes.table_is s low)) in
        rw is refl

    proposals_few : proposals (made_in B.o s) ≤ 256
    proposals_few = omega (arith, counted_tree, length_tree, rows_most ws (B.sizes.table_length s low))

    decisions_few : decisions (made_in B.o s) ≤ 256
    decisions_few =
        omega (
          arith,
          committed_counted (B.z.tables s) (made_in B.o s) (B.sound.all_ok s low) rows_lent,
          how_many_most (has_status COMMITTED) ns,
          length_tree,
          rows_most ws (B.sizes.table_length s low),
        )

    -- a round is made GHOST once
    ghosts_few : made_ghosts B.z B.o s ≤ 256
    ghosts_few =
        omega (
          arith,
          (ghosts_add_up true (B.z.tables s) rows_lent (calls (made_in B.o s))).rows_are,
          how_many_most (has_status GHOST) ns,
          length_tree,
          rows_most ws (B.sizes.table_length s low),
        )

  sent_few : t.sent ≤ most_rows
  sent_few = omega (arith, B.represents.shared.sent_count, B.sound.fits, B.sizes.store_is, store_rows_most store B.sizes.store_length)

  -- the counts fit
  pub counts_fit : CountsFit t
  counts_fit =
      record {
        sent = omega (arith, sent_few);
        proposals = omega (arith, B.represents.proposed, sum_most (λ s. proposals (made_in B.o s)) SLOTS proposals_few);
        decisions = omega (arith, B.represents.decided, sum_most (λ s. decisions (made_in B.o s)) SLOTS decisions_few);
        ghosts = omega (arith, B.represents.struck, sum_most (made_ghosts B.z B.o) SLOTS ghosts_few);
      }

  -- what is held at the place of an event's member is the model's record
  pub member_held : (e : Event) (d : HeldRecord) → e.slot < SLOTS → at_member e.event < B.z.n →
      event_record t.n e (get_or B.members (event_place e) d) ≡ member_at B.z B.o e.slot (at_member e.event)
  member_held e d a b =
      let k = at_member e.event in
      let at = in_place e.slot k a (omega (arith, allowed_seven B.z.n B.sizes.allowed_size)) in
      let held = ap (λ i. get_or B.members i d) at ∙ ((B.represents.slots e.slot a).members k b).is d in
      let who = sym (B.sound.each e.slot k a b).who_is in
      let size = B.represents.size ∙ ap (λ (w : Who). w.n) who in
      let m = member_at B.z B.o e.slot k in
      let phase = (parts m (B.sound.each e.slot k a b).is_sound).phases in
      let byte : m.lead.phase % 256 ≡ m.lead.phase = omega (arith, leb-true m.lead.phase DECIDED phase) in
      let kept = ap (λ (h : HeldRecord). h.lead.phase) held ∙ byte in
      λ i. record {
        who = record { slot = (who i).slot; me = (who i).me; n = size i };
        durable = record { joined = (held i).rounds.joined; voted = (held i).rounds.voted; vote = (held i).rounds.vote; led = (held i).rounds.led };
        lead = record { phase = kept i; source = (held i).rounds.source; value = (held i).lead.value; flags = (held i).lead.flags };
      }
