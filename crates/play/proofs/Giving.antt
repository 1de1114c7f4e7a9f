-- Play's promise: a refused list leaves everything; a list that is taken has the model's answers, store and trees, and the third demand of each slot.
-- Assumes nothing.
use mathlib.Core.Path.{◌≡◌, refl, sym, ap, subst, ◌∙◌}
use mathlib.Core.Bool.{true, false, cond, not}
use mathlib.Core.List.{List, [], ◌++◌}
use Prim.Native.Nat.{ℕ, ◌+◌, ◌*◌, ◌/◌, ◌≤◌, ◌<◌}
use native.Mathlib.Omega.{arith}
use lib.ListN.{length, drop, replicate, length-replicate}
use lib.Dec.{ltb}
use borrow.Author.Tests.{not-false, lt-ltb, le-ltb, ltb-false}
use Rattle.laws.specs.Tests.{or_left, or_right}
use Rattle.laws.specs.First.{passed}
use Rattle.ids.specs.Ranges.{SLOTS}
use Rattle.numbers.specs.Numbers.{OK, LIST_SHAPE, OFFICE_SIZE, STORE_OR_ANSWERS}
use Rattle.tree_theory.specs.Machine.{Node, GHOST, has_status, find}
use Rattle.tree_theory.specs.Table.{nodes, rows, sized, table}
use Rattle.tree_theory.specs.Properties.{AllOk}
use Rattle.tree_theory.specs.Ghosts.{ghost_nodes}
use Rattle.tree_theory.proofs.Grown.{Grown}
use Rattle.tree_theory.proofs.Words.{length_table, nodes_table}
use Rattle.tree_theory.proofs.History.{all_grown}
use Rattle.tree_theory.proofs.Trees.{sized_rows, sized_words, grown_fit, grown_stated}
use Rattle.tree_theory.proofs.Ghosts.{ghosts_add_up}
use Rattle.member_record.specs.Record.{allowed}
use Rattle.model.specs.Model.{Sizes, Event, first_office, made_in, event_answers, proposals}
use Rattle.model.specs.Demand.{calls, ended}
use Rattle.model.specs.Counts.{made_tree, made_ghosts, born_ghosts, zeros, decisions, committed_nodes, over_slots}
use Rattle.model.proofs.Demanded.{all_ok, demand_met}
use Rattle.model.proofs.Tree.{nodes_counted, committed_counted}
use Rattle.model.proofs.Sums.{sum_same, sum_suc, sum_both}
use Rattle.play_events.specs.List.{members_of, count_of, list_fits, events_of}
use Rattle.play_store.specs.Rows.{store_sized, stored}
use Rattle.play_store.proofs.Stored.{cleared}
use Rattle.play_tables.specs.Tables.{length_at, table_at, fresh_tables, tables_number, TablesFit}
use Rattle.play_tables.proofs.Sizes.{number_fits, fit_number}
use Rattle.play_tables.proofs.Parts.{table_long, table_sized, all_table}
use Rattle.play_tables.proofs.Fresh.{fresh_fit, fresh_at}
use Rattle.play_run.specs.Answer.{PlayAnswer}
use Rattle.play_run.specs.Lent.{Lent, as_lent}
use Rattle.play_run.specs.Ran.{sizes_of, made_tables, Ready, Ran}
use Rattle.play_run.proofs.Running.{same_store_rows}
use Rattle.play.specs.Promise.{list_causes, play_number, refused_list, nodes_in, Given}

-- what was lent, with the store cleared and each table fresh
abbrev pub cleared_lent : List ℕ → Lent → Lent
cleared_lent ls L = as_lent (replicate (length L.store) 0) (fresh_tables ls L.words) L.answers

module _ {list ls : List ℕ} {L : Lent} where
  given_refused : (k : ℕ) → play_number list ls L ≡ k → (k ≡ OK → ⊥) → Given list ls L (refused_list k) L
  given_refused k e n =
      record {
        number_is = sym e;
        taken = λ z. absurd (n z);
        refused = λ z. record { counts_none = refl; lent_stays = refl };
      }

  pub not_exact : list_fits list ≡ false → Given list ls L (refused_list LIST_SHAPE) L
  unfolding play_number
  not_exact a = given_refused LIST_SHAPE (rw a refl) (λ z. omega arith)

  module _ (a : list_fits list ≡ true) where
    pub not_allowed : allowed (members_of list) ≡ false → Given list ls L (refused_list OFFICE_SIZE) L
    unfolding play_number
    not_allowed b = given_refused OFFICE_SIZE (rw (a, b) refl) (λ z. omega arith)

    module _ (b : allowed (members_of list) ≡ true) where
      pub store_odd : store_sized L.store ≡ false → Given list ls L (refused_list STORE_OR_ANSWERS) L
      unfolding play_number
      store_odd d = given_refused STORE_OR_ANSWERS (rw (a, b, d) refl) (λ z. omega arith)

      module _ (d : store_sized L.store ≡ true) where
        pub answers_few : length L.answers < count_of list → Given list ls L (refused_list STORE_OR_ANSWERS) L
        unfolding play_number
        answers_few l = given_refused STORE_OR_ANSWERS (rw (a, b, d, lt-ltb (length L.answers) (count_of list) l) refl) (λ z. omega arith)

        module _ (l : count_of list ≤ length L.answers) where
          -- a length is no table's, or the eight don't fill the words
          pub tables_odd : {k : ℕ} → k ≡ tables_number ls L.words → (k ≡ OK → ⊥) → Given list ls L (refused_list k) L
          unfolding play_number tables_number
          tables_odd {k} e n = given_refused k (rw (a, b, d, le-ltb (length L.answers) (count_of list) l) (sym e)) n

-- what a list that is taken has passed
pub record PassedList (list ls : List ℕ) (L : Lent) : Type 0 where
  pub fits : list_fits list ≡ true
  pub members : allowed (members_of list) ≡ true
  pub store_length : store_sized L.store ≡ true
  pub room : count_of list ≤ length L.answers
  pub tables_fit : TablesFit ls L.words

-- so has each that gets 0
pub taken_passed : {list ls : List ℕ} {L L' : Lent} {r : PlayAnswer} → Given list ls L r L' → r.number ≡ OK → PassedList list ls L
unfolding play_number tables_number
taken_passed {list} {ls} {L} G ok =
    let (form, (size, (store-or-answers, (unsized, (unfilled, _))))) = passed (list_causes list ls L) refl (sym G.number_is ∙ ok) in
    let few = ltb (length L.answers) (count_of list) in
    record {
      fits = not-false _ form;
      members = not-false _ size;
      store_length = not-false _ (or_left (not (store_sized L.store)) few store-or-answers);
      room = ltb-false _ _ (or_right (not (store_sized L.store)) few store-or-answers);
      tables_fit = number_fits ls L.words (rw (unsized, unfilled) refl);
    }

module _ {list ls : List ℕ} {L : Lent} (P : PassedList list ls L) where
  abbrev z : Sizes
  z = sizes_of list ls L.store

  abbrev es : List Event
  es = events_of list

  number_zero : play_number list ls L ≡ OK
  unfolding play_number tables_number
  number_zero = rw (P.fits, P.members, P.store_length, le-ltb (length L.answers) (count_of list) P.room) (fit_number ls L.words P.tables_fit)

  length_clear : length {A = ℕ} (replicate (length L.store) 0) ≡ length L.store
  length_clear = length-replicate (length L.store) 0

  cleared_ready : Ready list ls (cleared_lent ls L)
  cleared_ready =
      record {
        fits = P.fits;
        members = P.members;
        store_length = rw length_clear P.store_length;
        cleared = cleared (length L.store) ∙ ap (λ m. stored m []) (sym length_clear);
        tables_fit = fresh_fit P.tables_fit;
        are_fresh = λ s l. fresh_at P.tables_fit l;
        room = P.room;
      }

  -- of each slot
  module _ (s : ℕ) (l : s < SLOTS) where
    abbrev ws : List ℕ
    ws = table_at ls L.words s

    long : length ws ≡ length_at ls s
    long = table_long P.tables_fit l

    is_sized : sized ws ≡ true
    is_sized = table_sized P.tables_fit l

    abbrev ns : List Node
    ns = made_tree z (ended z es) s

    grown : Grown true (rows ws) ns
    grown = rw (ap (λ n. n / 4) long) (all_grown true (z.tables s) (calls (made_in (ended z es) s)))

    fit : 4 * length ns ≤ length_at ls s
    fit = subst (λ n. 4 * length ns ≤ n) long (grown_fit true ws ns is_sized grown)

    rows_some : 0 < z.tables s
    rows_some = subst (λ n. 0 < n / 4) long (sized_rows ws is_sized)

    -- the words of its rows
    words_are : 4 * z.tables s ≡ length_at ls s
    words_are = subst (λ n. 4 * (n / 4) ≡ n) long (sized_words ws is_sized)

    calls_ok : AllOk true (z.tables s) (calls (made_in (ended z es) s))
    calls_ok = all_ok z es P.members s l rows_some

  module _ {r : PlayAnswer} {L' : Lent} (W : Ran list ls (cleared_lent ls L) r L') where
    -- what the events came to on what was lent, as it was
    on_lent : Ran list ls L r L'
    on_lent =
        let cleared-sizes = sizes_of list ls (cleared_lent ls L).store in
        let store-rows-same = same_store_rows (cleared_lent ls L).store L.store length_clear in
        let e : cleared-sizes ≡ z = λ i. record { n = members_of list; store = store-rows-same i; tables = z.tables } in
        record {
          number_ok = W.number_ok;
          answers_are = subst (λ y. L'.answers ≡ event_answers y (first_office y.n) es ++ drop (length es) L.answers) e W.answers_are;
          store_is =
              subst (λ y. L'.store ≡ stored (length L.store) (ended y es).sent) e
              (W.store_is ∙ ap (λ m. stored m (ended cleared-sizes es).sent) length_clear);
          joins_same = W.joins_same;
          tables_are = subst (λ y. L'.words ≡ made_tables y ls (ended y es)) e W.tables_are;
          accepted_is = subst (λ y. r.accepted ≡ zeros (event_answers y (first_office y.n) es)) e W.accepted_is;
          messages_are = subst (λ y. r.messages ≡ length (ended y es).sent) e W.messages_are;
          proposals_made = subst (λ y. r.proposals ≡ over_slots (λ s. proposals (made_in (ended y es) s))) e W.proposals_made;
          decisions_made = subst (λ y. r.decisions ≡ over_slots (λ s. decisions (made_in (ended y es) s))) e W.decisions_made;
          ghosts_are = subst (λ y. r.ghosts ≡ over_slots (made_ghosts y (ended y es))) e W.ghosts_are;
        }

    -- the table left in each slot
    left_table : (s : ℕ) → s < SLOTS → table_at ls L'.words s ≡ table (length_at ls s) (made_tree z (ended z es) s)
    left_table s l =
        ap (λ w. table_at ls w s) on_lent.tables_are ∙
        all_table ls (λ u. table (length_at ls u) (made_tree z (ended z es) u))
        (λ u b. length_table (length_at ls u) (made_tree z (ended z es) u) (fit u b)) l

    held : (s : ℕ) → s < SLOTS → nodes_in ls L' s ≡ made_tree z (ended z es) s
    held s l =
        ap nodes (left_table s l) ∙
        nodes_table (length_at ls s) (made_tree z (ended z es) s) (fit s l) (grown_stated true (rows (ws s l)) (made_tree z (ended z es) s) (grown s l))

    -- play's promise
    given_ran : Given list ls L r L'
    given_ran =
        let U = on_lent in
        record {
          number_is = U.number_ok ∙ sym number_zero;
          taken = λ q.
              record {
                played = U;
                demand = demand_met z es P.members (table_at ls L'.words) rows_some
                    (λ s l. left_table s l ∙ ap (λ n. table n (made_tree z (ended z es) s)) (sym (words_are s l)));
                proposals_are =
                    ap (λ n. n + SLOTS) U.proposals_made ∙ sym (sum_suc (λ s. proposals (made_in (ended z es) s)) SLOTS) ∙
                    sum_same _ _ SLOTS (λ s l. sym (ap length (held s l) ∙ nodes_counted (z.tables s) (made_in (ended z es) s) (calls_ok s l)));
                decisions_are =
                    ap (λ n. n + SLOTS) U.decisions_made ∙ sym (sum_suc (λ s. decisions (made_in (ended z es) s)) SLOTS) ∙
                    sum_same _ _ SLOTS
                    (λ s l. sym (ap committed_nodes (held s l) ∙ committed_counted (z.tables s) (made_in (ended z es) s) (calls_ok s l) (rows_some s l)));
                ghosts_left =
                    sum_same _ _ SLOTS
                    (λ s l. ap ghost_nodes (held s l) ∙ (ghosts_add_up true (z.tables s) (rows_some s l) (calls (made_in (ended z es) s))).rows_are) ∙
                    sum_both (made_ghosts z (ended z es)) (born_ghosts z (ended z es)) SLOTS ∙
                    ap (λ n. n + over_slots (born_ghosts z (ended z es))) (sym U.ghosts_are);
                ghosts_once = λ s k l.
                    ap {B = ℕ} (λ ks. cond (has_status GHOST (find k ks)) 1 0) (held s l) ∙
                    (ghosts_add_up true (z.tables s) (rows_some s l) (calls (made_in (ended z es) s))).each_once k;
              };
          refused = λ q. absurd (q U.number_ok);
        }

  -- a cleared store and fresh tables, as the code has them
  module _ {store ws : List ℕ} (es : store ≡ replicate (length L.store) 0) (ew : ws ≡ fresh_tables ls L.words) where
    as_cleared : as_lent store ws L.answers ≡ cleared_lent ls L
    as_cleared i = as_lent (es i) (ew i) L.answers

    pub ready_to_run : Ready list ls (as_lent store ws L.answers)
    ready_to_run = subst (Ready list ls) (sym as_cleared) cleared_ready

    pub given_taken : {r : PlayAnswer} {L' : Lent} → Ran list ls (as_lent store ws L.answers) r L' → Given list ls L r L'
    given_taken {r} {L'} W = given_ran (subst (λ K. Ran list ls K r L') as_cleared W)
