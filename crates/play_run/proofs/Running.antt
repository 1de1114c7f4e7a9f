-- The events one after another: after k of them the memory represents the model's state, and the answers are the model's. Assumes nothing.
use mathlib.Core.Path.{◌≡◌, refl, sym, ap, subst, ◌∙◌}
use mathlib.Core.Bool.{true, cond, ◌&&◌}
use mathlib.Core.Logic.{◌⊎◌, ◌≢◌, ⊎_elim}
use mathlib.Core.List.Memᴰ.{head as here}
use mathlib.Core.List.Memᴰ.{tail as there}
use mathlib.Core.List.{List, [], ◌∷◌, ◌++◌, append_assoc}
use Prim.Native.Nat.{ℕ, suc, ◌+◌, ◌-◌, ◌*◌, ◌/◌, ◌≤◌, ◌<◌}
use native.Mathlib.Omega.{arith}
use native.Mathlib.Nat.{add-zero}
use native.Mathlib.Numerals.{add-one}
use lib.ListN.{length, get_or, set, drop, replicate, length-drop, length-set, length-replicate, get_or-replicate}
use lib.Seq.{drop-cons, set_at, drop-drop}
use lib.Dec.{leb, eqb}
use borrow.Author.Tests.{leb-true, eq-eqb, ne_eqb, eqb-true}
use Rattle.laws.specs.Tests.{tests, by_test, and_left, and_right}
use Rattle.laws.specs.Lists.{how_many_append}
use Rattle.laws.specs.Elements.{getD_in}
use Rattle.ids.specs.declared.Slot.{Slot}
use Rattle.ids.specs.Ranges.{SLOTS}
use Rattle.numbers.specs.Numbers.{OK}
use Rattle.xdr.specs.Words.{AllBytes}
use Rattle.tree_theory.specs.Machine.{fresh, after}
use Rattle.tree_theory.specs.Table.{table}
use Rattle.tree_theory.specs.Ghosts.{ghosts_made, over_adds}
use Rattle.tree_theory.proofs.Trees.{sized_rows}
use Rattle.message.specs.declared.Message.{Message}
use Rattle.member_record.specs.declared.MemberState.{MemberState}
use Rattle.member.specs.declared.MemberStep.{MemberStep}
use Rattle.model.specs.Model.{SlotState, Event, Office, at_member, made_in, member_at, first_office, event_answers, proposals}
use Rattle.model.specs.Model.{message_at, office_after}
use Rattle.model.specs.Demand.{calls, ended}
use Rattle.model.specs.Joins.{JoinIn}
use Rattle.model.specs.Counts.{made_tree, made_ghosts, zeros, decisions}
use Rattle.model.proofs.Kept.{first_slot, first_member}
use Rattle.model.proofs.Sums.{sum_zero}
use Rattle.model.proofs.Fold.{after_last, answers_last, length_answers}
use Rattle.model.proofs.Joins.{same_joins}
use Rattle.model.proofs.Sound.{ended_sound}
use Rattle.play_events.specs.declared.PlayEvent.{PlayEvent}
use Rattle.play_events.specs.declared.ListHead.{ListHead}
use Rattle.play_events.specs.List.{HEAD_BYTES, MOST_EVENTS, members_of, count_of, head_of, body, list_fits, exact}
use Rattle.play_events.specs.List.{events_in, events_of, event_at, event_size, behind, rest}
use Rattle.play_events.specs.Value.{model_event, ReadsEvent}
use Rattle.play_events.proofs.Events.{events_suc, behind_suc, length_events, due_stands, offers_small, bytes_left}
use Rattle.play_store.specs.Rows.{store_rows, store_sized, stored, row_with, row_at, fetched}
use Rattle.play_store.proofs.Stored.{row_stored, fetch_stored}
use Rattle.play_tables.specs.Tables.{length_at, start_of, table_at, with_table, TablesFit}
use Rattle.play_tables.proofs.Parts.{fit_kept, lies_within, lent_table, given_back, table_long, table_sized, with_same, with_other, all_same, words_all}
use Rattle.play_effects.specs.Effects.{EventEffect}
use Rattle.play_effects.specs.declared.Tally.{Tally}
use Rattle.play_effects.specs.Memory.{in_memory}
use Rattle.play_effects.specs.Effects.{CountsFit}
use Rattle.play_office.specs.declared.HeldLead.{HeldLead}
use Rattle.play_office.specs.declared.HeldRounds.{HeldRounds}
use Rattle.play_office.specs.Represents.{HeldRecord, HeldAt, MemorySizes, Represents, StepBefore, StepAfter, EventBefore, StepTaken}
use Rattle.play_office.specs.Represents.{RECORDS, rounds_of, lead_of, held_of, no_record}
use Rattle.play_office.specs.Represents.{event_record, event_place, table_slot, fresh_tally, tables_with, records_after}
use Rattle.play_office.proofs.Before.{allowed_seven, place_below, table_below, counts_fit, member_held}
use Rattle.play_office.proofs.Settling.{same_tables}
use Rattle.play_run.specs.Lent.{Lent, as_lent}
use Rattle.play_run.proofs.Held.{in_parts, held_list, held_at, held_set, held_first}
use Rattle.play_run.specs.Ran.{sizes_of, one, SameJoinRows, part, SettleBefore, PartSettled, Ready, Ran}

-- elements below 256 are bytes
pub bytes_of : (s : List ℕ) → ((i : ℕ) → get_or s i 0 < 256) → AllBytes s
bytes_of [] f b m = elim m [ ]
bytes_of (a ∷ s) f b (here e) = rw e (f 0)
bytes_of (a ∷ s) f b (there m) = bytes_of s (λ i. f (suc i)) b m

one_most : (n : ℕ) → one n ≤ 1
one_most n = by_test (eqb n OK) (λ t. rw t (omega arith)) (λ t. rw t (omega arith))

same_sized : (s t : List ℕ) → length s ≡ length t → store_sized s ≡ true → store_sized t ≡ true
same_sized s t e h = rw (← e) h

pub same_store_rows : (s t : List ℕ) → length s ≡ length t → store_rows s ≡ store_rows t
same_store_rows s t e = rw e refl

-- the model after k events of a list
abbrev pub played_to : List ℕ → List ℕ → List ℕ → ℕ → Office
played_to list ls store k = ended (sizes_of list ls store) (events_in k (body list))

-- and its answers to them
abbrev pub answers_to : List ℕ → List ℕ → List ℕ → ℕ → List ℕ
answers_to list ls store k = event_answers (sizes_of list ls store) (first_office (members_of list)) (events_in k (body list))

-- after k events: L₀ is what was lent, L what it is now
pub record Running (list ls : List ℕ) (L₀ : Lent) (count : ℕ) (L : Lent) (rs : List HeldRounds) (ps : List HeldLead) (t : Tally) (accepted at k : ℕ) : Type 0 where
  pub ready : Ready list ls L₀
  pub bytes : AllBytes list
  pub count_is : count ≡ count_of list
  pub within : k ≤ count
  pub at_within : at ≤ length list
  pub place : drop at list ≡ behind k (body list)
  pub represents : Represents (sizes_of list ls L₀.store) (played_to list ls L₀.store k) t (held_list rs ps) L.store (table_at ls L.words)
  pub store_long : length L.store ≡ length L₀.store
  pub words_long : length L.words ≡ length L₀.words
  pub answers_long : length L.answers ≡ length L₀.answers
  pub said : L.answers ≡ answers_to list ls L₀.store k ++ drop k L₀.answers
  pub counted : accepted ≡ zeros (answers_to list ls L₀.store k)
  pub few : accepted ≤ k

-- a list that fits, part by part
pub record FittingList (list : List ℕ) : Type 0 where
  pub head : HEAD_BYTES ≤ length list
  pub few : count_of list ≤ MOST_EVENTS
  pub filled : exact (count_of list) (body list) ≡ true

pub list_parts : {list : List ℕ} → list_fits list ≡ true → FittingList list
unfolding list_fits
list_parts {list} h =
    let enough = leb HEAD_BYTES (length list) in
    let few = leb (count_of list) MOST_EVENTS in
    let filled = exact (count_of list) (body list) in
    let behind-head = and_right enough (few && filled) h in
    record {
      head = leb-true HEAD_BYTES (length list) (and_left enough (few && filled) h);
      few = leb-true (count_of list) MOST_EVENTS (and_left few filled behind-head);
      filled = and_right few filled behind-head;
    }

-- at first
module _ {list ls : List ℕ} {L₀ : Lent} (D : Ready list ls L₀) where
  abbrev first_records : List HeldRecord
  first_records = replicate RECORDS no_record

  -- zeros are what is held of any fresh record
  fresh_held : (s k : ℕ) → s < SLOTS → k < members_of list →
      HeldAt first_records s k (member_at (sizes_of list ls L₀.store) (first_office (members_of list)) s k)
  fresh_held s k l b =
      let few = allowed_seven (members_of list) D.members in
      let there : 7 * s + k < RECORDS = omega arith in
      record {
        within = rw (length-replicate RECORDS no_record) there;
        is = λ d. get_or-replicate RECORDS (7 * s + k) no_record d there ∙ ap held_of (sym (first_member (sizes_of list ls L₀.store) s k l b));
      }

  -- nothing is made
  nothing_made : (s : ℕ) → s < SLOTS → made_in (first_office (members_of list)) s ≡ []
  nothing_made s l = ap (λ (a : SlotState). a.made) (first_slot (members_of list) s l)

  represents_first : Represents (sizes_of list ls L₀.store) (played_to list ls L₀.store 0) (fresh_tally (members_of list)) first_records L₀.store
      (table_at ls L₀.words)
  unfolding events_in office_after proposals decisions calls after over_adds first_office
  represents_first =
      record {
        size = refl;
        places = length-replicate RECORDS no_record;
        shared = record { sent_count = refl; messages = D.cleared };
        slots = λ s l.
            record {
              members = λ k b. fresh_held s k l b;
              nodes_are =
                  D.are_fresh s l ∙ ap (λ n. table n fresh) (sym (table_long D.tables_fit l)) ∙
                  ap (λ ns. table (length (table_at ls L₀.words s)) (after true (length_at ls s / 4) fresh (calls ns))) (sym (nothing_made s l));
            };
        proposed = sym (sum_zero (λ s. proposals (made_in (first_office (members_of list)) s)) SLOTS (λ s l. ap proposals (nothing_made s l)));
        decided = sym (sum_zero (λ s. decisions (made_in (first_office (members_of list)) s)) SLOTS (λ s l. ap decisions (nothing_made s l)));
        struck = sym (sum_zero (made_ghosts (sizes_of list ls L₀.store) (first_office (members_of list))) SLOTS
            (λ s l. ap (λ ns. over_adds ghosts_made true (length_at ls s / 4) fresh (calls ns)) (nothing_made s l)));
      }

  pub running_first : AllBytes list → {h : ListHead} {t : Tally} {r : HeldRounds} {p : HeldLead} → h ≡ head_of list → t ≡ fresh_tally h.members →
      r ≡ no_record.rounds → p ≡ no_record.lead →
      Running list ls L₀ h.count L₀ (replicate RECORDS r) (replicate RECORDS p) t 0 h.begin 0
  unfolding events_in behind event_answers
  running_first b {h} {t} {r} {p} eh et er ep =
      let none : List HeldRounds = replicate RECORDS r in
      let idle : List HeldLead = replicate RECORDS p in
      let first : first_records ≡ held_list none idle = ap (replicate RECORDS) (λ i. in_parts (sym er i) (sym ep i)) ∙ held_first RECORDS r p in
      subst (λ (h : ListHead). Running list ls L₀ h.count L₀ none idle t 0 h.begin 0) (sym eh)
      (subst (λ (t : Tally). Running list ls L₀ (count_of list) L₀ none idle t 0 HEAD_BYTES 0)
      (sym (et ∙ ap (λ (h : ListHead). fresh_tally h.members) eh))
      (record {
        ready = D;
        bytes = b;
        count_is = refl;
        within = omega arith;
        at_within = (list_parts D.fits).head;
        place = refl;
        represents =
            subst (λ ms. Represents (sizes_of list ls L₀.store) (played_to list ls L₀.store 0) (fresh_tally (members_of list)) ms L₀.store
            (table_at ls L₀.words)) first represents_first;
        store_long = refl;
        words_long = refl;
        answers_long = refl;
        said = refl;
        counted = refl;
        few = omega arith;
      }))

-- the parts of the records after an event at place i, as `records_after` has it of whole ones
abbrev rounds_after : List HeldRounds → ℕ → MemberState → ℕ → List HeldRounds
rounds_after rs i m number = cond (eqb number OK) (set rs i (rounds_of m)) rs

abbrev leads_after : List HeldLead → ℕ → MemberState → ℕ → List HeldLead
leads_after ps i m number = cond (eqb number OK) (set ps i (lead_of m)) ps

parts_after : (rs : List HeldRounds) (ps : List HeldLead) (i : ℕ) (m : MemberState) (number : ℕ) →
    records_after (held_list rs ps) i m number ≡ held_list (rounds_after rs i m number) (leads_after ps i m number)
parts_after rs ps i m number =
    by_test (eqb number OK) (λ q. rw q (held_set rs ps i (rounds_of m) (lead_of m))) (λ q. rw q refl)

-- in a turn
module _ {list ls : List ℕ} {L₀ : Lent} {count : ℕ} {L : Lent} {rs : List HeldRounds} {ps : List HeldLead} {t : Tally} {accepted at k : ℕ}
    (G : Running list ls L₀ count L rs ps t accepted at k) where
  pub still_fit : TablesFit ls L.words
  still_fit = fit_kept G.ready.tables_fit G.words_long

  sizes : MemorySizes (sizes_of list ls L₀.store) L.store (table_at ls L.words)
  sizes =
      let D = G.ready in
      record {
        allowed_size = D.members;
        store_length = same_sized L₀.store L.store (sym G.store_long) D.store_length;
        store_is = same_store_rows L₀.store L.store (sym G.store_long);
        table_length = λ s l. table_sized still_fit l;
        table_is = λ s l. ap (λ n. n / 4) (sym (table_long still_fit l));
      }

  -- each table has a row
  rows_some : (s : ℕ) → s < SLOTS → 0 < length_at ls s / 4
  rows_some s l = subst (λ n. 0 < n / 4) (table_long G.ready.tables_fit l) (sized_rows (table_at ls L₀.words s) (table_sized G.ready.tables_fit l))

  abbrev before : StepBefore t L.store
  before =
      let z = sizes_of list ls L₀.store in
      let es = events_in k (body list) in
      record {
        z = z;
        o = ended z es;
        members = held_list rs ps;
        tables = table_at ls L.words;
        sizes = sizes;
        sound = ended_sound z es G.ready.members (offers_small k (body list) (bytes_left HEAD_BYTES list G.bytes)) rows_some;
        represents = G.represents;
      }

  -- an event stands at the place
  pub due : k < count → (event_size (drop at list) ≡ 0 → ⊥) × (event_size (drop at list) ≤ length (drop at list))
  due h =
      let e : k + (count - k) ≡ count_of list = omega (arith, G.count_is) in
      subst (λ s. (event_size s ≡ 0 → ⊥) × (event_size s ≤ length s)) (sym G.place)
      (due_stands k (count - k) (body list) (rw e (list_parts G.ready.fits).filled) (omega arith))

  pub at_next : k < count → at + event_size (drop at list) ≤ length list
  at_next h = omega (arith, (due h).1, length-drop at list, G.at_within)

  pub few_events : count ≤ MOST_EVENTS
  few_events = omega (arith, G.count_is, (list_parts G.ready.fits).few)

  pub answer_room : k < count → k < length L.answers
  answer_room h = omega (arith, G.answers_long, G.ready.room, G.count_is)

  -- the record of an event's member, by what is held at its place
  pub event_before : (e : Event) (i : ℕ) (r : HeldRounds) (p : HeldLead) → i ≡ event_place e → {m : MemberState} →
      m ≡ event_record t.n e (in_parts (get_or rs i r) (get_or ps i p)) → EventBefore t m e L.store
  event_before e i r p q em =
      let there : i < length (held_list rs ps) = omega (arith, q, place_below e.slot (at_member e.event), G.represents.places) in
      let d = in_parts r p in
      record {
        before = before;
        is = λ a b.
            em ∙ ap (event_record t.n e) (sym (held_at rs ps i r p there)) ∙ ap (λ j. event_record t.n e (get_or (held_list rs ps) j d)) q ∙
            member_held before e d a b;
      }

  -- a turn's event, its record and its step
  module _ (slot : Slot) (v : PlayEvent) {i : ℕ} (ei : i ≡ event_place (model_event slot v)) (d : HeldRounds) (p : HeldLead) {m : MemberState}
      (em : m ≡ event_record t.n (model_event slot v) (in_parts (get_or rs i d) (get_or ps i p))) (r : MemberStep)
      (T : StepTaken t m (model_event slot v) L.store r)
      {from to : ℕ} (start : from ≡ start_of ls (table_slot slot.0)) (end : to ≡ from + length_at ls (table_slot slot.0)) where
    abbrev e : Event
    e = model_event slot v

    -- what stands between the places is the table of the event's slot
    low : table_slot slot.0 < SLOTS
    low = table_below slot.0

    table_there : table_at ls L.words (table_slot slot.0) ≡ part from to L.words
    table_there = rw end (sym (lent_table still_fit low start))

    -- its answer, before it takes effect in the slot
    pub settle_before : SettleBefore t slot r.answer from to L.store L.words
    unfolding event_before
    settle_before =
        record {
          starts = omega arith;
          ends = let w = lies_within still_fit low start in omega (arith, w.ends);
          answer = record { before = before; e = e; of_slot = refl; lent = table_there; m = r.state; is = T (event_before e i d p ei em) };
        }

    module _ {w : EventEffect} {store' ws' : List ℕ} (P : PartSettled t slot r.answer from to L.store L.words w store' ws') where
      written : ws' ≡ with_table ls L.words (table_slot slot.0) P.left
      written = P.words_are ∙ rw end (given_back still_fit low start P.left)

      as_long : length P.left ≡ length_at ls (table_slot slot.0)
      as_long = omega (arith, P.long)

      settled : StepAfter before e r.state w (in_memory store' P.left)
      unfolding settle_before
      settled = P.settled settle_before.answer

      -- the slot's table is the one that was written, and any other is what it was
      tables_left : (u : ℕ) → u < SLOTS → tables_with (table_at ls L.words) (table_slot e.slot) P.left u ≡ table_at ls ws' u
      tables_left u l =
          let s = table_slot slot.0 in
          by_test (eqb u s)
          (λ q. let same : u ≡ s = eqb-true u s q in
          rw (q, written, same) (sym (with_same still_fit low P.left as_long)))
          (λ q. let apart : u ≢ s = omega tests in
          rw (q, written) (sym (with_other still_fit low P.left as_long u apart)))

      -- the next event
      event_settled : k < count → e ≡ event_at (drop at list) → length store' ≡ length L.store → length ws' ≡ length L.words →
          Running list ls L₀ count (as_lent store' ws' (set L.answers k w.number)) (rounds_after rs i r.state w.number)
          (leads_after ps i r.state w.number) w.tally (accepted + one w.number) (at + event_size (drop at list)) (k + 1)
      event_settled h ee l₁ l₂ =
          let z = sizes_of list ls L₀.store in
          let o = first_office (members_of list) in
          let es = events_in k (body list) in
          let A = event_answers z o es in
          let n = w.number in
          let answered₀ = L₀.answers in
          let more : events_in (k + 1) (body list) ≡ es ++ e ∷ [] =
          ap (λ n. events_in n (body list)) (add-one k) ∙ events_suc k (body list) ∙ ap (λ s. es ++ event_at s ∷ []) (sym G.place) ∙
          ap (λ x. es ++ x ∷ []) (sym ee) in
          let along : event_answers z o (events_in (k + 1) (body list)) ≡ A ++ n ∷ [] =
          ap (event_answers z o) more ∙ answers_last z o es e ∙ ap (λ n. A ++ n ∷ []) (sym settled.number_is) in
          let reached : played_to list ls L₀.store (k + 1) ≡ _ = ap (ended z) more ∙ after_last z o es e in
          let long : length A ≡ k = length_answers z o es ∙ length_events k (body list) in
          record {
            ready = G.ready;
            bytes = G.bytes;
            count_is = G.count_is;
            within = omega arith;
            at_within = at_next h;
            place =
                sym (drop-drop (event_size (drop at list)) at list) ∙ ap rest G.place ∙ sym (behind_suc k (body list)) ∙
                ap (λ n. behind n (body list)) (sym (add-one k));
            represents =
                subst (λ ms. Represents z (played_to list ls L₀.store (k + 1)) w.tally ms store' (table_at ls ws'))
                (ap (λ j. records_after (held_list rs ps) j r.state n) (sym ei) ∙ parts_after rs ps i r.state n)
                (subst (λ p. Represents z p w.tally (records_after (held_list rs ps) (event_place e) r.state n) store' (table_at ls ws')) (sym reached)
                (same_tables (tables_with (table_at ls L.words) (table_slot e.slot) P.left) (table_at ls ws') tables_left settled.represents));
            store_long = l₁ ∙ G.store_long;
            words_long = l₂ ∙ G.words_long;
            answers_long = length-set L.answers k n ∙ G.answers_long;
            said =
                ap (λ l. set l k n) (G.said ∙ ap (λ l. A ++ l) (drop-cons answered₀ k 0 (omega (arith, G.ready.room, G.count_is)))) ∙
                set_at A (get_or answered₀ k 0) (drop (suc k) answered₀) n k long ∙
                sym (ap (λ l. l ++ drop (k + 1) answered₀) along ∙ append_assoc A (n ∷ []) (drop (k + 1) answered₀) ∙
                ap (λ m. A ++ n ∷ drop m answered₀) (add-one k));
            counted =
                ap (λ m. m + one n) G.counted ∙ sym (ap zeros along ∙ how_many_append (λ a. eqb a OK) A (n ∷ []));
            few = omega (arith, G.few, one_most n);
          }

      -- what the turn's answer left: its number, the tally, and the records and the count that go by the number
      pub record Turned (answer : ℕ) (t' : Tally) (rs' : List HeldRounds) (ps' : List HeldLead) (n : ℕ) : Type 0 where
        pub answer_is : answer ≡ w.number
        pub tally_is : t' ≡ w.tally
        pub held :
            ((w.number ≡ OK) × (rs' ≡ set rs i (rounds_of r.state)) × (ps' ≡ set ps i (lead_of r.state)) × (n ≡ accepted + 1)) ⊎
            ((w.number ≡ OK → ⊥) × (rs' ≡ rs) × (ps' ≡ ps) × (n ≡ accepted))

      -- the same of what the turn read
      pub running_next : k < count → {s : List ℕ} → s ≡ drop at list → {size : ℕ} → ReadsEvent s (record { slot = slot; event = v; size = size }) →
          length store' ≡ length L.store → length ws' ≡ length L.words → {answer : ℕ} {t' : Tally} {rs' : List HeldRounds} {ps' : List HeldLead} {n : ℕ} →
          Turned answer t' rs' ps' n →
          Running list ls L₀ count (as_lent store' ws' (set L.answers k answer)) rs' ps' t' n (at + size) (k + 1)
      running_next h es {size} R l₁ l₂ T =
          let size_is : size ≡ event_size (drop at list) = R.size_is ∙ ap event_size es in
          let next = event_settled h (R.event_is ∙ ap event_at es) l₁ l₂ in
          ⊎_elim
          (λ c. rw (size_is, T.answer_is, T.tally_is, c.1, c.2, c.3) (rw (eq-eqb w.number OK c.0) at next))
          (λ c. rw (size_is, T.answer_is, T.tally_is, c.1, c.2, c.3) (rw (ne_eqb w.number OK c.0, add-zero accepted) at next))
          T.held

  pub counts_small : CountsFit t
  counts_small = counts_fit before

  -- message k, and the row that it fills
  abbrev sent_at : ℕ → Message
  sent_at k = message_at before.o k

  row_is : (i : ℕ) → i < t.sent → row_at L.store i ≡ row_with (sent_at i)
  row_is i h = row_stored L.store before.o.sent i _ G.represents.shared.messages (omega (arith, G.represents.shared.sent_count))

  sent_is : (i : ℕ) → i < t.sent → fetched L.store i ≡ sent_at i
  sent_is i h =
      fetch_stored L.store before.o.sent i _ G.represents.shared.messages (omega (arith, G.represents.shared.sent_count))
      before.sound.ranged before.sound.readable

  rows_same : SameJoinRows L.store t.sent
  rows_same i j q r m a b p p' =
      let within : t.sent ≡ length before.o.sent = G.represents.shared.sent_count in
      let same : sent_at i ≡ sent_at j =
      same_joins before.z (events_in k (body list)) G.ready.members q r m (sent_at i) (sent_at j)
      (getD_in before.o.sent i _ (omega arith)) (getD_in before.o.sent j _ (omega arith))
      (subst (JoinIn q r m) (sent_is i a) p) (subst (JoinIn q r m) (sent_is j b) p') in
      row_is i a ∙ ap row_with same ∙ sym (row_is j b)

  -- after the last event
  pub running_ended : count ≤ k →
      Ran list ls L₀ (record { number = OK; accepted = accepted; messages = t.sent; proposals = t.proposals; decisions = t.decisions; ghosts = t.ghosts }) L
  unfolding events_of
  running_ended h =
      let z = sizes_of list ls L₀.store in
      let last = count_of list in
      let end = played_to list ls L₀.store last in
      let e : k ≡ last = omega (arith, G.within, G.count_is) in
      let long : length (events_in last (body list)) ≡ last = length_events last (body list) in
      let R : Represents z end t (held_list rs ps) L.store (table_at ls L.words) =
      subst (λ n. Represents z (played_to list ls L₀.store n) t (held_list rs ps) L.store (table_at ls L.words)) e G.represents in
      record {
        number_ok = refl;
        answers_are =
            G.said ∙ ap (λ n. answers_to list ls L₀.store n ++ drop n L₀.answers) e ∙
            ap (λ n. answers_to list ls L₀.store last ++ drop n L₀.answers) (sym long);
        store_is = R.shared.messages ∙ ap (λ n. stored n end.sent) G.store_long;
        joins_same = rows_same;
        tables_are =
            words_all still_fit ∙ all_same (table_at ls L.words) (λ s. table (length_at ls s) (made_tree z end s)) SLOTS
            (λ s l. (R.slots s l).nodes_are ∙ ap (λ n. table n (made_tree z end s)) (table_long still_fit l));
        accepted_is = G.counted ∙ ap (λ n. zeros (answers_to list ls L₀.store n)) e;
        messages_are = R.shared.sent_count;
        proposals_made = R.proposed;
        decisions_made = R.decided;
        ghosts_are = R.struck;
      }
