-- What becomes of a member's step in the model, by its outcome: the number, and the state that the memory then represents. Assumes nothing.
use mathlib.Core.Path.{◌≡◌, refl, sym, ap, subst, ◌∙◌}
use mathlib.Core.Bool.{true, false, ◌&&◌, not}
use mathlib.Core.List.{List, [], ◌∷◌, ◌++◌, map}
use mathlib.Core.Logic.{◌≢◌}
use Prim.Native.Nat.{ℕ, suc, ◌+◌, ◌*◌, ◌≤◌, ◌<◌}
use native.Mathlib.Omega.{arith}
use lib.ListN.{length, get_or, set, length-append, length-map, length-set}
use lib.Seq.{get_or-set_same, get_or-set_other}
use lib.Dec.{eqb}
use borrow.Author.Tests.{eq-eqb, ne_eqb, eqb-true, le-leb, lt-leb, le-ltb}
use Rattle.laws.specs.Tests.{tests, by_test}
use Rattle.laws.specs.First.{first, ◌gives◌}
use Rattle.ids.specs.Ranges.{SLOTS}
use Rattle.numbers.specs.Numbers.{OK, NO_FREE_ROW, STORE_FULL, no_row_left}
use Rattle.tree_theory.specs.Table.{table}
use Rattle.message.specs.Layout.{in_slot}
use Rattle.member_record.specs.declared.MemberState.{MemberState}
use Rattle.member_record.specs.Record.{fresh_record, slot_number}
use Rattle.member.specs.Table.{Outcome}
use Rattle.model.specs.Model.{Sizes, Event, Office, member_number, slot_at, made_in, member_at, at_member, sends_one, proposes_one, proposals}
use Rattle.model.specs.Model.{event_outcome, event_causes, event_answer, made_by, taken, next}
use Rattle.model.specs.Counts.{made_tree, made_ghosts, decisions}
use Rattle.model.proofs.View.{SlotView, view, becomes, view_taken, view_other}
use Rattle.model.proofs.Made.{proposals_append, decisions_append}
use Rattle.model.proofs.Sums.{sum_more}
use Rattle.play_store.specs.Rows.{stored}
use Rattle.play_effects.specs.declared.Tally.{Tally}
use Rattle.play_effects.specs.Memory.{Memory}
use Rattle.play_effects.specs.Effects.{counted, refused_event, accepted_event}
use Rattle.play_office.specs.Represents.{HeldRecord, HeldAt, Represents, RepresentsSlot, StepBefore, StepAfter, ModelStep, RefusedWith, held_of, table_slot}
use Rattle.play_office.specs.Represents.{tables_with}
use Rattle.play_office.proofs.Before.{allowed_seven, in_place, in_table}

module _ {z : Sizes} {o : Office} {e : Event} {u : Outcome} (T : ModelStep z o e u) where
  -- the event's number is the step's, or 30, or 9
  number : event_answer z o e ≡
      first
      (not (eqb u.number OK) gives u.number ∷
      (sends_one u.sent && no_row_left z.store (length o.sent)) gives STORE_FULL ∷
      (proposes_one u.named && no_row_left (z.tables e.slot) (suc (proposals (made_in o e.slot)))) gives NO_FREE_ROW ∷ [])
  unfolding event_answer event_causes
  number = rw (le-ltb 7 e.slot (omega (arith, T.slot)), lt-leb z.n (at_member e.event) T.member, T.there, T.own, T.equals) refl

  pub refused_step : (u.number ≡ OK → ⊥) → event_answer z o e ≡ u.number
  refused_step n = number ∙ rw (ne_eqb u.number OK n) refl

  module _ (ok : u.number ≡ OK) where
    pub store_full_answer : sends_one u.sent ≡ true → z.store ≤ length o.sent → event_answer z o e ≡ STORE_FULL
    store_full_answer s f = number ∙ rw (ok, s, le-leb z.store (length o.sent) f) refl

    pub silent_one : sends_one u.sent ≡ false → proposes_one u.named ≡ false → event_answer z o e ≡ OK
    silent_one s p = number ∙ rw (ok, s, p) refl

    module _ (s : sends_one u.sent ≡ true) (f : length o.sent < z.store) where
      pub table_full_answer : proposes_one u.named ≡ true → z.tables e.slot ≤ suc (proposals (made_in o e.slot)) → event_answer z o e ≡ NO_FREE_ROW
      table_full_answer p r =
          number ∙ rw (ok, s, lt-leb z.store (length o.sent) f, p, le-leb (z.tables e.slot) (suc (proposals (made_in o e.slot))) r) refl

      pub sent_one : proposes_one u.named ≡ false → event_answer z o e ≡ OK
      sent_one p = number ∙ rw (ok, s, lt-leb z.store (length o.sent) f, p) refl

      pub proposed_one : proposes_one u.named ≡ true → suc (proposals (made_in o e.slot)) < z.tables e.slot → event_answer z o e ≡ OK
      proposed_one p r =
          number ∙ rw (ok, s, lt-leb z.store (length o.sent) f, p, lt-leb (z.tables e.slot) (suc (proposals (made_in o e.slot))) r) refl

-- the same tables, slot by slot
pub same_tables : {z : Sizes} {o : Office} {t : Tally} {ms : List HeldRecord} {store : List ℕ} (f g : ℕ → List ℕ) →
    ((s : ℕ) → s < SLOTS → f s ≡ g s) → Represents z o t ms store f → Represents z o t ms store g
same_tables {z} {o} {ms = ms} f g h R = record {
  size = R.size;
  places = R.places;
  shared = R.shared;
  slots = λ s l. subst (RepresentsSlot z o s ms) (h s l) (R.slots s l);
  proposed = R.proposed;
  decided = R.decided;
  struck = R.struck;
}

-- the record of one member is written
module _ (ms : List HeldRecord) (s k : ℕ) (m : MemberState) where
  pub held_set : 7 * s + k < length ms → HeldAt (set ms (7 * s + k) (held_of m)) s k m
  held_set l = record {
    within = rw (length-set ms (7 * s + k) (held_of m)) l;
    is = λ d. get_or-set_same ms (7 * s + k) (held_of m) d l;
  }

  -- any other member's stays
  pub held_other : (v j : ℕ) (r : MemberState) → k < 7 → j < 7 → (v ≡ s → j ≢ k) → HeldAt ms v j r → HeldAt (set ms (7 * s + k) (held_of m)) v j r
  held_other v j r few low d H =
      let apart : 7 * v + j ≢ 7 * s + k = λ q. d (omega arith) (omega arith) in
      record {
        within = rw (length-set ms (7 * s + k) (held_of m)) H.within;
        is = λ x. rw (get_or-set_other ms (7 * s + k) (7 * v + j) (held_of m) x apart) (H.is x);
      }

-- a refused event changes nothing
pub refused_after : {t : Tally} (M : Memory) (B : StepBefore t M.store) (e : Event) → B.tables (table_slot e.slot) ≡ M.table → (m : MemberState) {k : ℕ} →
    RefusedWith B.z B.o e k → StepAfter B e m (refused_event t k) M
unfolding next
refused_after M B e lent m {k} R =
    let r : eqb (event_answer B.z B.o e) OK ≡ false = ne_eqb (event_answer B.z B.o e) OK (λ q. R.some (sym R.number_is ∙ q)) in
    let n : eqb k OK ≡ false = ne_eqb k OK R.some in
    let same : (s : ℕ) → s < SLOTS → B.tables s ≡ tables_with B.tables (table_slot e.slot) M.table s =
    λ s l. by_test (eqb s (table_slot e.slot))
    (λ q. rw q (ap B.tables (eqb-true s (table_slot e.slot) q) ∙ lent))
    (λ q. rw q refl) in
    record { number_is = sym R.number_is; small = R.small; represents = rw (r, n) (same_tables B.tables _ same B.represents) }

-- an accepted one takes its step
module _ {t : Tally} {store : List ℕ} (B : StepBefore t store) (e : Event) {u : Outcome} (M' : Memory) (T : ModelStep B.z B.o e u) where
  abbrev z : Sizes
  z = B.z

  abbrev o : Office
  o = B.o

  abbrev s : ℕ
  s = e.slot

  abbrev k : ℕ
  k = at_member e.event

  few : (j : ℕ) → j < z.n → j < 7
  few j l = omega (arith, allowed_seven z.n B.sizes.allowed_size)

  own_view : view (taken z o e) s ≡ becomes (view o s) k (event_outcome z o e)
  own_view = view_taken z o e (omega (arith, T.slot, B.sound.eight))

  -- the member's record is that of the step
  own_member : member_at z (taken z o e) s k ≡ u.state
  own_member =
      ap (λ (v : SlotView). get_or v.members k (fresh_record (slot_number s) (member_number k) z.n)) own_view ∙
      get_or-set_same (slot_at o s).members k (event_outcome z o e).state _ (rw (B.sound.count s T.slot) T.member) ∙
      ap (λ (v : Outcome). v.state) (sym T.equals)

  -- another member of the slot has what it had
  slot_member : (j : ℕ) → j ≢ k → member_at z (taken z o e) s j ≡ member_at z o s j
  slot_member j d =
      ap (λ (v : SlotView). get_or v.members j (fresh_record (slot_number s) (member_number j) z.n)) own_view ∙
      get_or-set_other (slot_at o s).members k j (event_outcome z o e).state _ d

  -- and so has another slot
  other_view : (v : ℕ) → v ≢ s → view (taken z o e) v ≡ view o v
  other_view v d = view_other z o e v d

  abbrev ms : List HeldRecord
  ms = set B.members (7 * s + k) (held_of u.state)

  members_held : (v : ℕ) → v < SLOTS → (j : ℕ) → j < z.n → HeldAt ms v j (member_at z (taken z o e) v j)
  members_held v l j b =
      by_test (eqb v s)
      (λ p. let q : v ≡ s = eqb-true v s p in
      subst (λ x. HeldAt ms x j (member_at z (taken z o e) x j)) (sym q)
      (by_test (eqb j k)
      (λ h. subst (λ x. HeldAt ms s x (member_at z (taken z o e) s x)) (sym (eqb-true j k h))
      (subst (HeldAt ms s k) (sym own_member)
      (held_set B.members s k u.state ((B.represents.slots s T.slot).members k T.member).within)))
      (λ h. let d : j ≢ k = omega tests in
      subst (HeldAt ms s j) (sym (slot_member j d))
      (held_other B.members s k u.state s j (member_at z o s j) (few k T.member) (few j b) (λ x. d)
      ((B.represents.slots s T.slot).members j b)))))
      (λ p. let d : v ≢ s = omega tests in
      subst (HeldAt ms v j) (sym (ap (λ (x : SlotView). get_or x.members j (fresh_record (slot_number v) (member_number j) z.n)) (other_view v d)))
      (held_other B.members s k u.state v j (member_at z o v j) (few k T.member) (few j b) (λ x. absurd (d x))
      ((B.represents.slots v l).members j b)))

  -- what each slot made
  made_other : (v : ℕ) → v ≢ s → made_in (taken z o e) v ≡ made_in o v
  made_other v d = ap (λ (x : SlotView). x.made) (other_view v d)

  made_own : made_in (taken z o e) s ≡ made_in o s ++ made_by u.named
  made_own = ap (λ (x : SlotView). x.made) own_view ∙ ap (λ (v : Outcome). made_in o s ++ made_by v.named) (sym T.equals)

  pub accepted_after : (a b c d : ℕ) → event_answer z o e ≡ OK →
      length u.sent ≡ a → proposals (made_by u.named) ≡ b → decisions (made_by u.named) ≡ c →
      made_ghosts z (taken z o e) s ≡ made_ghosts z o s + d →
      M'.store ≡ stored (length M'.store) (o.sent ++ map (in_slot (slot_number s)) u.sent) →
      M'.table ≡ table (length M'.table) (made_tree z (taken z o e) s) →
      StepAfter B e u.state (accepted_event (counted t a b c d)) M'
  unfolding next taken
  accepted_after a b c d zero-answer ea eb ec ed es en =
      let R = B.represents in
      let yes : eqb (event_answer z o e) OK ≡ true = eq-eqb (event_answer z o e) OK zero-answer in
      let at = in_place s k T.slot (few k T.member) in
      let lent = in_table s T.slot in
      let R' : Represents z (taken z o e) (counted t a b c d) ms M'.store (tables_with B.tables s M'.table) =
      record {
        size = R.size;
        places = length-set B.members (7 * s + k) (held_of u.state) ∙ R.places;
        shared = record { sent_count = count_sent a ea; messages = subst (λ gs. M'.store ≡ stored (length M'.store) gs) (sym sent_taken) es };
        slots = λ v l. record { members = members_held v l; nodes_are = nodes_taken v l en };
        proposed = ap (λ x. x + b) R.proposed ∙ sym (sum_more (λ v. proposals (made_in (taken z o e) v)) (λ v. proposals (made_in o v)) SLOTS s b T.slot
            (λ v l n. ap proposals (made_other v n))
            (ap proposals made_own ∙ proposals_append (made_in o s) (made_by u.named) ∙ ap (λ x. proposals (made_in o s) + x) eb));
        decided = ap (λ x. x + c) R.decided ∙ sym (sum_more (λ v. decisions (made_in (taken z o e) v)) (λ v. decisions (made_in o v)) SLOTS s c T.slot
            (λ v l n. ap decisions (made_other v n))
            (ap decisions made_own ∙ decisions_append (made_in o s) (made_by u.named) ∙ ap (λ x. decisions (made_in o s) + x) ec));
        struck = ap (λ x. x + d) R.struck ∙ sym (sum_more (made_ghosts z (taken z o e)) (made_ghosts z o) SLOTS s d T.slot
            (λ v l n. ghosts_other v n) ed);
      } in
      record { number_is = sym zero-answer; small = omega arith; represents = rw (yes, at, lent) R' }
    where
      sent_taken : (taken z o e).sent ≡ o.sent ++ map (in_slot (slot_number s)) u.sent
      sent_taken = ap (λ (v : Outcome). o.sent ++ map (in_slot (slot_number s)) v.sent) (sym T.equals)

      count_sent : (a : ℕ) → length u.sent ≡ a → t.sent + a ≡ length (taken z o e).sent
      count_sent a ea =
          let long : length (o.sent ++ map (in_slot (slot_number s)) u.sent) ≡ length o.sent + length u.sent =
          length-append o.sent (map (in_slot (slot_number s)) u.sent) ∙ ap (λ x. length o.sent + x) (length-map u.sent (in_slot (slot_number s))) in
          omega (arith, B.represents.shared.sent_count, ea, long, ap length sent_taken)

      ghosts_other : (v : ℕ) → v ≢ s → made_ghosts z (taken z o e) v ≡ made_ghosts z o v
      ghosts_other v n = rw (made_other v n) refl

      nodes_taken : (v : ℕ) → v < SLOTS → M'.table ≡ table (length M'.table) (made_tree z (taken z o e) s) →
          tables_with B.tables s M'.table v ≡
          table (length (tables_with B.tables s M'.table v)) (made_tree z (taken z o e) v)
      nodes_taken v l en =
          by_test (eqb v s)
          (λ p. rw (p, eqb-true v s p) en)
          (λ p. let n : v ≢ s = omega tests in rw (p, made_other v n) (B.represents.slots v l).nodes_are)
