-- What becomes of a step, for each answer of a member: the number, and the memory after it. Assumes nothing.
use mathlib.Core.Path.{◌≡◌, refl, sym, ap, subst, ◌∙◌}
use mathlib.Core.Bool.{true, false}
use mathlib.Core.List.{List, [], ◌∷◌, ◌++◌, append-nil}
use Prim.Native.Nat.{ℕ, suc, ◌+◌, ◌≤◌, ◌<◌}
use native.Mathlib.Omega.{arith}
use native.Mathlib.Nat.{add-zero}
use lib.ListN.{length}
use lib.Dec.{leb}
use borrow.Author.Tests.{leb-true, leb-false, le-ltb}
use Rattle.laws.specs.Tests.{by_test, clash}
use Rattle.ids.specs.declared.Round.{Round}
use Rattle.ids.specs.declared.Slot.{Slot}
use Rattle.ids.specs.Ranges.{SLOTS, no_slot}
use Rattle.numbers.specs.declared.Refusal.{Refusal}
use Rattle.numbers.specs.Numbers.{OK, NO_FREE_ROW, STORE_FULL, refusal_number}
use Rattle.numbers.proofs.Refusals.{refusal_not_ok, refusal_byte}
use Rattle.tree_theory.specs.Machine.{Call, Node, add, commit, step}
use Rattle.tree_theory.specs.Table.{nodes, rows, table, TreeTable}
use Rattle.tree_theory.specs.Ghosts.{ghosts_made, at_add, stepped_ghosts}
use Rattle.message.specs.declared.Body.{Body}
use Rattle.message.specs.declared.Message.{Message}
use Rattle.message.specs.Layout.{in_slot}
use Rattle.message.specs.Fields.{in_range, message_in_range}
use Rattle.member_record.specs.declared.MemberState.{MemberState}
use Rattle.member_record.specs.Record.{slot_number}
use Rattle.member.specs.declared.StepAnswer.{StepAnswer}
use Rattle.member.specs.declared.StepAnswer.TheVariants.{Refused, Sent, Done, Proposed, Decided}
use Rattle.member.specs.Answers.{answer_outcome}
use Rattle.member.specs.Kept.{Kept}
use Rattle.member.specs.Table.{Outcome, sends, nothing, proposal}
use Rattle.member.proofs.Keeping.{step_kept}
use Rattle.model.specs.Model.{Sizes, Event, Office, made_in, at_member, event_of, member_at, sends_one, event_outcome, proposals, taken}
use Rattle.model.specs.Counts.{made_tree, made_ghosts, decisions}
use Rattle.model.proofs.Kept.{step_is_sound, event_fits}
use Rattle.model.proofs.Sound.{seen_ranged}
use Rattle.model.proofs.Tree.{tree_nothing, tree_proposal, tree_decision, ghosts_nothing, ghosts_proposal, ghosts_decision}
use Rattle.play_store.specs.Rows.{store_rows, stored, put_row}
use Rattle.play_store.proofs.Stored.{put_stored}
use Rattle.tree.specs.Promises.{stepped_table}
use Rattle.play_effects.specs.Effects.{EventEffect}
use Rattle.play_effects.specs.declared.Tally.{Tally}
use Rattle.play_effects.specs.Memory.{Memory, in_memory}
use Rattle.play_effects.specs.Effects.{counted, refused_event, accepted_event, no_room_to_send, no_room_to_propose, SendEffect, ProposalEffect, DecisionEffect}
use Rattle.play_office.specs.Represents.{StepBefore, StepAfter, ModelStep, AnswerIs, AnswerBefore, table_slot}
use Rattle.play_office.proofs.Before.{in_table, table_below, nodes_held, is_a_tree, last_used, last_free}
use Rattle.play_office.proofs.Settling.{refused_step, store_full_answer, table_full_answer, sent_one, proposed_one, silent_one}
use Rattle.play_office.proofs.Settling.{refused_after, accepted_after}

-- what a step that proposes comes to
abbrev proposing : MemberState → Body → ℕ → ℕ → ℕ → Outcome
proposing m g r x b = record { number = 0; state = m; sent = g ∷ []; named = proposal r x b }

-- what is known of an answer, by the arm that it takes
pub by_answer : {t : Tally} {slot : Slot} {a b : StepAnswer} {M : Memory} (F : AnswerBefore t slot a M) → a ≡ b →
    AnswerIs F.before.z F.before.o F.e F.m b
by_answer F q = subst (AnswerIs F.before.z F.before.o F.e F.m) q F.is

-- a step of the model as an answer
pub answer_is : {z : Sizes} {o : Office} {e : Event} (m : MemberState) (a : StepAnswer) → ModelStep z o e (answer_outcome m a) →
    AnswerIs z o e m a
unfolding AnswerIs
answer_is m (Refused r) T = record { number_is = refused_step T (refusal_not_ok r); some = refusal_not_ok r; small = refusal_byte r }
answer_is m (Sent g) T = T
answer_is m Done T = T
answer_is m (Proposed g r x b) T = T
answer_is m (Decided r x) T = T

-- what a step sends is within its ranges
pub step_keeps : {t : Tally} {store : List ℕ} (B : StepBefore t store) {e : Event} {u : Outcome} → ModelStep B.z B.o e u → Kept u
step_keeps B {e} T =
    let z = B.z in
    let o = B.o in
    let k = at_member e.event in
    let was = B.sound.each e.slot k T.slot T.member in
    let ranged = seen_ranged B.sound e.slot in
    let same = T.equals ∙ step_is_sound z o e ranged was.is_sound T.there T.own in
    rw same (step_kept (member_at z o e.slot k) (event_of o e.event) was.seven was.is_sound (event_fits z o e ranged T.there T.own))

-- and of its slot
pub sent_ranged : {z : Sizes} {o : Office} {e : Event} {u : Outcome} → ModelStep z o e u → (b : Body) → in_range b ≡ true → {slot : Slot} → e.slot ≡ slot.0 →
    {g : Message} → g ≡ in_slot slot b → message_in_range g ≡ true
sent_ranged {e = e} T b h {slot} q p =
    let low : no_slot slot.0 ≡ false = le-ltb 7 slot.0 (omega (arith, T.slot)) in
    rw (p, low, h) refl

-- what the model's step names
named_by : {z : Sizes} {o : Office} {e : Event} {u : Outcome} → ModelStep z o e u → (event_outcome z o e).named ≡ u.named
named_by T = ap (λ (u : Outcome). u.named) (sym T.equals)

nothing_more : (t : Tally) → counted t 0 0 0 0 ≡ t
nothing_more t = rw (add-zero t.sent, add-zero t.proposals, add-zero t.decisions, add-zero t.ghosts) refl

-- what the code hands back
pub as_result : {t : Tally} {store : List ℕ} {B : StepBefore t store} {e : Event} {m : MemberState} {M' : Memory} {w v : EventEffect} → w ≡ v →
    StepAfter B e m v M' → StepAfter B e m w M'
as_result {B = B} {e} {m} {M'} q A = subst (λ (v : EventEffect). StepAfter B e m v M') (sym q) A

-- the table that is lent for any event is one of the eight, and a tree
module _ {t : Tally} (M : Memory) (B : StepBefore t M.store) (s : ℕ) (lent : B.tables (table_slot s) ≡ M.table) where
  pub lent_tree : TreeTable true M.table
  lent_tree =
      subst (TreeTable true) lent
      (record { long = B.sizes.table_length (table_slot s) (table_below s); tree = is_a_tree B (table_slot s) (table_below s) })

module _ {t : Tally} (M : Memory) (B : StepBefore t M.store) (e : Event) (lent : B.tables (table_slot e.slot) ≡ M.table) where
  -- the store as it was holds what was sent, if nothing is
  same_messages : M.store ≡ stored (length M.store) (B.o.sent ++ [])
  same_messages = B.represents.shared.messages ∙ ap (stored (length M.store)) (sym (append-nil B.o.sent))

  -- a row of the store is free
  free : t.sent < store_rows M.store → length B.o.sent < B.z.store
  free h = omega (arith, B.sizes.store_is, B.represents.shared.sent_count)

  put_behind : (g : Message) (store' : List ℕ) → t.sent < store_rows M.store → length store' ≡ length M.store → store' ≡ put_row M.store t.sent g →
      store' ≡ stored (length store') (B.o.sent ++ g ∷ [])
  put_behind g store' h l w =
      let S = B.represents.shared in
      w ∙ put_stored M.store B.o.sent g t.sent S.messages S.sent_count (omega (arith, S.sent_count)) ∙
      ap (λ n. stored n (B.o.sent ++ g ∷ [])) (sym l)

  -- an event of a slot
  module _ (low : e.slot < SLOTS) where
    abbrev s : ℕ
    s = e.slot

    abbrev ns : List Node
    ns = made_tree B.z B.o s

    here_lent : B.tables s ≡ M.table
    here_lent = ap B.tables (sym (in_table s low)) ∙ lent

    rows_are : B.z.tables s ≡ rows M.table
    rows_are = B.sizes.table_is s low ∙ ap rows here_lent

    eight : s < length B.o.slots
    eight = omega (arith, low, B.sound.eight)

    -- the table as it was holds the tree, if nothing is named
    same_nodes : (event_outcome B.z B.o e).named ≡ nothing → M.table ≡ table (length M.table) (made_tree B.z (taken B.z B.o e) s)
    same_nodes q =
        subst (λ ws. ws ≡ table (length ws) (made_tree B.z (taken B.z B.o e) s)) here_lent
        ((B.represents.slots s low).nodes_are ∙ ap (table (length (B.tables s))) (sym (tree_nothing B.z B.o e eight q)))

    held_nodes : nodes M.table ≡ ns
    held_nodes = subst (λ ws. nodes ws ≡ ns) here_lent (nodes_held B s low)

    -- the tree's step on the table is the machine's on the model's tree
    stepped : (c : Call) (ws' : List ℕ) → ws' ≡ stepped_table true M.table c → length ws' ≡ length M.table →
        ws' ≡ table (length ws') (step true (B.z.tables s) ns c)
    stepped c ws' q l =
        q ∙ ap (λ ks. table (length M.table) (step true (rows M.table) ks c)) held_nodes ∙
        ap (λ n. table (length M.table) (step true n ns c)) (sym rows_are) ∙ ap (λ n. table n (step true (B.z.tables s) ns c)) (sym l)

    -- and so is what it makes GHOST
    counted_on : (c : Call) → stepped_ghosts true M.table c ≡ at_add ghosts_made true (B.z.tables s) ns c
    counted_on c =
        ap (λ ks. at_add ghosts_made true (rows M.table) ks c) held_nodes ∙
        ap (λ n. at_add ghosts_made true n ns c) (sym rows_are)

    -- its last row tells whether one is left for a proposal
    row_left : no_room_to_propose M.table ≡ false → suc (proposals (made_in B.o s)) < B.z.tables s
    row_left h =
        by_test (leb (B.z.tables s) (suc (proposals (made_in B.o s))))
        (λ t. clash (subst (λ ws. no_room_to_propose ws ≡ true) here_lent (last_used B s low (leb-true _ _ t))) h)
        (λ t. leb-false _ _ t)

    no_row : no_room_to_propose M.table ≡ true → B.z.tables s ≤ suc (proposals (made_in B.o s))
    no_row h =
        by_test (leb (B.z.tables s) (suc (proposals (made_in B.o s))))
        (λ t. leb-true _ _ t)
        (λ t. clash h (subst (λ ws. no_room_to_propose ws ≡ false) here_lent (last_free B s low (leb-false _ _ t))))

  -- nothing is sent and nothing is named
  pub goes_silent : (m : MemberState) → AnswerIs B.z B.o e m Done → StepAfter B e m (accepted_event t) M
  unfolding AnswerIs proposals decisions
  goes_silent m T =
      subst (λ k. StepAfter B e m (accepted_event k) M) (nothing_more t)
      (accepted_after B e M T 0 0 0 0 (silent_one T refl refl refl) refl refl refl
      (ghosts_nothing B.z B.o e (eight T.slot) (named_by T)) same_messages (same_nodes T.slot (named_by T)))

  -- a message is sent and nothing is named
  goes_sent : {m : MemberState} {b : Body} (store' : List ℕ) → ModelStep B.z B.o e (sends m b) → t.sent < store_rows M.store →
      length store' ≡ length M.store → store' ≡ put_row M.store t.sent (in_slot (slot_number e.slot) b) →
      StepAfter B e m (accepted_event (counted t 1 0 0 0)) (in_memory store' M.table)
  unfolding proposals decisions
  goes_sent {m} {b} store' T h l w =
      accepted_after B e (in_memory store' M.table) T 1 0 0 0 (sent_one T refl refl (free h) refl) refl refl refl
      (ghosts_nothing B.z B.o e (eight T.slot) (named_by T)) (put_behind (in_slot (slot_number e.slot) b) store' h l w) (same_nodes T.slot (named_by T))

  -- the proposal is sent and added
  goes_proposed : {m : MemberState} {b : Body} {r x p : ℕ} (M' : Memory) → ModelStep B.z B.o e (proposing m b r x p) →
      t.sent < store_rows M.store → no_room_to_propose M.table ≡ false → length M'.store ≡ length M.store →
      M'.store ≡ put_row M.store t.sent (in_slot (slot_number e.slot) b) → length M'.table ≡ length M.table →
      M'.table ≡ stepped_table true M.table (add r x p) →
      StepAfter B e m (accepted_event (counted t 1 1 0 (stepped_ghosts true M.table (add r x p)))) M'
  unfolding proposals decisions
  goes_proposed {m} {b} {r} {x} {p} M' T h f l w l' q =
      accepted_after B e M' T 1 1 0 (stepped_ghosts true M.table (add r x p))
      (proposed_one T refl refl (free h) refl (row_left T.slot f)) refl refl refl
      (ghosts_proposal B.z B.o e (eight T.slot) r x p (named_by T) ∙
      ap (λ n. made_ghosts B.z B.o e.slot + n) (sym (counted_on T.slot (add r x p))))
      (put_behind (in_slot (slot_number e.slot) b) M'.store h l w)
      (stepped T.slot (add r x p) M'.table q l' ∙
      ap (table (length M'.table)) (sym (tree_proposal B.z B.o e (eight T.slot) r x p (named_by T))))

  -- the decision is committed
  pub decides_go : (m : MemberState) {r : Round} (x : ℕ) {w : EventEffect} {ws' : List ℕ} → AnswerIs B.z B.o e m (Decided r x) →
      DecisionEffect t (commit r.0) M.table w ws' → length ws' ≡ length M.table → StepAfter B e m w (in_memory M.store ws')
  unfolding AnswerIs proposals decisions
  decides_go m {r} x {w} {ws'} T P l =
      as_result P.result_is
      (accepted_after B e (in_memory M.store ws') T 0 0 1 0 (silent_one T refl refl refl) refl refl refl
      (ghosts_decision B.z B.o e (eight T.slot) r.0 x (named_by T)) same_messages
      (stepped T.slot (commit r.0) ws' P.table_is l ∙
      ap (table (length ws')) (sym (tree_decision B.z B.o e (eight T.slot) r.0 x (named_by T)))))

  -- a refusal leaves all
  pub refuses : (m : MemberState) (r : Refusal) → AnswerIs B.z B.o e m (Refused r) → StepAfter B e m (refused_event t (refusal_number r)) M
  unfolding AnswerIs
  refuses m r R = refused_after M B e lent m R

  -- no row of the store is free
  fills : (m : MemberState) {u : Outcome} → ModelStep B.z B.o e u → u.number ≡ OK → sends_one u.sent ≡ true → store_rows M.store ≤ t.sent →
      StepAfter B e m (refused_event t STORE_FULL) M
  fills m T n s h =
      refused_after M B e lent m
      (record {
        number_is = store_full_answer T n s (omega (arith, B.sizes.store_is, B.represents.shared.sent_count));
        some = λ q. omega arith;
        small = omega arith;
      })

  -- no row of the slot's table is free
  has_no_row : {m : MemberState} {b : Body} {r x p : ℕ} → ModelStep B.z B.o e (proposing m b r x p) → t.sent < store_rows M.store →
      no_room_to_propose M.table ≡ true → StepAfter B e m (refused_event t NO_FREE_ROW) M
  has_no_row {m} T h f =
      refused_after M B e lent m
      (record {
        number_is = table_full_answer T refl refl (free h) refl (no_row T.slot f);
        some = λ q. omega arith;
        small = omega arith;
      })

  pub sends_go : (m : MemberState) {b : Body} {g : Message} {w : EventEffect} {store' : List ℕ} → AnswerIs B.z B.o e m (Sent b) →
      g ≡ in_slot (slot_number e.slot) b → SendEffect t g M.store w store' → length store' ≡ length M.store → StepAfter B e m w (in_memory store' M.table)
  unfolding AnswerIs
  sends_go m {g = g} {w} {store'} T q P l =
      by_test (no_room_to_send t M.store)
      (λ f.
      let s : store' ≡ M.store = rw f at P.store_is in
      rw s (as_result (rw f at P.result_is) (fills m T refl refl (leb-true _ _ f))))
      (λ f. as_result (rw f at P.result_is) (goes_sent store' T (leb-false _ _ f) l (rw (f, q) at P.store_is)))

  pub proposes_go : (m : MemberState) {b : Body} {g : Message} {r : Round} {x : ℕ} {p : Round} {w : EventEffect} {M' : Memory} →
      AnswerIs B.z B.o e m (Proposed b r x p) → g ≡ in_slot (slot_number e.slot) b → ProposalEffect t g (add r.0 x p.0) M w M' →
      length M'.store ≡ length M.store → length M'.table ≡ length M.table → StepAfter B e m w M'
  unfolding AnswerIs
  proposes_go m {w = w} {M'} T q P l l' =
      by_test (no_room_to_send t M.store)
      (λ f. left (rw f at P.store_is) (rw f at P.table_is) (rw f at P.result_is) (fills m T refl refl (leb-true _ _ f)))
      (λ f. by_test (no_room_to_propose M.table)
      (λ h. left (rw (f, h) at P.store_is) (rw (f, h) at P.table_is) (rw (f, h) at P.result_is) (has_no_row T (leb-false _ _ f) h))
      (λ h.
      as_result (rw (f, h) at P.result_is)
      (goes_proposed M' T (leb-false _ _ f) h l (rw (f, h, q) at P.store_is) l' (rw (f, h) at P.table_is))))
    where
      -- a refused proposal leaves the memory
      left : {v : EventEffect} → M'.store ≡ M.store → M'.table ≡ M.table → w ≡ v → StepAfter B e m v M → StepAfter B e m w M'
      left s q v A = let same : M' ≡ M = λ j. in_memory (s j) (q j) in rw same (as_result v A)
