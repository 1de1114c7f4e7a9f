-- Each refusal in its order, then the events on a cleared store and fresh tables.
use mathlib.Core.Path.{◌≡◌, sym, ap, ◌∙◌}
use mathlib.Core.Bool.{Bool, true}
use mathlib.Core.List.{List}
use Prim.Native.Nat.{ℕ, ◌≤◌}
use native.Mathlib.Omega.{arith}
use lib.ListN.{length}
use Rattle.numbers.specs.Numbers.{OK}
use Rattle.member_record.specs.Record.{allowed}
use Rattle.play_events.specs.declared.ListHead.{ListHead}
use Rattle.play_events.specs.List.{members_of, count_of, head_of, list_fits}
use Rattle.play_store.specs.Rows.{store_sized}
use Rattle.play_tables.specs.Tables.{tables_number}
use Rattle.play_tables.proofs.Sizes.{number_fits}
use Rattle.play_run.specs.Lent.{Lent}
use Rattle.play_run.proofs.Running.{list_parts}
use Rattle.play.proofs.Giving.{PassedList, not_exact, not_allowed, store_odd, answers_few, tables_odd, ready_to_run, given_taken}
use Rattle.std.proofs.Common.{rules, Err}
use Rattle.numbers.proofs.Refusals.{refusal_not_ok}
use Rattle.play.proofs.play.Goals as goal

-- what the head that was read says
members_read : (list : List ℕ) {h : ListHead} {b : Bool} → h ≡ head_of list → b ≡ allowed h.members → allowed (members_of list) ≡ b
members_read list q p = ap (λ (h : ListHead). allowed h.members) (sym q) ∙ sym p

count_read : (list : List ℕ) {h : ListHead} → h ≡ head_of list → h.count ≡ count_of list
count_read list q = ap (λ (h : ListHead). h.count) q

-- and what each test left behind
passed_list : {list ls : List ℕ} {L : Lent} {h : ListHead} {a b d : Bool} → a ≡ list_fits list → h ≡ head_of list → b ≡ allowed h.members →
    d ≡ store_sized L.store → OK ≡ tables_number ls L.words → a ≡ true → b ≡ true → d ≡ true → h.count ≤ length L.answers → PassedList list ls L
passed_list ea eh eb ed ek ta tb td room =
    record {
      fits = sym ea ∙ ta;
      members = members_read _ eh eb ∙ tb;
      store_length = sym ed ∙ td;
      room = omega (arith, count_read _ eh);
      tables_fit = number_fits _ _ (sym ek);
    }

pub returns-then-not-list_fits : goal.returns-then-not-list_fits
returns-then-not-list_fits c = not_exact (sym c.list_fits.ensures ∙ c.if-not-list_fits.true)

pub read_head-head-requires : goal.read_head-head-requires
read_head-head-requires c = (list_parts (sym c.list_fits.ensures ∙ c.if-not-list_fits.false)).head

pub returns-then-not-is_allowed : goal.returns-then-not-is_allowed
returns-then-not-is_allowed c =
    not_allowed (sym c.list_fits.ensures ∙ c.if-not-list_fits.false)
    (members_read c.args.list.now c.read_head-head.ensures c.is_allowed.ensures ∙ c.if-not-is_allowed.true)

pub returns-then-not-has_store_length : goal.returns-then-not-has_store_length
returns-then-not-has_store_length c =
    store_odd (sym c.list_fits.ensures ∙ c.if-not-list_fits.false)
    (members_read c.args.list.now c.read_head-head.ensures c.is_allowed.ensures ∙ c.if-not-is_allowed.false)
    (sym c.has_store_length.ensures ∙ c.if-not-has_store_length.true)

pub returns-then-answered-head : goal.returns-then-answered-head
returns-then-answered-head c =
    answers_few (sym c.list_fits.ensures ∙ c.if-not-list_fits.false)
    (members_read c.args.list.now c.read_head-head.ensures c.is_allowed.ensures ∙ c.if-not-is_allowed.false)
    (sym c.has_store_length.ensures ∙ c.if-not-has_store_length.false)
    (omega (arith, count_read c.args.list.now c.read_head-head.ensures))

pub returns-in_err-check_lengths : goal.returns-in_err-check_lengths
returns-in_err-check_lengths c =
    let e : c.from_residual.result ≡ Err c.in_err-check_lengths.field-0.0 = search rules in
    let refused =
    tables_odd (sym c.list_fits.ensures ∙ c.if-not-list_fits.false)
    (members_read c.args.list.now c.read_head-head.ensures c.is_allowed.ensures ∙ c.if-not-is_allowed.false)
    (sym c.has_store_length.ensures ∙ c.if-not-has_store_length.false)
    (omega (arith, count_read c.args.list.now c.read_head-head.ensures))
    c.in_err-check_lengths.ensures (refusal_not_ok c.in_err-check_lengths.field-0.0) in
    rw e refused

pub fresh_tables-requires : goal.fresh_tables-requires
fresh_tables-requires c = number_fits _ _ (sym c.in_ok-check_lengths.ensures)

pub run-requires : goal.run-requires
run-requires c =
    ready_to_run
    (passed_list c.list_fits.ensures c.read_head-head.ensures c.is_allowed.ensures c.has_store_length.ensures
    c.in_ok-check_lengths.ensures c.if-not-list_fits.false c.if-not-is_allowed.false c.if-not-has_store_length.false (omega arith))
    c.clear.ensures c.fresh_tables.ensures

pub returns : goal.returns
returns c =
    let P = passed_list c.list_fits.ensures c.read_head-head.ensures c.is_allowed.ensures c.has_store_length.ensures
    c.in_ok-check_lengths.ensures c.if-not-list_fits.false c.if-not-is_allowed.false c.if-not-has_store_length.false (omega arith) in
    given_taken P c.clear.ensures c.fresh_tables.ensures c.run.ensures
