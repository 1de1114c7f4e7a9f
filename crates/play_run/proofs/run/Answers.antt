-- The memory represents the model at first, and after each event, and so after the last.
use mathlib.Core.Path.{◌≡◌, sym, ap, ◌∙◌}
use mathlib.Core.Logic.{inl, inr}
use mathlib.Core.List.{List}
use Prim.Native.Nat.{ℕ, ◌+◌, ◌<◌}
use native.Mathlib.Omega.{arith}
use lib.ListN.{get_or, set}
use Rattle.laws.specs.Parts.{to_end}
use Rattle.ids.specs.Ranges.{SLOTS}
use Rattle.play_events.specs.List.{event_size}
use Rattle.play_tables.specs.Tables.{StartsAt, length_at, start_of}
use Rattle.play_tables.proofs.Parts.{lies_within}
use Rattle.numbers.specs.Numbers.{refusal_number}
use Rattle.numbers.proofs.Refusals.{refusal_not_ok}
use Rattle.play_effects.specs.Effects.{EventEffect, accepted_event, refused_event, effect_of}
use Rattle.play_office.specs.Represents.{table_slot}
use Rattle.play_office.proofs.Before.{table_below}
use Rattle.play_run.proofs.Running.{list_parts, bytes_of, running_first, event_before, due, at_next}
use Rattle.play_run.proofs.Running.{still_fit, settle_before, running_next, counts_small, running_ended}
use Rattle.play_run.proofs.run.Goals as goal
use Rattle.play_run.proofs.run.Goals.{in-Ok, in-Err}

-- the slot of the table is one of the eight
low : {t : ℕ} (s : ℕ) → t ≡ table_slot s → t < SLOTS
low s q = omega (arith, table_below s, q)

-- where its table starts
start_known : {ls starts : List ℕ} → StartsAt ls starts → {t : ℕ} (s : ℕ) → t ≡ table_slot s → get_or starts t 0 ≡ start_of ls (table_slot s)
start_known {ls} S {t} s q = S.each t (low s q) ∙ ap (start_of ls) q

-- and ends
end_known : (ls : List ℕ) (from : ℕ) {t : ℕ} (s : ℕ) → t ≡ table_slot s → from + length_at ls t ≡ from + length_at ls (table_slot s)
end_known ls from s q = ap (λ k. from + length_at ls k) q

pub read_head-head-requires : goal.read_head-head-requires
read_head-head-requires c = (list_parts c.requires.fits).head

pub loop-k-init : goal.loop-k-init
loop-k-init c =
    running_first c.requires (bytes_of c.args.list.now (λ i. omega (arith, c.type_inv.list i)))
    c.read_head-head.ensures c.fresh_tally-tally.ensures c.no_rounds-none.ensures c.no_lead-idle.ensures

-- that a turn's event is one of the list's, and that all are done after the last, is found of the loop's test, wherever the loop ends
pub read_event-r-requires : goal.read_event-r-requires
read_event-r-requires c =
    λ q. (due c.loop-k.invariant (omega arith)).0 (ap event_size (sym (to_end c.loop-k.at _)) ∙ q)

pub overflow_add-at : goal.overflow_add-at
overflow_add-at c =
    omega (
      arith,
      at_next c.loop-k.invariant (omega arith),
      c.read_event-r.ensures.size_is,
      ap event_size (to_end c.loop-k.at c.args.list.now),
    )

pub overflow_add-to : goal.overflow_add-to
overflow_add-to c =
    let t = c.table_slot-t in
    let l = low c.read_event-r.result.slot.0 t.ensures in
    let w = lies_within (still_fit c.loop-k.invariant) l (c.starts_of-starts.ensures.each t.result l) in
    omega (arith, w.ends)

pub step_event-s-requires : goal.step_event-s-requires
step_event-s-requires c = event_before c.loop-k.invariant _ _ _ _ c.place-i.ensures c.record_of-m.ensures

pub settle_part-requires : goal.settle_part-requires
settle_part-requires c =
    let r = c.read_event-r.result in
    let s = c.step_event-s in
    let t = c.table_slot-t in
    settle_before c.loop-k.invariant r.slot r.event c.place-i.ensures _ _ c.record_of-m.ensures s.result s.ensures
    (start_known c.starts_of-starts.ensures r.slot.0 t.ensures) (end_known c.args.lengths.now _ r.slot.0 t.ensures)

pub loop-k-preserved : goal.loop-k-preserved
loop-k-preserved c =
    let l = c.loop-k in
    let r = c.read_event-r.result in
    let s = c.step_event-s in
    let t = c.table_slot-t in
    let w = c.settle_part in
    let i = c.place-i.result in
    running_next l.invariant r.slot r.event c.place-i.ensures _ _ c.record_of-m.ensures s.result s.ensures
    (start_known c.starts_of-starts.ensures r.slot.0 t.ensures) (end_known c.args.lengths.now _ r.slot.0 t.ensures)
    w.ensures (omega arith) (to_end l.at _) c.read_event-r.ensures w.auto.messages w.auto.nodes
    (elim c.match-settle_part.branch [
      | in-Ok b ↦
          let was : effect_of l.tally w.result ≡ accepted_event b.in-Ok.after = ap (effect_of l.tally) b.in-Ok.is in
          let number = ap (λ (v : EventEffect). v.number) was in
          let rounds = b.rounds-is ∙ ap (set l.rounds i) b.rounds_of.ensures in
          let leads = b.leads-is ∙ ap (set l.leads i) b.lead_of.ensures in
          record {
            answer_is = b.answered-is ∙ sym number;
            tally_is = b.tally-is ∙ sym (ap (λ (v : EventEffect). v.tally) was);
            held = inl (number, rounds, leads, b.accepted-is);
          }
      | in-Err b ↦
          let was : effect_of l.tally w.result ≡ refused_event l.tally (refusal_number b.in-Err.refusal) = ap (effect_of l.tally) b.in-Err.is in
          let number = ap (λ (v : EventEffect). v.number) was in
          record {
            answer_is = b.answered-is ∙ b.from.ensures ∙ sym number;
            tally_is = b.tally-is ∙ sym (ap (λ (v : EventEffect). v.tally) was);
            held = inr ((λ q. refusal_not_ok b.in-Err.refusal (sym number ∙ q)), b.rounds-is, b.leads-is, b.accepted-is);
          }
    ])

pub overflow_cast-result : goal.overflow_cast-result
overflow_cast-result c = omega (arith, (counts_small c.loop-k.invariant).sent)

pub overflow_cast-result-2 : goal.overflow_cast-result-2
overflow_cast-result-2 c = omega (arith, (counts_small c.loop-k.invariant).proposals)

pub overflow_cast-result-3 : goal.overflow_cast-result-3
overflow_cast-result-3 c = omega (arith, (counts_small c.loop-k.invariant).decisions)

pub returns : goal.returns
returns c = running_ended c.loop-k.invariant (omega arith)
