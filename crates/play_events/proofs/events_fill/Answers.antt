-- `play_events::events_fill`: the events from byte 8 fill the list exactly if those still due fill what is left.
use Rattle.std.proofs.Common.{◌≡◌, refl, sym, ◌∙◌, Some, None, List, ℕ, ◌+◌, ◌-◌, ◌≤◌, length, take, drop, arith, length-drop, eqb}
use Rattle.std.proofs.Math.Seq.{drop-drop}
use Rattle.laws.specs.Tests.{tests, by_test}
use Rattle.laws.specs.Parts.{to_end}
use Rattle.play_events.specs.List.{event_size, exact}
use Rattle.play_events.specs.Told.{size_told}
use Rattle.play_events.proofs.Sizes.{size_within, exact_stop, exact_go, exact_end}
use Rattle.play_events.proofs.events_fill.Goals as goal

-- no event is told of where none stands
none_due : (m : ℕ) → None ≡ size_told m → m ≡ 0
none_due m e = by_test (eqb m 0) (λ t. omega tests) (λ t. let f : None ≡ Some m = rw t at e in cc)

-- the size told is that of the event due, which lies within what is left
record SizeRead (list : List ℕ) (at n : ℕ) : Type 0 where
  size : n ≡ event_size (drop at list)
  there : event_size (drop at list) ≡ 0 → ⊥
  within : at + n ≤ length list

was_read : (list : List ℕ) (at n : ℕ) → at ≤ length list → Some n ≡ size_told (event_size (take (length list - at) (drop at list))) → SizeRead list at n
was_read list at n h e =
    let f : Some n ≡ size_told (event_size (drop at list)) = rw (to_end at list) at e in
    by_test (eqb (event_size (drop at list)) 0)
    (λ t. let g : Some n ≡ None = rw t at f in absurd (cc))
    (λ t. let g : Some n ≡ Some (event_size (drop at list)) = rw t at f in
    let size : n ≡ event_size (drop at list) = cc in
    record { size = size; there = λ z. omega (tests, t, z); within = omega (arith, size_within (drop at list), length-drop at list) })

pub returns-in_default : goal.returns-in_default
returns-in_default c =
    let l = c.loop-k in
    let due : event_size (drop l.at c.args.list.now) ≡ 0 = rw (to_end l.at c.args.list.now) at (none_due _ c.in_default.ensures) in
    sym (l.invariant.1 ∙ exact_stop _ _ (omega arith) due)

pub overflow_add-at : goal.overflow_add-at
overflow_add-at c =
    let r = was_read c.args.list.now c.loop-k.at c.in-Some.size c.loop-k.invariant.0 c.in-Some.ensures in
    omega arith

pub loop-k-preserved : goal.loop-k-preserved
loop-k-preserved c =
    let l = c.loop-k in
    let count = c.args.count in
    let n = c.in-Some.size in
    let left = drop l.at c.args.list.now in
    let r = was_read c.args.list.now l.at n l.invariant.0 c.in-Some.ensures in
    let fewer : exact (count - l.k) left ≡ exact (count - l.k - 1) (drop (event_size left) left) = exact_go _ _ (omega arith) r.there in
    let k : count - l.k - 1 ≡ count - (l.k + 1) = omega arith in
    (r.within, l.invariant.1 ∙ fewer ∙ rw (← r.size, drop-drop n l.at c.args.list.now, k) refl)

pub returns : goal.returns
returns c =
    let l = c.loop-k in
    let e : c.args.count - l.k ≡ 0 = omega arith in
    sym (l.invariant.1 ∙ rw e (exact_end c.args.list.now l.at l.invariant.0))
