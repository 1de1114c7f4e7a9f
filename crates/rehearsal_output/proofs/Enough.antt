-- How much of an input tells what is printed for it: a list that fits has at most 24,008 bytes, and of a longer input as many and one more give the
-- same number as all of it. Assumes nothing.
use mathlib.Core.Path.{◌≡◌, refl}
use mathlib.Core.Bool.{true, false, not}
use mathlib.Core.List.{List, [], ◌∷◌}
use Prim.Native.Nat.{ℕ, zero, suc, ◌*◌, ◌≤◌, ◌<◌}
use native.Mathlib.Omega.{arith}
use lib.ListN.{length, take, length-drop}
use lib.Seq.{take_all, length-take-le}
use lib.Dec.{ltb, eqb}
use Rattle.laws.specs.Tests.{tests, by_test, clash, and_right}
use Rattle.play_events.specs.List.{EVENT_START, EVENT_DELIVER, START_BYTES, DELIVER_BYTES, HEAD_BYTES, begins_with}
use Rattle.play_events.specs.List.{LONGEST_LIST, body, count_of, event_size, rest, exact, list_fits}
use Rattle.play_run.proofs.Running.{list_parts}
use Rattle.rehearsal_output.specs.Output.{ENOUGH, rehearsal_number, rehearsal_output}

size_most : (s : List ℕ) → event_size s ≤ START_BYTES
unfolding event_size
size_most s =
    by_test (begins_with EVENT_START START_BYTES s)
    (λ t. rw t (omega arith))
    (λ t. by_test (begins_with EVENT_DELIVER DELIVER_BYTES s) (λ d. rw (t, d) (omega arith)) (λ d. rw (t, d) (omega arith)))

exact_most : (k : ℕ) (s : List ℕ) → exact k s ≡ true → length s ≤ START_BYTES * k
unfolding exact
exact_most zero [] h = omega arith
exact_most zero (b ∷ s) h = clash h refl
exact_most (suc k) s h =
    let further = exact_most k (rest s) (and_right (not (eqb (event_size s) 0)) (exact k (rest s)) h) in
    omega (arith, further, length-drop (event_size s) s, size_most s)

pub list_longest : (list : List ℕ) → list_fits list ≡ true → length list ≤ LONGEST_LIST
list_longest list h =
    let P = list_parts {list = list} h in
    omega (arith, exact_most (count_of list) (body list) P.filled, length-drop HEAD_BYTES list, P.few)

pub too_long : (list : List ℕ) → LONGEST_LIST < length list → list_fits list ≡ false
too_long list h = by_test (list_fits list) (λ t. absurd (omega (arith, list_longest list t))) (λ t. t)

-- what is printed for an input is what is printed for as much of its front
pub enough_read : (k : ℕ) (input : List ℕ) → ENOUGH ≤ k → rehearsal_output (take k input) ≡ rehearsal_output input
unfolding rehearsal_output rehearsal_number
enough_read k input h =
    by_test (ltb k (length input))
    (λ t.
    let long : length (take k input) ≡ k = length-take-le k input (omega tests) in
    rw (too_long (take k input) (omega arith), too_long input (omega tests)) refl)
    (λ t. let all : take k input ≡ input = take_all k input (omega tests) in rw all refl)
