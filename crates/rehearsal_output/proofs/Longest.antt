-- Nor do fewer bytes tell it: the front of 24,008 bytes of the longest list with a byte behind it is taken, and all of it is refused. Assumes nothing.
use mathlib.Core.Path.{◌≡◌, refl}
use mathlib.Core.Bool.{true}
use mathlib.Core.List.{List, [], ◌∷◌, ◌++◌}
use Prim.Native.Nat.{ℕ, zero, suc, ◌*◌}
use native.Mathlib.Omega.{arith}
use lib.ListN.{length, take, length-append}
use lib.Seq.{take_at}
use borrow.Author.Tests.{le-leb}
use Rattle.laws.specs.Tests.{and_intro}
use Rattle.numbers.specs.Numbers.{OK, LIST_SHAPE}
use Rattle.xdr.specs.Words.{word_at}
use Rattle.play_events.specs.List.{HEAD_BYTES, START_BYTES, MOST_EVENTS, LONGEST_LIST, event_size, exact, list_fits}
use Rattle.play_events.proofs.Sizes.{size_start}
use Rattle.rehearsal_output.specs.Output.{rehearsal_number}
use Rattle.rehearsal_output.proofs.Enough.{too_long}

-- a start before l
abbrev pub start_before : List ℕ → List ℕ
start_before l = 0 ∷ 0 ∷ 0 ∷ 1 ∷ 0 ∷ 0 ∷ 0 ∷ 0 ∷ 0 ∷ 0 ∷ 0 ∷ 0 ∷ 0 ∷ 0 ∷ 0 ∷ 0 ∷ 0 ∷ 0 ∷ 0 ∷ 0 ∷ 0 ∷ 0 ∷ 0 ∷ 0 ∷ l

unfoldable pub so_many_starts : ℕ → List ℕ
so_many_starts zero = []
so_many_starts (suc k) = start_before (so_many_starts k)

-- N = 3, 1,000 events
abbrev pub head_before : List ℕ → List ℕ
head_before l = 0 ∷ 0 ∷ 0 ∷ 3 ∷ 0 ∷ 0 ∷ 3 ∷ 232 ∷ l

abbrev pub thousand_starts : List ℕ
thousand_starts = head_before (so_many_starts MOST_EVENTS)

length_starts : (k : ℕ) → length (so_many_starts k) ≡ START_BYTES * k
unfolding so_many_starts
length_starts zero = refl
length_starts (suc k) = omega (arith, length_starts k)

starts_exact : (k : ℕ) → exact k (so_many_starts k) ≡ true
unfolding so_many_starts exact word_at
starts_exact zero = refl
starts_exact (suc k) =
    let size : event_size (start_before (so_many_starts k)) ≡ START_BYTES = size_start (start_before (so_many_starts k)) refl (omega arith) in
    rw size (starts_exact k)

thousand_fit : list_fits thousand_starts ≡ true
unfolding list_fits word_at
thousand_fit = and_intro (le-leb HEAD_BYTES (length thousand_starts) (omega arith)) (starts_exact MOST_EVENTS)

thousand_long : length thousand_starts ≡ LONGEST_LIST
thousand_long = omega (arith, length_starts MOST_EVENTS)

pub fewer_not_enough : (b : ℕ) →
    (rehearsal_number (take LONGEST_LIST (thousand_starts ++ b ∷ [])) ≡ OK) × (rehearsal_number (thousand_starts ++ b ∷ []) ≡ LIST_SHAPE)
unfolding rehearsal_number word_at
fewer_not_enough b =
    let front : take LONGEST_LIST (thousand_starts ++ b ∷ []) ≡ thousand_starts = take_at thousand_starts (b ∷ []) LONGEST_LIST thousand_long in (
      rw (front, thousand_fit) refl,
      rw (too_long (thousand_starts ++ b ∷ []) (omega (arith, thousand_long, length-append thousand_starts (b ∷ [])))) refl,
    )
