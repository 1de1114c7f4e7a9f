-- How many bytes an event takes, by its kind and by what is left, and what that says of a list filled exactly. Each law goes by the tests of
-- the size. Assumes nothing.
use mathlib.Core.Path.{◌≡◌, refl}
use mathlib.Core.Bool.{false}
use mathlib.Core.List.{List}
use Prim.Native.Nat.{ℕ, zero, suc, ◌-◌, ◌≤◌, ◌<◌}
use native.Mathlib.Omega.{arith}
use lib.ListN.{length, drop, drop_of_length-le}
use lib.Seq.{drop-cons}
use lib.Dec.{leb, eqb}
use borrow.Author.Tests.{le-leb, lt-leb, ne_eqb}
use Rattle.laws.specs.Tests.{tests, by_test}
use Rattle.play_events.specs.List.{EVENT_START, EVENT_DELIVER, START_BYTES, DELIVER_BYTES, event_kind, event_size, rest, exact}

module _ (s : List ℕ) where
  pub size_start : event_kind s ≡ EVENT_START → START_BYTES ≤ length s → event_size s ≡ START_BYTES
  unfolding event_size
  size_start k h = rw (k, le-leb START_BYTES (length s) h)

  pub size_deliver : event_kind s ≡ EVENT_DELIVER → DELIVER_BYTES ≤ length s → event_size s ≡ DELIVER_BYTES
  unfolding event_size
  size_deliver k h = rw (k, le-leb DELIVER_BYTES (length s) h)

  -- none stands there: a start without room, another kind, or no room for either
  pub size_short_start : event_kind s ≡ EVENT_START → length s < START_BYTES → event_size s ≡ 0
  unfolding event_size
  size_short_start k h = rw (k, lt-leb START_BYTES (length s) h)

  pub size_no_kind : (event_kind s ≡ EVENT_START → ⊥) → (event_kind s ≡ EVENT_DELIVER → ⊥) → event_size s ≡ 0
  unfolding event_size
  size_no_kind j k = rw (ne_eqb (event_kind s) EVENT_START j, ne_eqb (event_kind s) EVENT_DELIVER k)

  -- the three cases
  by_size {ℓ} : {C : Type ℓ} → (event_kind s ≡ EVENT_START → START_BYTES ≤ length s → event_size s ≡ START_BYTES → C) →
      (event_kind s ≡ EVENT_DELIVER → DELIVER_BYTES ≤ length s → event_size s ≡ DELIVER_BYTES → C) → (event_size s ≡ 0 → C) → C
  unfolding event_size
  by_size f g n =
      by_test (eqb (event_kind s) EVENT_START)
      (λ k. let e : event_kind s ≡ EVENT_START = omega tests in by_test (leb START_BYTES (length s))
      (λ h. f e (omega tests) (rw (k, h)))
      (λ h. n (rw (k, h, e))))
      (λ j. by_test (eqb (event_kind s) EVENT_DELIVER)
      (λ k. let e : event_kind s ≡ EVENT_DELIVER = omega tests in by_test (leb DELIVER_BYTES (length s))
      (λ h. g e (omega tests) (rw (j, k, h)))
      (λ h. n (rw (j, k, h))))
      (λ k. n (rw (j, k))))

  pub size_short : length s < DELIVER_BYTES → event_size s ≡ 0
  size_short h = by_size (λ k l e. absurd (omega arith)) (λ k l e. absurd (omega arith)) (λ e. e)

  -- an event lies within the bytes
  pub size_within : event_size s ≤ length s
  size_within = by_size (λ k l e. omega arith) (λ k l e. omega arith) (λ e. omega arith)

  -- where one stands there is room for its first four words, and for the offer of a start
  pub room : (event_size s ≡ 0 → ⊥) → DELIVER_BYTES ≤ length s
  room h = by_size (λ k l e. omega arith) (λ k l e. omega arith) (λ e. absurd (h e))

  pub start_room : (event_size s ≡ 0 → ⊥) → event_kind s ≡ EVENT_START → START_BYTES ≤ length s
  start_room h t = by_size (λ k l e. omega arith) (λ k l e. omega arith) (λ e. absurd (h e))

  pub size_else : (event_size s ≡ 0 → ⊥) → (event_kind s ≡ EVENT_START → ⊥) → event_size s ≡ DELIVER_BYTES
  size_else h j = by_size (λ k l e. absurd (j k)) (λ k l e. e) (λ e. absurd (h e))

-- no event where one is due
pub exact_stop : (n : ℕ) (s : List ℕ) → 0 < n → event_size s ≡ 0 → exact n s ≡ false
unfolding exact
exact_stop zero s h e = absurd (omega arith)
exact_stop (suc n) s h e = rw e refl

-- one event, and the rest
pub exact_go : (n : ℕ) (s : List ℕ) → 0 < n → (event_size s ≡ 0 → ⊥) → exact n s ≡ exact (n - 1) (rest s)
unfolding exact
exact_go zero s h e = absurd (omega arith)
exact_go (suc n) s h e = let m : suc n - 1 ≡ n = omega arith in rw (ne_eqb (event_size s) 0 e, m) refl

-- no event is due
pub exact_end : (s : List ℕ) (at : ℕ) → at ≤ length s → exact 0 (drop at s) ≡ eqb at (length s)
unfolding exact
exact_end s at h =
    by_test (eqb at (length s))
    (λ t. let past : length s ≤ at = omega tests in rw (t, drop_of_length-le s past) refl)
    (λ t. let more : at < length s = omega tests in rw (t, drop-cons s at 0 more) refl)
