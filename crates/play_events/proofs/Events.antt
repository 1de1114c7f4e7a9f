-- The events of a list one by one: event k stands behind the k events before it, and in a list that events fill exactly each one due stands
-- there. Each law goes by the number of events passed. Assumes nothing.
use mathlib.Core.Path.{◌≡◌, refl}
use mathlib.Core.Bool.{true, not}
use mathlib.Core.List.Memᴰ
use mathlib.Core.List.Memᴰ.{head as here}
use mathlib.Core.List.Memᴰ.{tail as there}
use mathlib.Core.List.{List, [], ◌∷◌, ◌++◌}
use Prim.Native.Nat.{ℕ, zero, suc, ◌+◌, ◌≤◌, ◌<◌}
use native.Mathlib.Omega.{arith}
use lib.ListN.{length, take, drop, take-append-drop}
use lib.Dec.{eqb}
use Rattle.laws.specs.Tests.{by_test, clash, and_right}
use Rattle.xdr.specs.Words.{AllBytes}
use Rattle.xdr.proofs.Laws.{hyper_at_small}
use Rattle.model.specs.Sound.{SmallOffer, SmallOffers}
use Rattle.play_events.specs.List.{event_kind, event_size, event_at, rest, behind, events_in, exact, EVENT_START}
use Rattle.play_events.proofs.Sizes.{size_within, exact_stop}

pub behind_suc : (k : ℕ) (s : List ℕ) → behind (suc k) s ≡ rest (behind k s)
unfolding behind
behind_suc zero s = refl
behind_suc (suc k) s = behind_suc k (rest s)

pub events_suc : (k : ℕ) (s : List ℕ) → events_in (suc k) s ≡ events_in k s ++ event_at (behind k s) ∷ []
unfolding events_in behind
events_suc zero s = refl
events_suc (suc k) s = rw (events_suc k (rest s)) refl

pub length_events : (k : ℕ) (s : List ℕ) → length (events_in k s) ≡ k
unfolding events_in
length_events zero s = refl
length_events (suc k) s = rw (length_events k (rest s)) refl

-- the events due behind the first k fill what is left
pub exact_behind : (k d : ℕ) (s : List ℕ) → exact (k + d) s ≡ true → exact d (behind k s) ≡ true
unfolding exact behind
exact_behind zero d s h = let e : 0 + d ≡ d = omega arith in rw e at h
exact_behind (suc k) d s h =
    let e : suc k + d ≡ suc (k + d) = omega arith in
    let g : exact (suc (k + d)) s ≡ true = rw e at h in
    exact_behind k d (rest s) (and_right (not (eqb (event_size s) 0)) (exact (k + d) (rest s)) g)

-- where an event is due one stands, and lies within what is left
pub due_stands : (k d : ℕ) (s : List ℕ) → exact (k + d) s ≡ true → 0 < d → (event_size (behind k s) ≡ 0 → ⊥) × (event_size (behind k s) ≤ length (behind k s))
due_stands k d s h p =
    (λ e. clash (exact_behind k d s h) (exact_stop d (behind k s) p e), size_within (behind k s))

-- what is left of bytes is bytes
pub bytes_left : (n : ℕ) (s : List ℕ) → AllBytes s → AllBytes (drop n s)
bytes_left n s k b m = k b (rw (take-append-drop n s) at (Memᴰ.append_right (take n s) m))

event_offer : (s : List ℕ) → AllBytes s → SmallOffer (event_at s).event
unfolding event_at
event_offer s k = by_test (eqb (event_kind s) EVENT_START) (λ t. rw t (hyper_at_small _ s k)) (λ t. rw t tt)

pub offers_small : (k : ℕ) (s : List ℕ) → AllBytes s → SmallOffers (events_in k s)
unfolding events_in
offers_small zero s b e m = elim m [ ]
offers_small (suc k) s b e (here p) = rw p (event_offer s b)
offers_small (suc k) s b e (there m) = offers_small k (rest s) (bytes_left (event_size s) s b) e m
