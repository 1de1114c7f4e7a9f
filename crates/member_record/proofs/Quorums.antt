-- What is known of the quorum of an allowed office, and of the flags that a phase needs: at least one, the same for members of one office,
-- and a decision keeps those of its votes. Assumes nothing.
use mathlib.Core.Path.{◌≡◌, refl, ap}
use mathlib.Core.Bool.{true, not, ◌&&◌}
use Prim.Native.Nat.{ℕ, ◌<◌}
use native.Mathlib.Omega.{arith}
use borrow.Author.Tests.{eqb-true}
use lib.Dec.{ltb, eqb}
use Rattle.laws.specs.Tests.{tests, or_cases, and_left}
use Rattle.ids.specs.Ranges.{no_slot}
use Rattle.quorum.specs.Quorum.{quorum, Majority}
use Rattle.quorum.proofs.Cases.{quorum_cases}
use Rattle.member_record.specs.declared.Who.{Who}
use Rattle.member_record.specs.Phases.{PROPOSED, DECIDED, needed}
use Rattle.member_record.specs.Record.{allowed, sound_who, flagged, no_flags}
use Rattle.member_record.proofs.Flags.{cleared_count}

-- f+1 of 2f+1, whichever the size
pub allowed_majority {ℓ} : {C : Type ℓ} (n : ℕ) → allowed n ≡ true → ((f : ℕ) → Majority (quorum n) n f → C) → C
allowed_majority n h g =
    let (three, five, seven) = quorum_cases in
    or_cases (eqb n 3) _ h (λ e. g 1 (rw (eqb-true n 3 e) three))
    (λ h'. or_cases (eqb n 5) (eqb n 7) h' (λ e. g 2 (rw (eqb-true n 5 e) five)) (λ e. g 3 (rw (eqb-true n 7 e) seven)))

pub needed_some : (w : Who) (phase : ℕ) → allowed w.n ≡ true → 0 < needed w phase
unfolding needed
needed_some w phase h = allowed_majority w.n h (λ f m. omega (arith, m.asked))

pub needed_alike : (w v : Who) (phase : ℕ) → w.n ≡ v.n → needed w phase ≡ needed v phase
unfolding needed
needed_alike w v phase e = ap quorum e

pub needed_decided : (w : Who) → needed w DECIDED ≡ needed w PROPOSED
unfolding needed
needed_decided w = refl

-- no flag is short of any phase's count
pub cleared_short : (w : Who) (phase : ℕ) → sound_who w.slot w.me w.n ≡ true → ltb (flagged no_flags) (needed w phase) ≡ true
cleared_short w phase h = rw cleared_count (omega (tests, needed_some w phase (and_left (allowed w.n) (ltb w.me.0 w.n && not (no_slot w.slot.0)) h)))
