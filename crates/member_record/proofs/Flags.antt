-- Sizes of an office, and the flags of a record: cleared, with one more, and none from N on. Counts over the seven are counts over the
-- members where there is no flag from N on. Assumes nothing.
use mathlib.Core.Path.{◌≡◌, sym}
use mathlib.Core.Bool.{Bool, true, false, not, ◌&&◌, and-false}
use mathlib.Core.List.{List}
use mathlib.Core.Logic.{◌≢◌}
use Prim.Native.Nat.{ℕ, suc, ◌<◌, ◌≤◌}
use native.Mathlib.Omega.{arith}
use lib.ListN.{length, set, get_or-replicate}
use lib.Seq.{get_or-set_same, get_or-set_other}
use borrow.Author.Tests.{not-true, eqb-true, eq-eqb}
use lib.Dec.{ltb, leb, eqb}
use Rattle.laws.specs.Tests.{tests, by_test, or_cases, and_left, and_right, and_cases, same_test}
use Rattle.ids.specs.Ranges.{no_slot}
use Rattle.quorum.specs.Count.{count, some}
use Rattle.quorum.proofs.Counts.{count_none, count_more, count_beyond, beyond_none, some_none, none_some}
use Rattle.member_record.specs.declared.Who.{Who}
use Rattle.member_record.specs.Record.{allowed, sound_who, flag, flagged, flag_from, no_flags}

-- an office has 3 to 7 members
pub office_sizes : (n : ℕ) → allowed n ≡ true → (3 ≤ n) × (n ≤ 7)
office_sizes n h =
    or_cases (eqb n 3) _ h (λ e. (omega tests, omega tests))
    (λ h'. or_cases (eqb n 5) (eqb n 7) h' (λ e. (omega tests, omega tests)) (λ e. (omega tests, omega tests)))

-- what the test of slot, number and N says
pub who_sizes : (w : Who) → sound_who w.slot w.me w.n ≡ true → (w.me.0 < w.n) × (3 ≤ w.n) × (w.n ≤ 7) × (w.slot.0 ≤ 7)
who_sizes w h =
    let own = ltb w.me.0 w.n in
    let slot = not (no_slot w.slot.0) in
    let (low, high) = office_sizes w.n (and_left (allowed w.n) (own && slot) h) in
    let both : (own && slot) ≡ true = and_right (allowed w.n) (own && slot) h in
    let of-eight : no_slot w.slot.0 ≡ false = not-true (no_slot w.slot.0) (and_right own slot both) in
    (omega (tests, and_left own slot both), low, high, omega tests)

-- no flag from N on
pub none_from : (n : ℕ) (fs : List Bool) → not (some (flag_from n fs) 7) ≡ true → (s : ℕ) → n ≤ s → s < 7 → flag fs s ≡ false
none_from n fs h s a b =
    and_cases (leb n s) (flag fs s) (some_none (flag_from n fs) 7 s (not-true (some (flag_from n fs) 7) h) b) (λ e. absurd (omega tests)) (λ e. e)

-- as many flags below N as in all, exactly if there is none from N on
pub counts_agree : (n : ℕ) (fs : List Bool) → n ≤ 7 → eqb (count (flag fs) n) (count (flag fs) 7) ≡ not (some (flag_from n fs) 7)
counts_agree n fs l =
    same_test (eqb (count (flag fs) n) (count (flag fs) 7)) (not (some (flag_from n fs) 7))
    (λ e. let none : some (flag_from n fs) 7 ≡ false = none_some (flag_from n fs) 7 (agree (eqb-true (count (flag fs) n) (count (flag fs) 7) e)) in rw none)
    (λ h. eq-eqb (count (flag fs) n) (count (flag fs) 7) (sym (count_beyond (flag fs) n 7 l (λ s a b. none_from n fs h s a b))))
  where
    agree : count (flag fs) n ≡ count (flag fs) 7 → (s : ℕ) → s < 7 → flag_from n fs s ≡ false
    agree e s b =
        by_test (leb n s)
        (λ t. rw t (beyond_none (flag fs) n 7 s e (omega tests) b))
        (λ t. rw t)

pub cleared_count : flagged no_flags ≡ 0
unfolding flagged
cleared_count = count_none (flag no_flags) 7 (λ s l. get_or-replicate 7 s false false l)

pub cleared_from : (n : ℕ) → not (some (flag_from n no_flags) 7) ≡ true
cleared_from n =
    let e : some (flag_from n no_flags) 7 ≡ false = none_some (flag_from n no_flags) 7 (λ s l. rw (get_or-replicate 7 s false false l) (and-false (leb n s))) in
    rw e

-- the flags with that of s set
module _ (fs : List Bool) (s : ℕ) (seven : length fs ≡ 7) (low : s < 7) where
  pub set_count : flag fs s ≡ false → flagged (set fs s true) ≡ suc (flagged fs)
  unfolding flagged
  set_count h =
      count_more (flag fs) (flag (set fs s true)) s 7 low h (get_or-set_same fs s true false (omega arith)) (λ t d. get_or-set_other fs s t true false d)

  pub set_from : (n : ℕ) → s < n → not (some (flag_from n fs) 7) ≡ true → not (some (flag_from n (set fs s true)) 7) ≡ true
  set_from n l h =
      let e : some (flag_from n (set fs s true)) 7 ≡ false = none_some (flag_from n (set fs s true)) 7 above in
      rw e
    where
      above : (t : ℕ) → t < 7 → flag_from n (set fs s true) t ≡ false
      above t k =
          by_test (leb n t)
          (λ a.
          let d : t ≢ s = omega tests in
          rw (a, get_or-set_other fs s t true false d) (none_from n fs h t (omega tests) k))
          (λ a. rw a)
