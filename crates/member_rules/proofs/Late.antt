-- When START r is late, by J and V. Assumes nothing.
use mathlib.Core.Path.{◌≡◌, refl, sym, ◌∙◌}
use mathlib.Core.Bool.{Bool, true, false, ◌&&◌}
use Prim.Native.Nat.{◌<◌, ◌≤◌}
use native.Mathlib.Omega.{arith}
use lib.Dec.{ltb, eqb}
use borrow.Author.Tests.{lt-ltb, le-ltb, eq-eqb, ne_eqb}
use Rattle.laws.specs.Tests.{tests, by_test, or_left}
use Rattle.ids.specs.declared.Round.{Round}
use Rattle.member_record.specs.declared.MemberState.{MemberState}
use Rattle.member_rules.specs.Causes.{voted_in, START_late}

module _ (m : MemberState) (r : Round) where
  abbrev above : Bool
  above = ltb r.0 m.durable.joined.0

  -- at J = r it goes by V, else by J
  pub late_at : m.durable.joined.0 ≡ r.0 → START_late m r ≡ voted_in m r
  late_at j =
      let a : above ≡ false = omega tests in
      rw (a, eq-eqb m.durable.joined.0 r.0 j) refl

  pub late_else : (m.durable.joined.0 ≡ r.0 → ⊥) → START_late m r ≡ above
  late_else j = rw (ne_eqb m.durable.joined.0 r.0 j) (by_test above (λ t. rw t refl) (λ t. rw t refl))

  -- 22 for J > r, and for J = r with V = r
  pub late_above : r.0 < m.durable.joined.0 → START_late m r ≡ true
  late_above h = late_else (λ e. omega arith) ∙ lt-ltb r.0 m.durable.joined.0 h

  pub late_voted : m.durable.joined.0 ≡ r.0 → m.durable.voted.0 ≡ r.0 → START_late m r ≡ true
  late_voted j v =
      let given : voted_in m r ≡ true = omega tests in
      late_at j ∙ given

  -- and, where V ≤ J, for nothing else
  pub in_time : m.durable.joined.0 ≤ r.0 → m.durable.voted.0 < r.0 → START_late m r ≡ false
  in_time j v =
      let free : voted_in m r ≡ false = omega tests in
      by_test (eqb m.durable.joined.0 r.0)
      (λ t. late_at (omega tests) ∙ free)
      (λ t. late_else (λ e. omega tests) ∙ le-ltb r.0 m.durable.joined.0 j)

  -- what START that isn't late says of J and, in a sound record, of V
  pub joined_within : START_late m r ≡ false → m.durable.joined.0 ≤ r.0
  joined_within h =
      let low : above ≡ false = or_left above (eqb m.durable.joined.0 r.0 && voted_in m r) h in
      omega tests

  pub vote_below : START_late m r ≡ false → m.durable.voted.0 ≤ m.durable.joined.0 → m.durable.voted.0 < r.0
  vote_below h low =
      let within = joined_within h in
      by_test (eqb m.durable.joined.0 r.0)
      (λ e. let free : voted_in m r ≡ false = sym (late_at (omega tests)) ∙ h in omega tests)
      (λ e. omega tests)
