-- START by J and V, and START repeated: what is accepted once comes to the same record and the same JOIN again, however often. Assumes nothing.
use mathlib.Core.Path.{◌≡◌, refl, sym, ap, ◌∙◌}
use mathlib.Core.Bool.{true, false}
use mathlib.Core.List.{List}
use native.Mathlib.Omega.{arith}
use lib.Dec.{eqb}
use borrow.Author.Tests.{not-false}
use Rattle.laws.specs.Tests.{tests, by_test}
use Rattle.laws.specs.First.{Cause, first, passed}
use Rattle.ids.specs.declared.Round.{Round}
use Rattle.ids.specs.declared.Member.{Member}
use Rattle.numbers.specs.Numbers.{OK, MOVED_PAST}
use Rattle.message.specs.declared.Body.TheVariants.{Start}
use Rattle.message.specs.Fields.{in_range}
use Rattle.member_record.specs.declared.MemberState.{MemberState}
use Rattle.member_record.specs.Record.{leads, round_number, sound}
use Rattle.member_record.proofs.Sound.{parts, vote_parts}
use Rattle.member_rules.specs.Causes.{START_late, START_causes}
use Rattle.member_rules.specs.Changes.{joining, join_of}
use Rattle.member_rules.proofs.Late.{in_time, late_above, late_voted}
use Rattle.member.specs.Table.{Outcome, sends, refused, unless, START_row, delivers, step_causes, step_row, unfit, sound_step, member_step}
use Rattle.member.specs.Repeated.{started, StartByCases, StartRepeats}
use Rattle.member.proofs.Keeping.{head_range, vote_under, joining_sound, step_of_sound}

module _ (m : MemberState) (r : Round) (s : Member) (is_sound : sound m ≡ true) (fits : in_range (Start r s) ≡ true) (leader : leads m.who.n s r ≡ true)
  where
    early_step : START_late m r ≡ false → started m r s ≡ START_row m r
    unfolding sound_step step_causes step_row
    early_step h = step_of_sound m (delivers (Start r s)) is_sound fits ∙ rw (leader, h) refl

    late_step : START_late m r ≡ true → started m r s ≡ refused MOVED_PAST m
    unfolding sound_step step_causes step_row
    late_step h = step_of_sound m (delivers (Start r s)) is_sound fits ∙ rw (leader, h) refl

pub start_cases : (m : MemberState) (r : Round) (s : Member) → StartByCases m r s
start_cases m r s is_sound fits leader =
    let early = early_step m r s is_sound fits leader in
    let late = late_step m r s is_sound fits leader in
    let ordered = (vote_parts m.durable (parts m is_sound).lasting).ordered in
    record {
      joins = λ j. early (in_time m r (omega arith) (omega (tests, ordered)));
      again = λ j v.
          let same : r ≡ m.durable.joined = ap round_number (sym j) in
          early (in_time m r (omega arith) v) ∙ ap (λ q. sends (joining m q) (join_of m.who.me m.durable r)) same;
      voted = λ j v. late (late_voted m r j v);
      past = λ j. late (late_above m r j);
    }

-- what isn't refused has no cause that holds, and its number is that of the step
unless_ok : (cs : List Cause) (m : MemberState) (o : Outcome) → (unless cs m o).number ≡ OK → (first cs ≡ OK) × (o.number ≡ OK)
unless_ok cs m o h = by_test (eqb (first cs) OK) (λ t. (omega tests, rw t at h)) (λ t. absurd (omega (tests, rw t at h)))

-- an accepted START is delivered to a sound record, within its ranges, and no cause of the member table holds
accepted_start : (m : MemberState) (r : Round) (s : Member) → (started m r s).number ≡ OK →
    (sound m ≡ true) × (in_range (Start r s) ≡ true) × (first (START_causes m r s) ≡ OK)
unfolding member_step sound_step step_causes
accepted_start m r s h =
    let e = delivers (Start r s) in
    let (fit, ok) = unless_ok (unfit m e) m (sound_step m e) h in
    let (a, (b, end)) = passed (unfit m e) refl fit in
    (not-false (sound m) a, not-false (in_range (Start r s)) b, (unless_ok (START_causes m r s) m (START_row m r) ok).0)

pub repeated : (m : MemberState) (r : Round) (s : Member) → StartRepeats m r s
repeated m r s h =
    let (is_sound, fits, none) = accepted_start m r s h in
    let (unled, (early, end)) = passed (START_causes m r s) refl none in
    let leader = not-false (leads m.who.n s r) unled in
    let S = parts m is_sound in
    let once : started m r s ≡ START_row m r = early_step m r s is_sound fits leader early in
    let after = joining_sound m r S (head_range r s fits) early in
    let twice : started (joining m r) r s ≡ START_row m r =
    early_step (joining m r) r s after fits leader (in_time (joining m r) r (omega arith) (vote_under m r S early)) in
    ap (λ u. started u.state r s) once ∙ twice ∙ sym once
