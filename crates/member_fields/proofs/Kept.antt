-- The numbers that a call hands back stand for the record after it: a next call goes on from there. Assumes nothing.
use mathlib.Core.Path.{◌≡◌, ap}
use mathlib.Core.Bool.{Bool, true, false}
use mathlib.Core.List.{List, [], ◌∷◌}
use Prim.Native.Nat.{ℕ, ◌/◌, ◌%◌, ◌*◌, ◌+◌}
use native.Mathlib.Omega.{arith}
use lib.ListN.{length}
use borrow.Author.Tests.{eq-eqb, ne_eqb}
use Rattle.member_record.specs.declared.MemberState.{MemberState}
use Rattle.member_fields.specs.Fields.{bit, widened, flags_of, mask_of, state_of, fields_of}

lowest : (b : Bool) (m : ℕ) → bit (widened b m) ≡ b
lowest true m = eq-eqb ((2 * m + 1) % 2) 1 (omega arith)
lowest false m = ne_eqb ((2 * m) % 2) 1 (λ e. omega arith)

above : (b : Bool) (m : ℕ) → widened b m / 2 ≡ m
above true m = omega arith
above false m = omega arith

flags_kept : (fs : List Bool) → length fs ≡ 7 → flags_of (mask_of fs) ≡ fs
unfolding mask_of
flags_kept [] e = absurd (omega arith)
flags_kept (a ∷ []) e = absurd (omega arith)
flags_kept (a ∷ b ∷ []) e = absurd (omega arith)
flags_kept (a ∷ b ∷ c ∷ []) e = absurd (omega arith)
flags_kept (a ∷ b ∷ c ∷ d ∷ []) e = absurd (omega arith)
flags_kept (a ∷ b ∷ c ∷ d ∷ f ∷ []) e = absurd (omega arith)
flags_kept (a ∷ b ∷ c ∷ d ∷ f ∷ g ∷ []) e = absurd (omega arith)
flags_kept (a ∷ b ∷ c ∷ d ∷ f ∷ g ∷ h ∷ []) e =
    let m6 = widened h 0 in
    let m5 = widened g m6 in
    let m4 = widened f m5 in
    let m3 = widened d m4 in
    let m2 = widened c m3 in
    let m1 = widened b m2 in
    rw (
      above a m1,
      above b m2,
      above c m3,
      above d m4,
      above f m5,
      above g m6,
      lowest a m1,
      lowest b m2,
      lowest c m3,
      lowest d m4,
      lowest f m5,
      lowest g m6,
      lowest h 0,
    )
flags_kept (a ∷ b ∷ c ∷ d ∷ f ∷ g ∷ h ∷ i ∷ l) e = absurd (omega arith)

pub state_kept : (m : MemberState) → length m.lead.flags ≡ 7 → state_of (fields_of m) ≡ m
unfolding state_of fields_of
state_kept m e = ap (λ (fs : List Bool). record {
  who = m.who;
  durable = m.durable;
  lead =
      record { phase = m.lead.phase; value = m.lead.value; source = m.lead.source; flags = fs };
}) (flags_kept m.lead.flags e)
