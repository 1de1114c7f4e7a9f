-- The bits of a mask, one by one. Assumes nothing.
use Rattle.std.proofs.Common.{◌≡◌, cond, true, ◌+◌, ◌*◌, ℕ, zero, suc, ◌<◌, ◌/◌, ◌^◌, List, Bool, false, length, get_or, ap, sym, ◌∙◌, arith}
use Rattle.std.proofs.lemmas.List.{ext_get_or}
use Rattle.member_record.specs.Record.{flag}
use Rattle.member_fields.specs.Fields.{bit, flags_of, widened, mask_of}

bit_at : (m k : ℕ) → k < 7 → get_or (flags_of m) k false ≡ bit (m / 2 ^ k)
bit_at m zero l = ap bit (omega arith)
bit_at m (suc zero) l = ap bit (omega arith)
bit_at m (suc (suc zero)) l = ap bit (omega arith)
bit_at m (suc (suc (suc zero))) l = ap bit (omega arith)
bit_at m (suc (suc (suc (suc zero)))) l = ap bit (omega arith)
bit_at m (suc (suc (suc (suc (suc zero))))) l = ap bit (omega arith)
bit_at m (suc (suc (suc (suc (suc (suc zero)))))) l = ap bit (omega arith)
bit_at m (suc (suc (suc (suc (suc (suc (suc k))))))) l = absurd (omega arith)

pub seven_bits : (m : ℕ) (fs : List Bool) → length fs ≡ 7 → ((k : ℕ) → k < 7 → get_or fs k false ≡ bit (m / 2 ^ k)) → fs ≡ flags_of m
seven_bits m fs seven each = ext_get_or false fs (flags_of m) seven (λ k l. let low : k < 7 = omega arith in each k low ∙ sym (bit_at m k low))

-- the number of the flags below n
abbrev pub below : List Bool → ℕ → ℕ
below fs zero = 0
below fs (suc n) = below fs n + cond (flag fs n) (2 ^ n) 0

widens : (b : Bool) (m : ℕ) → widened b m ≡ 2 * m + cond b 1 0
widens true m = omega arith
widens false m = omega arith

counts : (b : Bool) (k : ℕ) → cond b k 0 ≡ k * cond b 1 0
counts true k = omega arith
counts false k = omega arith

pub all_below : (fs : List Bool) → below fs 7 ≡ mask_of fs
unfolding mask_of
all_below fs =
    let m6 = widened (flag fs 6) 0 in
    let m5 = widened (flag fs 5) m6 in
    let m4 = widened (flag fs 4) m5 in
    let m3 = widened (flag fs 3) m4 in
    let m2 = widened (flag fs 2) m3 in
    let m1 = widened (flag fs 1) m2 in
    omega (
      arith,
      widens (flag fs 0) m1,
      widens (flag fs 1) m2,
      widens (flag fs 2) m3,
      widens (flag fs 3) m4,
      widens (flag fs 4) m5,
      widens (flag fs 5) m6,
      widens (flag fs 6) 0,
      counts (flag fs 1) 2,
      counts (flag fs 2) 4,
      counts (flag fs 3) 8,
      counts (flag fs 4) 16,
      counts (flag fs 5) 32,
      counts (flag fs 6) 64,
    )
