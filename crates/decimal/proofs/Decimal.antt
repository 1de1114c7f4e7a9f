-- Decimal digits: they spell the number, with no zero in front, and no more of them than it needs. Assumes nothing.
use mathlib.Core.Path.{◌≡◌, refl}
use mathlib.Core.List.{List, [], ◌∷◌, ◌++◌, append_assoc}
use Prim.Native.Nat.{ℕ, zero, suc, ◌+◌, ◌-◌, ◌*◌, ◌/◌, ◌%◌, ◌^◌, ◌≤◌, ◌<◌}
use native.Mathlib.Nat.{pow-suc}
use native.Mathlib.Omega.{arith}
use lib.ListN.{length, get_or, replicate, length-append, length-replicate, get_or-append}
use lib.Dec.{ltb}
use borrow.Author.Tests.{lt-ltb, le-ltb}
use Rattle.laws.specs.Tests.{tests, by_test}
use Rattle.laws.specs.Lists.{◌∈◌, every_snoc}
use Rattle.laws.specs.Widths.{BELOW_64_BITS}
use Rattle.decimal.specs.Digits.{BLANK, digit, digits_within, decimal, decimal_in, spelt_after, number_spelt}

-- any budget above the number gives the same digits
budget : (k j n : ℕ) → n < k → n < j → digits_within k n ≡ digits_within j n
unfolding digits_within
budget zero j n h g = absurd (omega arith)
budget (suc k) zero n h g = absurd (omega arith)
budget (suc k) (suc j) n h g =
    by_test (ltb n 10)
    (λ t. rw (t, digits_within) refl)
    (λ t. let big : 10 ≤ n = omega tests in rw (t, digits_within, budget k j (n / 10) (omega arith) (omega arith)) refl)

pub decimal_one : (n : ℕ) → n < 10 → decimal n ≡ digit n ∷ []
unfolding decimal digits_within
decimal_one n h = rw (lt-ltb n 10 h, digits_within) refl

pub decimal_more : (n : ℕ) → 10 ≤ n → decimal n ≡ decimal (n / 10) ++ digit (n % 10) ∷ []
unfolding decimal digits_within
decimal_more n h = rw (le-ltb n 10 h, digits_within, budget n (suc (n / 10)) (n / 10) (omega arith) (omega arith)) refl

last_digit : (a c : ℕ) (l : List ℕ) → spelt_after a (l ++ c ∷ []) ≡ spelt_after a l * 10 + (c - 48)
unfolding spelt_after
last_digit a c [] = refl
last_digit a c (b ∷ l) = last_digit (a * 10 + (b - 48)) c l

-- a property of all numbers, from those below 10 and by the last digit
by_digits : (P : ℕ → Type 0) → ((n : ℕ) → n < 10 → P n) → ((n : ℕ) → 10 ≤ n → P (n / 10) → P n) → (n : ℕ) → P n
by_digits P one more n = further (suc n) n (omega arith)
  where
    further : (k n : ℕ) → n < k → P n
    further zero n h = absurd (omega arith)
    further (suc k) n h =
        by_test (ltb n 10)
        (λ t. one n (omega tests))
        (λ t. let big : 10 ≤ n = omega tests in more n big (further k (n / 10) (omega arith)))

-- the digits of a number spell it
pub decimal_spells : (n : ℕ) → number_spelt (decimal n) ≡ n
unfolding number_spelt spelt_after
decimal_spells =
    by_digits (λ n. number_spelt (decimal n) ≡ n)
    (λ n h. rw (decimal_one n h) (omega arith))
    (λ n h p. rw (decimal_more n h, last_digit 0 (digit (n % 10)) (decimal (n / 10)), p) (omega arith))

-- each is a digit
pub decimal_digits : (n c : ℕ) → c ∈ decimal n → (48 ≤ c) × (c ≤ 57)
decimal_digits =
    by_digits (λ n. (c : ℕ) → c ∈ decimal n → (48 ≤ c) × (c ≤ 57))
    (λ n h. rw (decimal_one n h) (every_snoc (λ c. (48 ≤ c) × (c ≤ 57)) [] (digit n) (λ c m. elim m [ ]) (omega arith, omega arith)))
    (λ n h p. rw (decimal_more n h) (every_snoc (λ c. (48 ≤ c) × (c ≤ 57)) (decimal (n / 10)) (digit (n % 10)) p (omega arith, omega arith)))

-- there is one at least
pub decimal_some : (n : ℕ) → 0 < length (decimal n)
decimal_some =
    by_digits (λ n. 0 < length (decimal n))
    (λ n h. rw (decimal_one n h) (omega arith))
    (λ n h p. rw (decimal_more n h, length-append (decimal (n / 10)) (digit (n % 10) ∷ [])) (omega arith))

-- the first is no zero, but that of 0
pub no_zero_in_front : (n : ℕ) → 0 < n → digit 0 < get_or (decimal n) 0 0
no_zero_in_front =
    by_digits (λ n. 0 < n → digit 0 < get_or (decimal n) 0 0)
    (λ n h pos. rw (decimal_one n h) (omega arith))
    (λ n h p pos. rw (decimal_more n h, get_or-append (decimal (n / 10)) (digit (n % 10) ∷ []) 0 0 (decimal_some (n / 10))) (p (omega arith)))

-- a number below 10 ^ k has at most k digits
pub decimal_length : (k n : ℕ) → n < 10 ^ suc k → length (decimal n) ≤ suc k
decimal_length zero n h = rw (decimal_one n (omega (arith, pow-suc 10 0))) (omega arith)
decimal_length (suc k) n h =
    by_test (ltb n 10)
    (λ t. rw (decimal_one n (omega tests)) (omega arith))
    (λ t.
    let big : 10 ≤ n = omega tests in
    let p : length (decimal (n / 10)) ≤ suc k = decimal_length k (n / 10) (omega (arith, pow-suc 10 (suc k))) in
    rw (decimal_more n big, length-append (decimal (n / 10)) (digit (n % 10) ∷ [])) (omega arith))

-- a 64-bit number has at most 20
pub decimal_of_64_bits : (n : ℕ) → n < BELOW_64_BITS → length (decimal n) ≤ 20
decimal_of_64_bits n h = decimal_length 19 n (omega arith)

-- a byte has at most 3
pub decimal_of_8_bits : (n : ℕ) → n < 256 → length (decimal n) ≤ 3
decimal_of_8_bits n h = decimal_length 2 n (omega arith)

-- a column of no width is the number alone
pub column_none : (n : ℕ) → decimal_in 0 n ≡ decimal n
unfolding decimal_in
column_none n = let e : 0 - length (decimal n) ≡ 0 = omega arith in rw e refl

-- a column that is wide enough is as wide as it is said to be
pub column_width : (w n : ℕ) → length (decimal n) ≤ w → length (decimal_in w n) ≡ w
unfolding decimal_in
column_width w n h = rw (length-append (replicate (w - length (decimal n)) BLANK) (decimal n), length-replicate (w - length (decimal n)) BLANK) (omega arith)

-- a column by its last digit
pub column_one : (w n : ℕ) → n < 10 → decimal_in w n ≡ replicate (w - 1) BLANK ++ digit n ∷ []
unfolding decimal_in
column_one w n h = rw (decimal_one n h) refl

pub column_more : (w n : ℕ) → 10 ≤ n → decimal_in w n ≡ decimal_in (w - 1) (n / 10) ++ digit (n % 10) ∷ []
unfolding decimal_in
column_more w n h =
    let ds = decimal (n / 10) in
    let e : w - (length ds + 1) ≡ w - 1 - length ds = omega arith in
    rw (decimal_more n h, length-append ds (digit (n % 10) ∷ []), e, append_assoc (replicate (w - 1 - length ds) BLANK) ds (digit (n % 10) ∷ []))
