-- Laws of XDR numbers, over the number n of bytes: a number below 256 ^ n is read back from its n bytes, and n bytes are those of the
-- number that they spell. Both go by the last byte, which is the remainder by 256. Assumes nothing.
use mathlib.Core.Path.{◌≡◌, refl, sym, ap, ◌∙◌}
use mathlib.Core.List.Memᴰ
use mathlib.Core.List.Memᴰ.{head as here}
use mathlib.Core.List.Memᴰ.{tail as there}
use mathlib.Core.List.{List, [], ◌∷◌, ◌++◌, append_assoc}
use mathlib.Core.Logic.{⊎_elim}
use Prim.Native.Nat.{ℕ, zero, suc, ◌+◌, ◌-◌, ◌*◌, ◌/◌, ◌%◌, ◌^◌, ◌≤◌, ◌<◌}
use native.Mathlib.Nat.{min-le_left, pow-le-pow_right, pow-suc, pow-succ', add-mul, mul_assoc, mul-le-mul_right, zero-add}
use native.Mathlib.Omega.{arith}
use Rattle.std.specs.Int.{w32, to_be_bytes}
use lib.ListN.{length, take, drop, get_or, length-append, length-take, length-drop, take-append-drop}
use lib.Seq.{take-suc, take_all, take_at, drop_at, length-take-le, take-append-le, drop-append-le, drop-drop, drop-cons, take-add}
use Rattle.laws.specs.Lists.{◌∈◌, in_last, every_snoc}
use Rattle.laws.specs.Parts.{written_on}
use Rattle.laws.specs.Widths.{BELOW_64_BITS}
use Rattle.xdr.specs.Words.{AllBytes, big_endian, value_after, value, word, hyper, word_at, hyper_at}

value_snoc : (a b : ℕ) (l : List ℕ) → value_after a (l ++ b ∷ []) ≡ value_after a l * 256 + b
unfolding value_after
value_snoc a b [] = refl
value_snoc a b (c ∷ l) = value_snoc (a * 256 + c) b l

pub length_big_endian : (n x : ℕ) → length (big_endian n x) ≡ n
unfolding big_endian
length_big_endian zero x = refl
length_big_endian (suc n) x = rw (length-append (big_endian n (x / 256)) (x % 256 ∷ []), length_big_endian n (x / 256)) (omega arith)

pub bytes_big_endian : (n x : ℕ) → AllBytes (big_endian n x)
unfolding big_endian
bytes_big_endian zero x b m = elim m [ ]
bytes_big_endian (suc n) x b m = every_snoc (λ (c : ℕ). c < 256) (big_endian n (x / 256)) (x % 256) (bytes_big_endian n (x / 256)) (omega arith) b m

-- what was written is read
pub spelt : (n x : ℕ) → x < 256 ^ n → value (big_endian n x) ≡ x
unfolding big_endian value value_after
spelt zero x h = omega arith
spelt (suc n) x h =
    let q : x / 256 < 256 ^ n = omega (arith, pow-suc 256 n) in
    let e : value_after 0 (big_endian n (x / 256)) ≡ x / 256 = spelt n (x / 256) q in
    rw (value_snoc 0 (x % 256) (big_endian n (x / 256)), e) (omega arith)

-- what is read was written
pub respelt : (n : ℕ) (l : List ℕ) → length l ≡ n → AllBytes l → big_endian n (value l) ≡ l
unfolding big_endian value value_after
respelt zero [] h k = refl
respelt zero (b ∷ l) h k = absurd (omega arith)
respelt (suc n) l h k =
    let cut : take n l ++ get_or l n 0 ∷ [] ≡ l = sym (take-suc l n 0 (omega arith)) ∙ take_all (suc n) l (omega arith) in
    let last : get_or l n 0 < 256 = k (get_or l n 0) (rw cut at (in_last (take n l) (get_or l n 0))) in
    let init : big_endian n (value (take n l)) ≡ take n l =
    respelt n (take n l) (length-take-le n l (omega arith)) (λ b m. k b (rw cut at (Memᴰ.append_left (get_or l n 0 ∷ []) m))) in
    rw cut at (snoc n (take n l) (get_or l n 0) last init)
  where
    snoc : (n : ℕ) (l : List ℕ) (b : ℕ) → b < 256 → big_endian n (value l) ≡ l → big_endian (suc n) (value (l ++ b ∷ [])) ≡ l ++ b ∷ []
    snoc n l b h e =
        let d : (value_after 0 l * 256 + b) / 256 ≡ value_after 0 l = omega arith in
        let m : (value_after 0 l * 256 + b) % 256 ≡ b = omega arith in
        rw (value_snoc 0 b l, d, m, e)

-- bytes in front count for as much more
value_shift : (a : ℕ) (l : List ℕ) → value_after a l ≡ a * 256 ^ length l + value l
unfolding value value_after
value_shift a [] = omega arith
value_shift a (b ∷ l) =
    let p = 256 ^ length l in
    let long : value_after (a * 256 + b) l ≡ (a * 256 + b) * p + value_after 0 l = value_shift (a * 256 + b) l in
    let short : value_after (0 + b) l ≡ (0 + b) * p + value_after 0 l = value_shift (0 + b) l in
    rw (long, short, pow-succ' 256 (length l), add-mul (a * 256) b p, mul_assoc a 256 p, zero-add b) (omega arith)

value_append : (l k : List ℕ) → value (l ++ k) ≡ value l * 256 ^ length k + value k
unfolding value value_after
value_append l k = further 0 l k ∙ value_shift (value_after 0 l) k
  where
    further : (a : ℕ) (l k : List ℕ) → value_after a (l ++ k) ≡ value_after (value_after a l) k
    further a [] k = refl
    further a (b ∷ l) k = further (a * 256 + b) l k

-- bytes spell a number that fits their width
value_small : (l : List ℕ) → AllBytes l → value l < 256 ^ length l
unfolding value value_after
value_small [] k = omega arith
value_small (b ∷ l) k =
    let p = 256 ^ length l in
    let byte : b ≤ 255 = omega (arith, k b (here refl)) in
    let low : value_after 0 l < p = value_small l (λ c m. k c (there m)) in
    let e : value_after (0 + b) l ≡ (0 + b) * p + value_after 0 l = value_shift (0 + b) l in
    rw (e, zero-add b, pow-succ' 256 (length l)) (omega (arith, mul-le-mul_right p byte))

-- a number stands where it was put
found : (n x at : ℕ) (front rest : List ℕ) → x < 256 ^ n → length front ≡ at → value (take n (drop at (front ++ (big_endian n x ++ rest)))) ≡ x
found n x at front rest small h =
    rw (drop_at front (big_endian n x ++ rest) at h, take_at (big_endian n x) rest n (length_big_endian n x)) (spelt n x small)

-- the n bytes at a place are bytes, n of them
part_bytes : (n at : ℕ) (s : List ℕ) → AllBytes s → AllBytes (take n (drop at s))
part_bytes n at s k b m =
    let inner : b ∈ drop at s = rw (take-append-drop n (drop at s)) at (Memᴰ.append_left (drop n (drop at s)) m) in
    k b (rw (take-append-drop at s) at (Memᴰ.append_right (take at s) inner))

part_length : (n at : ℕ) (s : List ℕ) → at + n ≤ length s → length (take n (drop at s)) ≡ n
part_length n at s h = length-take-le n (drop at s) (rw (length-drop at s) (omega arith))

-- they are those of the number that stands there
whole : (n at : ℕ) (s : List ℕ) → AllBytes s → at + n ≤ length s → big_endian n (value (take n (drop at s))) ++ drop (at + n) s ≡ drop at s
whole n at s k h =
    rw (respelt n (take n (drop at s)) (part_length n at s h) (part_bytes n at s k), ← drop-drop n at s) (take-append-drop n (drop at s))

pub length_word : (x : ℕ) → length (word x) ≡ 4
unfolding word
length_word x = length_big_endian 4 x

pub length_hyper : (x : ℕ) → length (hyper x) ≡ 8
unfolding hyper
length_hyper x = length_big_endian 8 x

pub word_found : (front rest : List ℕ) (x at : ℕ) → length front ≡ at → x < 4294967296 → word_at (front ++ (word x ++ rest)) at ≡ x
unfolding word word_at
word_found front rest x at e h = found 4 x at front rest h e

pub hyper_found : (front rest : List ℕ) (x at : ℕ) → length front ≡ at → x < BELOW_64_BITS → hyper_at (front ++ (hyper x ++ rest)) at ≡ x
unfolding hyper hyper_at
hyper_found front rest x at e h = found 8 x at front rest h e

pub word_whole : (at : ℕ) (s : List ℕ) → AllBytes s → at + 4 ≤ length s → word (word_at s at) ++ drop (at + 4) s ≡ drop at s
unfolding word word_at
word_whole at s k h = whole 4 at s k h

pub hyper_whole : (at : ℕ) (s : List ℕ) → AllBytes s → at + 8 ≤ length s → hyper (hyper_at s at) ++ drop (at + 8) s ≡ drop at s
unfolding hyper hyper_at
hyper_whole at s k h = whole 8 at s k h

pub hyper_at_small : (at : ℕ) (s : List ℕ) → AllBytes s → hyper_at s at < BELOW_64_BITS
unfolding hyper_at
hyper_at_small at s k =
    let part = take 8 (drop at s) in
    let small : length part ≤ 8 = rw (length-take 8 (drop at s)) (min-le_left 8 (length (drop at s))) in
    let wide : 256 ^ length part ≤ 256 ^ 8 = pow-le-pow_right (omega arith) small in
    omega (arith, value_small part (part_bytes 8 at s k))

-- what comes behind a number doesn't matter to it
pub word_at_front : (l r : List ℕ) (at : ℕ) → at + 4 ≤ length l → word_at (l ++ r) at ≡ word_at l at
unfolding word_at
word_at_front l r at h =
    let left : 4 ≤ length (drop at l) = rw (length-drop at l) (omega arith) in
    let within : at ≤ length l = omega arith in
    rw (drop-append-le at l r within, take-append-le 4 (drop at l) r left) refl

-- the bytes of a number are those of its high part and then those of its low part
big_endian_parts : (m n high low : ℕ) → high < 256 ^ m → low < 256 ^ n → big_endian (m + n) (high * 256 ^ n + low) ≡ big_endian m high ++ big_endian n low
big_endian_parts m n high low h k =
    let both = big_endian m high ++ big_endian n low in
    let v : value both ≡ high * 256 ^ n + low =
    rw (value_append (big_endian m high) (big_endian n low), length_big_endian n low, spelt m high h, spelt n low k) in
    let size : length both ≡ m + n =
    rw (length-append (big_endian m high) (big_endian n low), length_big_endian m high, length_big_endian n low) in
    let bytes : AllBytes both =
    λ b p. ⊎_elim (bytes_big_endian m high b) (bytes_big_endian n low b) (Memᴰ.append_cases (big_endian m high) p) in
    rw v at (respelt (m + n) both size bytes)

pub hyper_words : (x : ℕ) → x < BELOW_64_BITS → hyper x ≡ word (x / 4294967296) ++ word (x % 4294967296)
unfolding hyper word
hyper_words x h =
    let e : x ≡ x / 4294967296 * 4294967296 + x % 4294967296 = omega arith in
    ap (big_endian 8) e ∙ big_endian_parts 4 4 (x / 4294967296) (x % 4294967296) (omega arith) (omega arith)

pub hyper_at_words : (s : List ℕ) (at : ℕ) → at + 8 ≤ length s → hyper_at s at ≡ word_at s at * 4294967296 + word_at s (at + 4)
unfolding hyper_at word_at
hyper_at_words s at h =
    let low : length (take 4 (drop (at + 4) s)) ≡ 4 = part_length 4 (at + 4) s (omega arith) in
    let parts : take 8 (drop at s) ≡ take 4 (drop at s) ++ take 4 (drop (at + 4) s) = rw (take-add 4 4 (drop at s), drop-drop 4 at s) in
    rw (parts, value_append (take 4 (drop at s)) (take 4 (drop (at + 4) s)), low) refl

-- the four bytes at a place
pub word_bytes : (s : List ℕ) (at : ℕ) → at + 4 ≤ length s →
    word_at s at ≡ get_or s at 0 * 16777216 + get_or s (at + 1) 0 * 65536 + get_or s (at + 2) 0 * 256 + get_or s (at + 3) 0
unfolding word_at value value_after
word_bytes s at h =
    let e1 : at + 1 ≡ suc at = omega arith in
    let e2 : at + 2 ≡ suc (suc at) = omega arith in
    let e3 : at + 3 ≡ suc (suc (suc at)) = omega arith in
    let d0 = drop-cons s at 0 (omega arith) in
    let d1 = drop-cons s (suc at) 0 (omega arith) in
    let d2 = drop-cons s (suc (suc at)) 0 (omega arith) in
    let d3 = drop-cons s (suc (suc (suc at))) 0 (omega arith) in
    rw (e1, e2, e3, d0, d1, d2, d3) (omega arith)

-- the library's bytes of a word, written over four of a slice
pub word_stored : (l ys : List ℕ) (at x : ℕ) → ys ≡ to_be_bytes w32 x → take at l ++ (ys ++ drop (at + 4 - at) (drop at l)) ≡ take at l ++ word x ++ drop (at + 4) l
unfolding word big_endian
word_stored l ys at x e =
    let four : at + 4 - at ≡ 4 = omega arith in
    let b1 : x / 16777216 ≡ x / 256 / 256 / 256 = omega arith in
    let b2 : x / 65536 ≡ x / 256 / 256 = omega arith in
    rw (e, four, b1, b2, drop-drop 4 at l) (sym (append_assoc (take at l) (word x) (drop (at + 4) l)))

-- two words one behind the other write a hyper
pub hyper_stored : (l m r : List ℕ) (at x : ℕ) → x < BELOW_64_BITS → at + 8 ≤ length l →
    m ≡ take at l ++ word (x / 4294967296) ++ drop (at + 4) l →
    r ≡ take (at + 4) m ++ word (x % 4294967296) ++ drop (at + 4 + 4) m →
    r ≡ take at l ++ hyper x ++ drop (at + 8) l
hyper_stored l m r at x small fits first second =
    let e : at + 4 + 4 ≡ at + 8 = omega arith in
    rw (second, first, e, hyper_words x small)
    (written_on l (word (x / 4294967296)) (word (x % 4294967296)) at (at + 4) (at + 8) (rw (length_word (x / 4294967296)))
    (rw (length_word (x % 4294967296)) e) fits)

-- high byte first, on numbers whose bytes are all different
pub high_byte_first : (word 16909060 ≡ 1 ∷ 2 ∷ 3 ∷ 4 ∷ []) × (hyper 72623859790382856 ≡ 1 ∷ 2 ∷ 3 ∷ 4 ∷ 5 ∷ 6 ∷ 7 ∷ 8 ∷ [])
unfolding word hyper
high_byte_first = (refl, refl)
