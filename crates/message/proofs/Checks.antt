-- The messages and the lengths of the kinds, and what bytes read as by kind, presence and length. Each goes by the tests on these. Assumes nothing.
use mathlib.Core.Path.{◌≡◌, refl, sym, ap, ◌∙◌}
use mathlib.Core.Bool.{Bool, true, false, not}
use mathlib.Core.List.{List, ◌++◌}
use Prim.Native.Nat.{ℕ, ◌≤◌, ◌<◌}
use native.Mathlib.Omega.{arith}
use lib.ListN.{length, take, drop, take-append-drop}
use lib.Seq.{length-take-le}
use lib.Dec.{eqb, ltb, lit≤}
use borrow.Author.Tests.{ne_eqb, eq-eqb, le-ltb, lt-ltb, eqb-true}
use Rattle.laws.specs.Tests.{tests, by_test, or_left, or_right, or_none}
use Rattle.xdr.proofs.Laws.{word_at_front}
use Rattle.numbers.specs.Numbers.{MESSAGE_LENGTH, MESSAGE_KIND, MESSAGE_FIELD, WRONG_SLOT}
use Rattle.message.specs.Answers.{Got, Refused}
use Rattle.message.specs.Fields.{in_range}
use Rattle.message.specs.Reading.{is_join, wrong_length, wrong_presence, inexact, size, decoded_body, decoded, ranged, told_reading, reading}
use Rattle.message.specs.Layout.{START_KIND, JOIN_KIND, PROPOSE_KIND, VOTE_KIND, no_kind, kind_place, presence_place, kind_end, head_length, join_length}
use Rattle.message.specs.Layout.{in_slot, join_voted_length}
use Rattle.message.specs.Layout.{propose_length, longest_message, byte_count, slot_in, message_slot, kind_in, message_round, message_sender, presence_in, message_voted}
use Rattle.message.specs.Layout.{voted_value_in, proposed_in}
use Rattle.message.specs.declared.Body.{Body}
use Rattle.message.specs.declared.Body.TheVariants.{Start, Join, JoinVoted, Propose, Vote}

count_least : (b : Body) → head_length ≤ byte_count b
count_least (Start r s) = lit≤ tt
count_least (Join r s) = lit≤ tt
count_least (JoinVoted r s q w) = lit≤ tt
count_least (Propose r s v) = lit≤ tt
count_least (Vote r s) = lit≤ tt

pub count_most : (b : Body) → byte_count b ≤ longest_message
count_most (Start r s) = lit≤ tt
count_most (Join r s) = lit≤ tt
count_most (JoinVoted r s q w) = lit≤ tt
count_most (Propose r s v) = lit≤ tt
count_most (Vote r s) = lit≤ tt

-- a number that isn't none of the kinds is one of the four
pub four_kinds : (k : ℕ) → no_kind k ≡ false → (1 ≤ k) × (k ≤ VOTE_KIND)
four_kinds k h =
    let nonzero : eqb k 0 ≡ false = or_left (eqb k 0) (ltb VOTE_KIND k) h in
    let small : ltb VOTE_KIND k ≡ false = or_right (eqb k 0) (ltb VOTE_KIND k) h in
    (omega tests, omega tests)

module _ (s : List ℕ) where
  pub decoded_start : kind_in s ≡ START_KIND → decoded_body s ≡ Start (message_round s) (message_sender s)
  unfolding decoded_body
  decoded_start k = rw k

  pub decoded_join : kind_in s ≡ JOIN_KIND → presence_in s ≡ 0 → decoded_body s ≡ Join (message_round s) (message_sender s)
  unfolding decoded_body
  decoded_join k p = rw (k, p)

  pub decoded_join_voted : kind_in s ≡ JOIN_KIND → presence_in s ≡ 1 →
      decoded_body s ≡ JoinVoted (message_round s) (message_sender s) (message_voted s) (voted_value_in s)
  unfolding decoded_body
  decoded_join_voted k p = rw (k, p)

  pub decoded_propose : kind_in s ≡ PROPOSE_KIND → decoded_body s ≡ Propose (message_round s) (message_sender s) (proposed_in s)
  unfolding decoded_body
  decoded_propose k = rw k

  pub decoded_vote : kind_in s ≡ VOTE_KIND → decoded_body s ≡ Vote (message_round s) (message_sender s)
  unfolding decoded_body
  decoded_vote k = rw k

  pub size_join : kind_in s ≡ JOIN_KIND → presence_in s ≡ 0 → size s ≡ join_length
  unfolding size
  size_join k p = ap byte_count (decoded_join k p)

  pub size_join_voted : kind_in s ≡ JOIN_KIND → presence_in s ≡ 1 → size s ≡ join_voted_length
  unfolding size
  size_join_voted k p = ap byte_count (decoded_join_voted k p)

  pub size_propose : kind_in s ≡ PROPOSE_KIND → size s ≡ propose_length
  unfolding size
  size_propose k = ap byte_count (decoded_propose k)

  pub size_other : (kind_in s ≡ JOIN_KIND → ⊥) → (kind_in s ≡ PROPOSE_KIND → ⊥) → size s ≡ head_length
  unfolding size decoded_body
  size_other j p =
      by_test (eqb (kind_in s) START_KIND) (λ t. rw t) (λ t. rw (t, ne_eqb (kind_in s) JOIN_KIND j, ne_eqb (kind_in s) PROPOSE_KIND p))

  -- any message has its first four words, and a JOIN has its presence
  pub size_least : head_length ≤ size s
  unfolding size
  size_least = count_least (decoded_body s)

  pub size_most : size s ≤ longest_message
  unfolding size
  size_most = count_most (decoded_body s)

  pub size_join_least : kind_in s ≡ JOIN_KIND → join_length ≤ size s
  unfolding size decoded_body
  size_join_least k = by_test (eqb (presence_in s) 1) (λ p. rw (k, p) (lit≤ tt)) (λ p. rw (k, p) (lit≤ tt))

  -- the size is told by the kind, and by the presence of a JOIN, whatever comes behind them
  pub size_front : (behind : List ℕ) → kind_end ≤ length s → (kind_in s ≡ JOIN_KIND → join_length ≤ length s) → size (s ++ behind) ≡ size s
  unfolding size decoded_body
  size_front behind l room =
      let first = word_at_front s behind kind_place l in
      by_test (eqb (kind_in s) START_KIND)
      (λ k. rw (first, k) refl)
      (λ k.
      by_test (eqb (kind_in s) JOIN_KIND)
      (λ j.
      let second = word_at_front s behind presence_place (room (eqb-true (kind_in s) JOIN_KIND j)) in
      by_test (eqb (presence_in s) 1)
      (λ p. rw (first, second, k, j, p) refl)
      (λ p. rw (first, second, k, j, p) refl))
      (λ j. by_test (eqb (kind_in s) PROPOSE_KIND) (λ p. rw (first, k, j, p) refl) (λ p. rw (first, k, j, p) refl)))

  -- kind and presence are right
  pub record Known : Type 0 where
    pub low : 1 ≤ kind_in s
    pub high : kind_in s ≤ VOTE_KIND
    pub present : wrong_presence s ≡ false

  known : Known → no_kind (kind_in s) ≡ false
  known K = or_none (ne_eqb (kind_in s) 0 (λ z. omega (arith, K.low))) (le-ltb VOTE_KIND (kind_in s) K.high)

  -- what tells no slot and kind has the wrong length, whatever it has of them
  pub too_short : (wrong : ℕ → Bool) → length s < kind_end → reading wrong s ≡ Refused MESSAGE_LENGTH
  unfolding reading
  too_short wrong h = rw (lt-ltb (length s) kind_end h)

  -- and all else reads by whether its slot is refused
  pub told : (wrong : ℕ → Bool) → kind_end ≤ length s → reading wrong s ≡ told_reading (wrong (slot_in s)) s
  unfolding reading told_reading
  told wrong h = rw (le-ltb (length s) kind_end h)

  -- a slot that is refused is so before all else
  pub slot_refused : told_reading true s ≡ Refused WRONG_SLOT
  unfolding told_reading
  slot_refused = refl

  -- then the kind
  pub kind_refused : no_kind (kind_in s) ≡ true → told_reading false s ≡ Refused MESSAGE_KIND
  unfolding told_reading
  kind_refused k = rw k

  -- a JOIN without its presence word has the wrong length, whatever would be its presence
  pub join_short : kind_in s ≡ JOIN_KIND → length s < join_length → told_reading false s ≡ Refused MESSAGE_LENGTH
  unfolding told_reading
  join_short k h = simp (k, lt-ltb (length s) join_length h)

  -- then the presence is 0 or 1
  pub join_neither : kind_in s ≡ JOIN_KIND → join_length ≤ length s → 1 < presence_in s → told_reading false s ≡ Refused MESSAGE_FIELD
  unfolding told_reading
  join_neither k l p = simp (k, le-ltb (length s) join_length l, lt-ltb 1 (presence_in s) p)

  -- where kind and presence are right, and a JOIN has its presence, any length but that of the kind is refused
  pub wrong_size : Known → (kind_in s ≡ JOIN_KIND → join_length ≤ length s) → (length s ≡ size s → ⊥) → told_reading false s ≡ Refused MESSAGE_LENGTH
  unfolding told_reading
  wrong_size K room e =
      let t : inexact s ≡ true = ap not (ne_eqb (length s) (size s) e) in
      by_test (is_join s)
      (λ j.
      let w : wrong_length s ≡ false = rw j (le-ltb (length s) join_length (room (eqb-true (kind_in s) JOIN_KIND j))) in
      rw (known K, w, K.present, t))
      (λ j. let w : wrong_length s ≡ true = rw j t in rw (known K, w))

  -- and with the length of the kind only the ranges are open
  pub right_size : Known → length s ≡ size s → told_reading false s ≡ ranged (decoded s)
  unfolding told_reading decoded
  right_size K e =
      let t : inexact s ≡ false = ap not (eq-eqb (length s) (size s) e) in
      let w : wrong_length s ≡ false =
      by_test (is_join s)
      (λ j. rw j (le-ltb (length s) join_length (omega (arith, size_join_least (eqb-true (kind_in s) JOIN_KIND j)))))
      (λ j. rw j t) in
      by_test (in_range (decoded_body s)) (λ r. rw (known K, w, K.present, t, r)) (λ r. rw (known K, w, K.present, t, r))

  -- so they are refused for a field out of range
  pub field_refused : Known → length s ≡ size s → in_range (decoded_body s) ≡ false → told_reading false s ≡ Refused MESSAGE_FIELD
  unfolding decoded
  field_refused K e r = right_size K e ∙ rw r refl

  -- and else read as the message of their slot that says what they say
  pub all_right : Known → length s ≡ size s → in_range (decoded_body s) ≡ true → told_reading false s ≡ Got (in_slot (message_slot s) (decoded_body s))
  unfolding decoded
  all_right K e r = right_size K e ∙ rw r refl

-- the part of bytes that is as long as they tell tells the same
pub own_length : (s : List ℕ) → size s ≤ length s → length (take (size s) s) ≡ size (take (size s) s)
own_length s h =
    let front = take (size s) s in
    let behind = drop (size s) s in
    let both : front ++ behind ≡ s = take-append-drop (size s) s in
    let long : length front ≡ size s = length-take-le (size s) s h in
    let least : head_length ≤ length front = omega (arith, size_least s) in
    let same : kind_in s ≡ kind_in front = sym (ap kind_in both) ∙ word_at_front front behind kind_place (omega arith) in
    long ∙ sym (ap size both) ∙ size_front front behind (omega arith) (λ k. omega (arith, size_join_least s (same ∙ k)))
