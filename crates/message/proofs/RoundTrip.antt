-- What is written reads back, and nothing else is read.
-- A message in range is read from its own bytes, since each of its words is found where the layout has it. Bytes that are read as a message
-- are those of that message: its words stand in them, and with the length of the kind they are all that stands there.
-- Assumes nothing.
use mathlib.Core.Path.{◌≡◌, refl, sym, ap, subst, ◌∙◌}
use mathlib.Core.Bool.{Bool, true, false, not}
use mathlib.Core.List.{List, [], ◌∷◌, ◌++◌}
use Prim.Native.Nat.{ℕ, ◌≤◌, ◌<◌}
use native.Mathlib.Omega.{arith}
use lib.ListN.{length, take, drop}
use lib.Seq.{take_at}
use lib.Dec.{eqb, ltb, leb}
use borrow.Author.Tests.{not-true, not-false, le-ltb, ne_eqb, eqb-true}
use Rattle.laws.specs.Tests.{tests, by_test, and_left, and_right, or_right}
use Rattle.laws.specs.First.{first, passed}
use Rattle.laws.specs.Answers.{number_kept}
use Rattle.ids.specs.declared.Round.{Round}
use Rattle.ids.specs.declared.Member.{Member}
use Rattle.ids.specs.declared.Slot.{Slot}
use Rattle.ids.specs.Ranges.{out_of_range, above_range, no_member, no_slot}
use Rattle.numbers.specs.Numbers.{OK, WRONG_SLOT}
use Rattle.xdr.specs.Words.{AllBytes, word_at, hyper_at}
use Rattle.xdr.specs.Items.{Item, integer, long, span, encoded, Stand}
use Rattle.xdr.proofs.Laws.{hyper_at_small}
use Rattle.xdr.proofs.Items.{length_encoded, integer_found, long_found, stands}
use Rattle.message.specs.declared.Body.{Body}
use Rattle.message.specs.declared.Body.TheVariants.{Start, Join, JoinVoted, Propose, Vote}
use Rattle.message.specs.declared.Message.{Message}
use Rattle.message.specs.Answers.{Read, Got, Refused}
use Rattle.message.specs.Fields.{head_in_range, vote_in_range, in_range, message_in_range}
use Rattle.message.specs.Layout.{START_KIND, JOIN_KIND, PROPOSE_KIND, VOTE_KIND, head, layout_in, layout, bytes, slot_place, kind_place, round_place}
use Rattle.message.specs.Layout.{sender_place, presence_place, voted_place}
use Rattle.message.specs.Layout.{voted_value_place, proposed_place, join_voted_length, propose_length, longest_message, byte_count, slot_in, kind_in}
use Rattle.message.specs.Layout.{message_slot, message_round, message_sender}
use Rattle.message.specs.Layout.{presence_in, message_voted, voted_value_in, proposed_in, ValueFits}
use Rattle.message.specs.Reading.{is_join, size, decoded_body, decoded, message_row, read_answer, read_number, told_reading, reading, ReaderGives}
use Rattle.message.specs.Writing.{writer_row, writing, buffer_after, in_front}
use Rattle.message.specs.RoundTrip.{AcceptedAreWritten, WrittenAreAccepted}
use Rattle.message.proofs.Checks.{count_most, four_kinds, Known, told, right_size, size_least, size_front, size_join_least, size_join, size_join_voted, size_propose}
use Rattle.message.proofs.Checks.{size_other, decoded_start, decoded_join, decoded_join_voted, decoded_propose, decoded_vote, slot_refused}

-- an answer has the number of the first cause of its row
read_numbered : (wrong : ℕ → Bool) (s : List ℕ) → read_number (reading wrong s) ≡ first (message_row wrong s)
unfolding reading
read_numbered wrong s = number_kept read_number (λ n. read_answer n (decoded s)) (message_row wrong s)
    (refl, (refl, (refl, (refl, (refl, (refl, (refl, refl)))))))

pub reader_gives : (wrong : ℕ → Bool) (s : List ℕ) (r : Read) → r ≡ reading wrong s → ReaderGives wrong s r
reader_gives wrong s r e = record { answer = e; number_is = ap read_number e ∙ read_numbered wrong s }

-- a message in range has a slot of 0 to 7, and fields in range
pub slot_ranged : (m : Message) → message_in_range m ≡ true → no_slot m.slot.0 ≡ false
slot_ranged m h = not-true (no_slot m.slot.0) (and_left (not (no_slot m.slot.0)) (in_range m.body) h)

pub body_ranged : (m : Message) → message_in_range m ≡ true → in_range m.body ≡ true
body_ranged m h = and_right (not (no_slot m.slot.0)) (in_range m.body) h

-- and is so with these
pub both_ranged : (m : Message) → no_slot m.slot.0 ≡ false → in_range m.body ≡ true → message_in_range m ≡ true
both_ranged m right h = rw (right, h)

-- a round in range is a word
round_small : (r : Round) (s : Member) → head_in_range r s ≡ true → r.0 < 4294967296
round_small r s h =
    let out : out_of_range r.0 ≡ false = not-true (out_of_range r.0) (and_left (not (out_of_range r.0)) (not (no_member s.0)) h) in
    let low : above_range r.0 ≡ false = or_right (eqb r.0 0) (above_range r.0) out in
    omega tests

sender_small : (r : Round) (s : Member) → head_in_range r s ≡ true → s.0 < 4294967296
sender_small r s h =
    let out : no_member s.0 ≡ false = not-true (no_member s.0) (and_right (not (out_of_range r.0)) (not (no_member s.0)) h) in
    omega tests

length_body : (i : Slot) (b : Body) → length (encoded (layout_in i b)) ≡ byte_count b
unfolding layout_in
length_body i (Start r s) = length_encoded (layout_in i (Start r s))
length_body i (Join r s) = length_encoded (layout_in i (Join r s))
length_body i (JoinVoted r s q w) = length_encoded (layout_in i (JoinVoted r s q w))
length_body i (Propose r s v) = length_encoded (layout_in i (Propose r s v))
length_body i (Vote r s) = length_encoded (layout_in i (Vote r s))

pub length_bytes : (m : Message) → length (bytes m) ≡ byte_count m.body
unfolding bytes
length_bytes m = length_body m.slot m.body

-- no message is longer than the longest
pub bytes_short : (m : Message) → length (bytes m) ≤ longest_message
bytes_short m = rw (length_bytes m) (count_most m.body)

-- nor its numbers
pub layout_short : (m : Message) → span (layout m) ≤ longest_message
unfolding bytes
layout_short m = rw (← length_encoded (layout m)) (bytes_short m)

-- what every message starts with is found, whatever comes after
module _ (i : Slot) (k : ℕ) (r : Round) (s : Member) (js : List Item) where
  slot_found : i.0 < 4294967296 → message_slot (encoded (head i k r s ++ js)) ≡ i
  slot_found small = ap (λ (x : ℕ). record { 0 = x }) (integer_found [] (integer k ∷ integer r.0 ∷ integer s.0 ∷ js) i.0 slot_place (length_encoded [])
      small)

  kind_found : k ≤ VOTE_KIND → kind_in (encoded (head i k r s ++ js)) ≡ k
  kind_found small = integer_found (integer i.0 ∷ []) (integer r.0 ∷ integer s.0 ∷ js) k kind_place (length_encoded (integer i.0 ∷ [])) (omega arith)

  round_found : head_in_range r s ≡ true → message_round (encoded (head i k r s ++ js)) ≡ r
  round_found h = ap (λ (x : ℕ). record { 0 = x }) (integer_found (integer i.0 ∷ integer k ∷ []) (integer s.0 ∷ js) r.0 round_place
      (length_encoded (integer i.0 ∷ integer k ∷ [])) (round_small r s h))

  sender_found : head_in_range r s ≡ true → message_sender (encoded (head i k r s ++ js)) ≡ s
  sender_found h = ap (λ (x : ℕ). record { 0 = x }) (integer_found (integer i.0 ∷ integer k ∷ integer r.0 ∷ []) js s.0 sender_place
      (length_encoded (integer i.0 ∷ integer k ∷ integer r.0 ∷ [])) (sender_small r s h))

-- a message's slot is found, whatever it says
slot_of : (i : Slot) (b : Body) → i.0 < 4294967296 → message_slot (encoded (layout_in i b)) ≡ i
unfolding layout_in
slot_of i (Start r s) = slot_found i START_KIND r s []
slot_of i (Join r s) = slot_found i JOIN_KIND r s (integer 0 ∷ [])
slot_of i (JoinVoted r s q w) = slot_found i JOIN_KIND r s (integer 1 ∷ integer q.0 ∷ long w ∷ [])
slot_of i (Propose r s v) = slot_found i PROPOSE_KIND r s (long v ∷ [])
slot_of i (Vote r s) = slot_found i VOTE_KIND r s []

-- bytes of the length of their kind and presence
record Whole (s : List ℕ) : Type 0 where
  known : Known s
  exact : length s ≡ size s

-- the message that bytes spell has their slot and what they say
module _ (s : List ℕ) where
  slot_spelt : (decoded s).slot.0 ≡ slot_in s
  unfolding decoded
  slot_spelt = refl

  body_spelt : (decoded s).body ≡ decoded_body s
  unfolding decoded
  body_spelt = refl

-- they read as it, if its slot isn't refused and its fields are in range
whole_read : (wrong : ℕ → Bool) (s : List ℕ) (m : Message) → Whole s → decoded s ≡ m → wrong m.slot.0 ≡ false → in_range m.body ≡ true →
    reading wrong s ≡ Got m
whole_read wrong s m w e right h =
    let slot : wrong (slot_in s) ≡ false = ap wrong (sym (slot_spelt s)) ∙ ap (λ (g : Message). wrong g.slot.0) e ∙ right in
    told s wrong (omega (arith, w.exact, size_least s)) ∙ ap (λ (b : Bool). told_reading b s) slot ∙ right_size s w.known w.exact ∙ rw (e, h)

-- bytes that read as a message get no number of the row, spell it, and its fields are in range
pub got : (wrong : ℕ → Bool) (s : List ℕ) (m : Message) → reading wrong s ≡ Got m →
    (first (message_row wrong s) ≡ OK) × (decoded s ≡ m) × (in_range m.body ≡ true)
unfolding reading
got wrong s m h =
    let zero-first : first (message_row wrong s) ≡ OK = sym (read_numbered wrong s) ∙ ap read_number h in
    let reads : Got (decoded s) ≡ Got m = sym (ap (λ (n : ℕ). read_answer n (decoded s)) zero-first) ∙ h in
    let same : decoded s ≡ m = cc in
    let (long-enough, (right, (known, (length-right, (present, (sized, (ranged, end))))))) = passed (message_row wrong s) refl zero-first in
    (zero-first, same, rw (← same, body_spelt s) (not-false (in_range (decoded_body s)) ranged))

-- the answer is a message
abbrev IsGot : Read → Type 0
IsGot (Got m) = Unit {0}
IsGot (Refused n) = ⊥

-- bytes that are refused get their number from the row, and it isn't 0
pub refused_read : (wrong : ℕ → Bool) (s : List ℕ) (n : ℕ) → reading wrong s ≡ Refused n → (first (message_row wrong s) ≡ n) × (eqb n OK ≡ false)
unfolding reading
refused_read wrong s n h =
    let number : first (message_row wrong s) ≡ n = sym (read_numbered wrong s) ∙ ap read_number h in (
      number,
      by_test (eqb n OK) (λ t.
          let clash : Got (decoded s) ≡ Refused n = rw (number, t) at h in absurd (subst IsGot clash tt)) (λ t. t),
    )

-- a message that is read is whole, and its slot isn't refused
read_whole : (wrong : ℕ → Bool) (s : List ℕ) (m : Message) → reading wrong s ≡ Got m → Whole s × (wrong m.slot.0 ≡ false)
unfolding message_row
read_whole wrong s m h =
    let (zero-first, same, ranged) = got wrong s m h in
    let (long-enough, (right, (known, (length-right, (present, (sized, rest)))))) = passed (message_row wrong s) refl zero-first in
    let (low, high) = four_kinds (kind_in s) known in
    let whole : Whole s =
    record {
      known = record { low = low; high = high; present = present };
      exact = eqb-true (length s) (size s) (not-false (eqb (length s) (size s)) sized);
    } in
    (whole, rw (← same, slot_spelt s) right)

-- of a message that is read the slot isn't one that is refused
pub got_slot : (wrong : ℕ → Bool) (s : List ℕ) (m : Message) → reading wrong s ≡ Got m → wrong m.slot.0 ≡ false
got_slot wrong s m h = (read_whole wrong s m h).1

-- what one reader takes any other takes too, unless it refuses the slot
pub also_read : (wrong other : ℕ → Bool) (s : List ℕ) (m : Message) → reading wrong s ≡ Got m → other m.slot.0 ≡ false → reading other s ≡ Got m
also_read wrong other s m h right =
    let (zero-first, same, ranged) = got wrong s m h in
    whole_read other s m (read_whole wrong s m h).0 same right ranged

-- and one that does refuses the message for it
pub refused_for_slot : (wrong other : ℕ → Bool) (s : List ℕ) (m : Message) → reading wrong s ≡ Got m → other m.slot.0 ≡ true →
    reading other s ≡ Refused WRONG_SLOT
refused_for_slot wrong other s m h t =
    let w = (read_whole wrong s m h).0 in
    let slot : other (slot_in s) ≡ true = ap other (sym (slot_spelt s)) ∙ ap (λ (g : Message). other g.slot.0) (got wrong s m h).1 ∙ t in
    told s other (omega (arith, w.exact, size_least s)) ∙ ap (λ (b : Bool). told_reading b s) slot ∙ slot_refused s

-- the five shapes
by_kind {ℓ} : {C : Type ℓ} (s : List ℕ) → Whole s → (kind_in s ≡ START_KIND → C) → (kind_in s ≡ JOIN_KIND → presence_in s ≡ 0 → C) →
    (kind_in s ≡ JOIN_KIND → presence_in s ≡ 1 → C) →
    (kind_in s ≡ PROPOSE_KIND → C) → (kind_in s ≡ VOTE_KIND → C) → C
by_kind s w start join join-voted propose vote =
    let low = w.known.low in
    let high = w.known.high in
    by_test (eqb (kind_in s) START_KIND) (λ t. start (eqb-true (kind_in s) START_KIND t))
    (λ t. by_test (is_join s)
    (λ j. let few : ltb 1 (presence_in s) ≡ false = rw j at w.known.present in
    by_test (eqb (presence_in s) 0) (λ p. join (eqb-true (kind_in s) JOIN_KIND j) (eqb-true (presence_in s) 0 p))
    (λ p. join-voted (eqb-true (kind_in s) JOIN_KIND j) (omega tests)))
    (λ j. by_test (eqb (kind_in s) PROPOSE_KIND) (λ p. propose (eqb-true (kind_in s) PROPOSE_KIND p)) (λ p. vote (omega tests))))

module _ (s : List ℕ) (b : AllBytes s) where
  -- bytes in which the words of a message stand, and no more, are its bytes
  stood : (c : Body) → Stand s 0 (layout_in (message_slot s) c) → length s ≡ byte_count c → s ≡ encoded (layout_in (message_slot s) c)
  stood c w e = stands s 0 (layout_in (message_slot s) c) b w (omega (arith, length_body (message_slot s) c))

  stood_read : Whole s → (s ≡ encoded (layout_in (message_slot s) (decoded_body s))) × ValueFits (decoded_body s)
  unfolding layout_in
  stood_read w =
      by_kind s w
      (λ k. rw (decoded_start s k)
      (stood (Start (message_round s) (message_sender s)) (refl, (k, (refl, (refl, tt)))) (w.exact ∙ size_other s (λ z. omega arith) (λ z. omega arith)), tt))
      (λ k p. rw (decoded_join s k p)
      (stood (Join (message_round s) (message_sender s)) (refl, (k, (refl, (refl, (p, tt))))) (w.exact ∙ size_join s k p), tt))
      (λ k p. let l : length s ≡ join_voted_length = w.exact ∙ size_join_voted s k p in
      rw (decoded_join_voted s k p) (
        stood (JoinVoted (message_round s) (message_sender s) (message_voted s) (voted_value_in s)) (refl, (k, (refl, (refl, (p, (refl, (refl, tt))))))) l,
        hyper_at_small voted_value_place s b,
      ))
      (λ k. let l : length s ≡ propose_length = w.exact ∙ size_propose s k in
      rw (decoded_propose s k)
      (stood (Propose (message_round s) (message_sender s) (proposed_in s)) (refl, (k, (refl, (refl, (refl, tt))))) l, hyper_at_small proposed_place s b))
      (λ k. rw (decoded_vote s k)
      (stood (Vote (message_round s) (message_sender s)) (refl, (k, (refl, (refl, tt)))) (w.exact ∙ size_other s (λ z. omega arith) (λ z. omega arith)), tt))

  -- bytes that are whole are, byte for byte, what is written for the message that they spell
  spelling : Whole s → (s ≡ bytes (decoded s)) × ValueFits (decoded s).body
  unfolding bytes decoded
  spelling w = stood_read w

  -- what is read is what is written for that message, its fields are in range and its slot isn't refused
  pub only_written : (wrong : ℕ → Bool) (m : Message) → reading wrong s ≡ Got m →
      (s ≡ bytes m) × ValueFits m.body × (in_range m.body ≡ true) × (wrong m.slot.0 ≡ false)
  only_written wrong m h =
      let (w, right) = read_whole wrong s m h in
      let (zero-first, same, ranged) = got wrong s m h in
      let (written, held) = subst (λ (g : Message). (s ≡ bytes g) × ValueFits g.body) same (spelling w) in
      (written, held, ranged, right)

-- no two byte strings read as one message
pub one_reading : (wrong : ℕ → Bool) (s t : List ℕ) (m : Message) → AllBytes s → AllBytes t → reading wrong s ≡ Got m → reading wrong t ≡ Got m → s ≡ t
one_reading wrong s t m b c h k = (only_written s b wrong m h).0 ∙ sym (only_written t c wrong m k).0

-- a message of a kind is whole
module _ (s : List ℕ) (c : Body) (e : length s ≡ byte_count c) where
  whole_join : kind_in s ≡ JOIN_KIND → presence_in s ≤ 1 → size s ≡ byte_count c → Whole s
  whole_join k p z = record { known = record { low = omega arith; high = omega arith; present = rw k (le-ltb 1 (presence_in s) p) }; exact = e ∙ sym z }

  whole_other : (k : ℕ) → kind_in s ≡ k → 1 ≤ k → k ≤ VOTE_KIND → eqb k JOIN_KIND ≡ false → size s ≡ byte_count c → Whole s
  whole_other k q low high j z = record { known = record { low = omega arith; high = omega arith; present = rw (q, j) }; exact = e ∙ sym z }

-- the bytes of a message whose fields are in range are whole, and say what it says
spelt_body : (i : Slot) (c : Body) → ValueFits c → in_range c ≡ true →
    Whole (encoded (layout_in i c)) × (decoded_body (encoded (layout_in i c)) ≡ c)
unfolding layout_in
spelt_body i (Start r s) v h =
    let c = Start r s in
    let l = encoded (layout_in i c) in
    let k = kind_found i START_KIND r s [] (omega arith) in (
      whole_other l c (length_body i c) START_KIND k (omega arith) (omega arith) refl (size_other l (λ z. omega arith) (λ z. omega arith)),
      decoded_start l k ∙ (λ j. Start (round_found i START_KIND r s [] h j) (sender_found i START_KIND r s [] h j)),
    )
spelt_body i (Join r s) v h =
    let c = Join r s in
    let l = encoded (layout_in i c) in
    let js = integer 0 ∷ [] in
    let k = kind_found i JOIN_KIND r s js (omega arith) in
    let p : presence_in l ≡ 0 = integer_found (head i JOIN_KIND r s) [] 0 presence_place (length_encoded (head i JOIN_KIND r s)) (omega arith) in (
      whole_join l c (length_body i c) k (rw p (omega arith)) (size_join l k p),
      decoded_join l k p ∙ (λ j. Join (round_found i JOIN_KIND r s js h j) (sender_found i JOIN_KIND r s js h j)),
    )
spelt_body i (JoinVoted r s q w) v h =
    let c = JoinVoted r s q w in
    let l = encoded (layout_in i c) in
    let js = integer 1 ∷ integer q.0 ∷ long w ∷ [] in
    let first-words = head i JOIN_KIND r s in
    let g : head_in_range r s ≡ true = and_left (head_in_range r s) (vote_in_range r q) h in
    let f : vote_in_range r q ≡ true = and_right (head_in_range r s) (vote_in_range r q) h in
    let below : ltb q.0 r.0 ≡ true = and_right (leb 1 q.0) (ltb q.0 r.0) f in
    let k = kind_found i JOIN_KIND r s js (omega arith) in
    let p : presence_in l ≡ 1 = integer_found first-words (integer q.0 ∷ long w ∷ []) 1 presence_place (length_encoded first-words) (omega arith) in
    let y : word_at l voted_place ≡ q.0 =
    integer_found (first-words ++ integer 1 ∷ []) (long w ∷ []) q.0 voted_place (length_encoded (first-words ++ integer 1 ∷ []))
    (omega (tests, round_small r s g)) in
    let z : hyper_at l voted_value_place ≡ w = long_found (first-words ++ integer 1 ∷ integer q.0 ∷ []) [] w voted_value_place
    (length_encoded (first-words ++ integer 1 ∷ integer q.0 ∷ [])) v in (
      whole_join l c (length_body i c) k (rw p (omega arith)) (size_join_voted l k p),
      decoded_join_voted l k p ∙ (λ j. JoinVoted (round_found i JOIN_KIND r s js g j) (sender_found i JOIN_KIND r s js g j) (record { 0 = y j }) (z j)),
    )
spelt_body i (Propose r s w) v h =
    let c = Propose r s w in
    let l = encoded (layout_in i c) in
    let js = long w ∷ [] in
    let k = kind_found i PROPOSE_KIND r s js (omega arith) in
    let z : hyper_at l proposed_place ≡ w = long_found (head i PROPOSE_KIND r s) [] w proposed_place (length_encoded (head i PROPOSE_KIND r s)) v in (
      whole_other l c (length_body i c) PROPOSE_KIND k (omega arith) (omega arith) refl (size_propose l k),
      decoded_propose l k ∙ (λ j. Propose (round_found i PROPOSE_KIND r s js h j) (sender_found i PROPOSE_KIND r s js h j) (z j)),
    )
spelt_body i (Vote r s) v h =
    let c = Vote r s in
    let l = encoded (layout_in i c) in
    let k = kind_found i VOTE_KIND r s [] (omega arith) in (
      whole_other l c (length_body i c) VOTE_KIND k (omega arith) (omega arith) refl (size_other l (λ z. omega arith) (λ z. omega arith)),
      decoded_vote l k ∙ (λ j. Vote (round_found i VOTE_KIND r s [] h j) (sender_found i VOTE_KIND r s [] h j)),
    )

-- and with a slot of 0 to 7 spell it
spelt : (m : Message) → ValueFits m.body → message_in_range m ≡ true → Whole (bytes m) × (decoded (bytes m) ≡ m)
unfolding bytes decoded
spelt m v h =
    let right : no_slot m.slot.0 ≡ false = slot_ranged m h in
    let (w, e) = spelt_body m.slot m.body v (body_ranged m h) in
    (w, λ j. record { slot = slot_of m.slot m.body (omega tests) j; body = e j })

-- each message in range reads back as itself, unless its slot is refused
pub reads_back : (wrong : ℕ → Bool) (m : Message) → ValueFits m.body → message_in_range m ≡ true → wrong m.slot.0 ≡ false →
    reading wrong (bytes m) ≡ Got m
reads_back wrong m v h right = let (w, e) = spelt m v h in whole_read wrong (bytes m) m w e right (body_ranged m h)

-- and in longer bytes the part of its own length spells it
pub spelt_front : (m : Message) (behind : List ℕ) → ValueFits m.body → message_in_range m ≡ true →
    decoded (take (size (bytes m ++ behind)) (bytes m ++ behind)) ≡ m
spelt_front m behind v h =
    let (w, e) = spelt m v h in
    let l = bytes m in
    let exact : length l ≡ size l = w.exact in
    let own : size (l ++ behind) ≡ size l = size_front l behind (omega (arith, size_least l)) (λ k. omega (arith, size_join_least l k)) in
    rw (own, take_at l behind (size l) exact) e

-- a message in range passes the writer's row where the buffer has room for any
fitting : (m : Message) (old : List ℕ) → longest_message ≤ length old → message_in_range m ≡ true → first (writer_row m old) ≡ OK
fitting m old l h = rw (le-ltb (length old) longest_message l, slot_ranged m h, body_ranged m h)

-- it is written, with its own length
pub in_range_written : (m : Message) (old : List ℕ) → longest_message ≤ length old → message_in_range m ≡ true →
    writing m old ≡ record { number = 0; length = length (bytes m) }
unfolding writing
in_range_written m old l h = rw (fitting m old l h)

-- and leaves itself at the front
pub left_in_front : (m : Message) (old : List ℕ) → longest_message ≤ length old → message_in_range m ≡ true → buffer_after m old ≡ in_front m old
unfolding buffer_after
left_in_front m old l h = rw (fitting m old l h)

-- and nothing else passes
pub fitted : (m : Message) (old : List ℕ) → first (writer_row m old) ≡ OK → (longest_message ≤ length old) × (message_in_range m ≡ true)
fitted m old ok =
    let (room, (right, (ranged, end))) = passed (writer_row m old) refl ok in
    (omega tests, both_ranged m right (not-false (in_range m.body) ranged))

-- a refusal answers its number and no length, and leaves the buffer as it was
module _ (m : Message) (old : List ℕ) (refused : first (writer_row m old) ≡ OK → ⊥) where
  pub refused_unwritten : writing m old ≡ record { number = first (writer_row m old); length = 0 }
  unfolding writing
  refused_unwritten = rw (ne_eqb (first (writer_row m old)) OK refused)

  pub left_as_it_was : buffer_after m old ≡ old
  unfolding buffer_after
  left_as_it_was = rw (ne_eqb (first (writer_row m old)) OK refused)

-- a message that the writer took is in range, and the length answered of the buffer is its bytes
written_taken : (m : Message) (old : List ℕ) → (writing m old).number ≡ OK →
    (message_in_range m ≡ true) × (take (writing m old).length (buffer_after m old) ≡ bytes m)
unfolding writing buffer_after in_front
written_taken m old ok =
    ((fitted m old ok).1, rw (ok, take_at (bytes m) (drop (length (bytes m)) old) (length (bytes m)) refl) refl)

pub written_reads_back : WrittenAreAccepted
written_reads_back m v old w new W ok r R =
    let (ranged, front) = written_taken m old (rw W.answer at ok) in
    let same : take w.length new ≡ bytes m = rw (W.answer, W.buffer) front in
    R.answer ∙ ap (reading no_slot) same ∙ reads_back no_slot m v ranged (slot_ranged m ranged)

pub accepted_as_written : AcceptedAreWritten
unfolding in_front
accepted_as_written s b m R old l w new W =
    let (same, held, fields, right) = only_written s b no_slot m (sym R.answer) in
    let ranged : message_in_range m ≡ true = both_ranged m right fields in
    record {
      answer_is = W.answer ∙ in_range_written m old l ranged ∙ ap (λ x. record { number = 0; length = length x }) (sym same);
      buffer_is = W.buffer ∙ left_in_front m old l ranged ∙ ap (λ x. x ++ drop (length x) old) (sym same);
    }
