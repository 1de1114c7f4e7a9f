-- The slot word comes first and is looked at first, and a member's reader is a host's that takes its own slot alone. Assumes nothing.
use mathlib.Core.Path.{◌≡◌, refl, ap, ◌∙◌}
use mathlib.Core.Bool.{Bool, true, false}
use mathlib.Core.List.{List, ◌∷◌}
use Prim.Native.Nat.{ℕ}
use lib.ListN.{length, take}
use lib.Seq.{take_at}
use lib.Dec.{eqb}
use borrow.Author.Tests.{lt-ltb, le-ltb, eq-eqb, ne_eqb, eqb-true}
use Rattle.laws.specs.Tests.{by_test, clash}
use Rattle.ids.specs.declared.Slot.{Slot}
use Rattle.ids.specs.Ranges.{no_slot}
use Rattle.xdr.specs.Words.{word, word_at}
use Rattle.xdr.specs.Items.{Item, integer, encoded}
use Rattle.xdr.proofs.Laws.{length_word}
use Rattle.message.specs.declared.Body.{Body}
use Rattle.message.specs.declared.Body.TheVariants.{Start, Join, JoinVoted, Propose, Vote}
use Rattle.message.specs.Layout.{layout_in, bytes}
use Rattle.message.specs.Reading.{other_slot, message_row, reading}
use Rattle.message.specs.Slots.{StartsWithSlot, SlotBeforeKind, WriterRefusesSlot, MembersTakeOwn, MembersReadOwn}
use Rattle.message.proofs.RoundTrip.{got_slot, also_read, refused_for_slot}

-- a number in front stands in the first four bytes
number_in_front : (x : ℕ) (js : List Item) → take 4 (encoded (integer x ∷ js)) ≡ word x
unfolding encoded
number_in_front x js = take_at (word x) (encoded js) 4 (length_word x)

body_starts : (i : Slot) (b : Body) → take 4 (encoded (layout_in i b)) ≡ word i.0
unfolding layout_in
body_starts i (Start r s) = number_in_front i.0 _
body_starts i (Join r s) = number_in_front i.0 _
body_starts i (JoinVoted r s q w) = number_in_front i.0 _
body_starts i (Propose r s v) = number_in_front i.0 _
body_starts i (Vote r s) = number_in_front i.0 _

pub starts_with_slot : StartsWithSlot
unfolding bytes
starts_with_slot m = body_starts m.slot m.body

pub slot_before_kind : (wrong : ℕ → Bool) (s : List ℕ) → SlotBeforeKind wrong s
unfolding message_row
slot_before_kind wrong s = record {
  short = λ l. rw (lt-ltb _ _ l);
  refused = λ l w. rw (le-ltb _ _ l, w);
}

pub writer_refuses_slot : WriterRefusesSlot
writer_refuses_slot m old l h = rw (le-ltb (length old) 32 l, lt-ltb 7 m.slot.0 h)

module _ (own : Slot) (k : ℕ) where
  -- a slot that a member doesn't refuse is one of the eight, and its own
  taken_slot : other_slot own k ≡ false → (no_slot k ≡ false) × (k ≡ own.0)
  taken_slot h =
      by_test (no_slot k)
      (λ t. let refused : other_slot own k ≡ true = rw t refl in clash refused h)
      (λ t. (t, by_test (eqb k own.0) (eqb-true k own.0) (λ q. let refused : other_slot own k ≡ true = rw (t, q) refl in clash refused h)))

  -- its own it refuses where a host does
  own_slot : k ≡ own.0 → other_slot own k ≡ no_slot k
  own_slot e = by_test (no_slot k) (λ t. rw t refl) (λ t. rw (t, eq-eqb k own.0 e) refl)

  -- and any other
  another_slot : (k ≡ own.0 → ⊥) → other_slot own k ≡ true
  another_slot d = by_test (no_slot k) (λ t. rw t refl) (λ t. rw (t, ne_eqb k own.0 d) refl)

pub members_take_own : MembersTakeOwn
members_take_own own s m = record {
  own_alone = λ h.
      let (low, same) = taken_slot own m.slot.0 (got_slot (other_slot own) s m h) in
      (also_read (other_slot own) no_slot s m h low, ap (λ (x : ℕ). record { 0 = x }) same);
  every_own = λ h same. also_read no_slot (other_slot own) s m h (own_slot own m.slot.0 (ap (λ (i : Slot). i.0) same) ∙ got_slot no_slot s m h);
  others_refused = λ h d.
      refused_for_slot no_slot (other_slot own) s m h (another_slot own m.slot.0 (λ e. d (ap (λ (x : ℕ). record { 0 = x }) e)));
}

pub members_read_own : MembersReadOwn
unfolding reading
members_read_own own s e = rw (own_slot own (word_at s 0) e) refl
