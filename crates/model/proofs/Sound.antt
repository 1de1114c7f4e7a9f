-- The state after any list of events is one that a step may start from: the invariants of the model give each of its facts. Assumes nothing.
use mathlib.Core.Path.{◌≡◌, refl}
use mathlib.Core.Bool.{true, false, not}
use mathlib.Core.List.Memᴰ
use mathlib.Core.List.Memᴰ.{head as here}
use mathlib.Core.List.Memᴰ.{tail as there}
use mathlib.Core.List.{List, [], ◌∷◌}
use mathlib.Core.Logic.{⊎_elim}
use Prim.Native.Nat.{ℕ, ◌<◌}
use native.Mathlib.Omega.{arith}
use borrow.Author.Tests.{le-ltb}
use Rattle.laws.specs.Tests.{by_test, and_right}
use Rattle.laws.specs.Lists.{◌∈◌}
use Rattle.laws.specs.Widths.{BELOW_64_BITS}
use Rattle.ids.specs.Ranges.{SLOTS, no_slot}
use Rattle.message.specs.declared.Message.{Message}
use Rattle.message.specs.declared.Body.{Body}
use Rattle.message.specs.declared.Body.TheVariants.{Start, Join, JoinVoted, Propose, Vote}
use Rattle.message.specs.Fields.{in_range, message_in_range}
use Rattle.message.specs.Layout.{in_slot, ValueFits}
use Rattle.member_record.specs.Record.{allowed, slot_number}
use Rattle.model.specs.Model.{Sizes, SlotEvent, Event, start, deliver, Office, first_office, made_in, next, accepted_in, offer_of, offers_at, offered}
use Rattle.model.specs.Demand.{ended}
use Rattle.model.specs.Sound.{SmallOffer, SmallOffers, SoundOffice}
use Rattle.model.proofs.View.{sizes_in, of_slot, view, seen_in, seen_from}
use Rattle.model.proofs.Kept.{KeptOffice, ended_kept}
use Rattle.model.proofs.Invariant.{ProposalMade, Backed, Invariant}
use Rattle.model.proofs.Events.{holds}
use Rattle.model.proofs.Demanded.{all_ok}

-- what is seen in a slot is within the ranges of its kind
pub seen_ranged : {z : Sizes} {o : Office} → SoundOffice z o → (s : ℕ) (b : Body) → b ∈ of_slot s o.sent → in_range b ≡ true
seen_ranged {o = o} S s b i = and_right (not (no_slot s)) (in_range b) (S.ranged (in_slot (slot_number s) b) (seen_from s o.sent i))

-- an offer that was accepted is one of the list's
offered_small : (s : ℕ) (z : Sizes) (o : Office) (es : List Event) → SmallOffers es → (x : ℕ) → x ∈ offered s z o es → x < BELOW_64_BITS
unfolding offered
offered_small s z o [] f x m = elim m [ ]
offered_small s z o (e ∷ es) f x m =
    ⊎_elim
    (λ n. by_test (accepted_in s z o e) (λ t. at e.event (f e (here refl)) (rw t at n)) (λ t. absurd (Memᴰ.not-nil (rw t at n))))
    (λ n. offered_small s z (next z o e) es (λ d k. f d (there k)) x n)
    (Memᴰ.append_cases (offers_at s z o e) m)
  where
    at : (d : SlotEvent) → SmallOffer d → x ∈ offer_of d → x < BELOW_64_BITS
    at (start m r y) small n = let e : x ≡ y = Memᴰ.eq_of_singleton n in rw e small
    at (deliver k m) small n = absurd (Memᴰ.not-nil n)

module _ (z : Sizes) (es : List Event) (ok : allowed z.n ≡ true) (small : SmallOffers es) where
  module _ (s : ℕ) (low : s < SLOTS) where
    invariant : Invariant (sizes_in z s) (view (ended z es) s) (offered s z (first_office z.n) es)
    invariant = holds z ok s low es

    -- a value that was proposed is a 64-bit number
    added_small : (r x : ℕ) → ProposalMade (made_in (ended z es) s) r x → x < BELOW_64_BITS
    added_small r x A = offered_small s z (first_office z.n) es small x (invariant.made_so.offered_so r x A.parent A.is_made)

    backed_small : (b : Body) → Backed (made_in (ended z es) s) b → ValueFits b
    backed_small (Start r m) b = tt
    backed_small (Join r m) b = tt
    backed_small (JoinVoted r m q w) b = added_small q.0 w b
    backed_small (Propose r m v) b = added_small r.0 v b
    backed_small (Vote r m) b = tt

  kept : KeptOffice z (ended z es)
  kept = ended_kept z es ok

  -- what a message sent says is seen in its slot
  seen : (g : Message) → g ∈ (ended z es).sent → g.body ∈ (view (ended z es) g.slot.0).sent
  seen g m = seen_in g.slot.0 (ended z es).sent m refl

  in_ranges : (g : Message) → g ∈ (ended z es).sent → message_in_range g ≡ true
  in_ranges g m =
      let low : g.slot.0 < SLOTS = kept.slots_sent g m in
      let a_slot : no_slot g.slot.0 ≡ false = le-ltb 7 g.slot.0 (omega arith) in
      rw (a_slot, (kept.views g.slot.0 low).ranged g.body (seen g m)) refl

  pub ended_sound : ((s : ℕ) → s < SLOTS → 0 < z.tables s) → SoundOffice z (ended z es)
  ended_sound rows =
      record {
        eight = kept.eight;
        count = λ s l. (kept.views s l).count;
        each = λ s t l b.
            let M = (kept.views s l).each t b in
            record { is_sound = M.is_sound; seven = M.seven; who_is = λ i. record { slot = M.slot i; me = M.number i; n = M.size i } };
        ranged = in_ranges;
        readable = λ g m.
            let low = kept.slots_sent g m in
            backed_small g.slot.0 low g.body ((invariant g.slot.0 low).backed g.body (seen g m));
        fits = kept.fits;
        all_ok = λ s l. all_ok z es ok s l (rows s l);
      }
