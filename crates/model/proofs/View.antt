-- One slot of the model, seen alone: its members, what the messages of that slot say, and its proposals and decisions. An event of a slot changes what
-- is seen of that slot and of no other. Assumes nothing.
use mathlib.Core.Path.{◌≡◌, refl, sym, ap, ◌∙◌}
use mathlib.Core.Bool.{cond}
use mathlib.Core.List.Memᴰ.{head as here}
use mathlib.Core.List.Memᴰ.{tail as there}
use mathlib.Core.List.{List, [], ◌∷◌, ◌++◌, map, append-nil}
use mathlib.Core.Logic.{◌≢◌}
use Prim.Native.Nat.{ℕ, ◌<◌}
use lib.ListN.{length, get_or, set}
use lib.Seq.{get_or-set_same, get_or-set_other}
use lib.Dec.{eqb}
use borrow.Author.Tests.{eq-eqb, ne_eqb, eqb-true}
use Rattle.laws.specs.Tests.{by_test}
use Rattle.laws.specs.Lists.{◌∈◌}
use Rattle.message.specs.declared.Body.{Body}
use Rattle.message.specs.declared.Message.{Message}
use Rattle.message.specs.Layout.{in_slot}
use Rattle.member_record.specs.declared.MemberState.{MemberState}
use Rattle.member_record.specs.Record.{fresh_record, slot_number}
use Rattle.member.specs.Table.{Named, Outcome}
use Rattle.model.specs.Model.{Sizes, Event, Office, member_number, slot_at, made_in, at_member, event_outcome, made_by, slot_taken, taken}

-- the slot, N, and the rows of the slot's table
pub record SlotSizes : Type 0 where
  pub slot : ℕ
  pub n : ℕ
  pub table : ℕ

-- what is seen of a slot
pub record SlotView : Type 0 where
  pub members : List MemberState
  pub sent : List Body
  pub made : List Named

abbrev pub sizes_in : Sizes → ℕ → SlotSizes
sizes_in z s = record { slot = s; n = z.n; table = z.tables s }

-- what the messages of slot s say
unfoldable pub of_slot : ℕ → List Message → List Body
of_slot s [] = []
of_slot s (g ∷ gs) = cond (eqb g.slot.0 s) (g.body ∷ of_slot s gs) (of_slot s gs)

abbrev pub view : Office → ℕ → SlotView
view o s = record { members = (slot_at o s).members; sent = of_slot s o.sent; made = made_in o s }

-- member k of the slot
abbrev pub view_member : SlotSizes → SlotView → ℕ → MemberState
view_member z o k = get_or o.members k (fresh_record (slot_number z.slot) (member_number k) z.n)

-- a slot whose member k took a step
abbrev pub becomes : SlotView → ℕ → Outcome → SlotView
becomes o k u = record { members = set o.members k u.state; sent = o.sent ++ u.sent; made = o.made ++ made_by u.named }

pub of_slot_append : (s : ℕ) (gs hs : List Message) → of_slot s (gs ++ hs) ≡ of_slot s gs ++ of_slot s hs
unfolding of_slot
of_slot_append s [] hs = refl
of_slot_append s (g ∷ gs) hs =
    by_test (eqb g.slot.0 s)
    (λ t. rw t (ap (λ l. g.body ∷ l) (of_slot_append s gs hs)))
    (λ t. rw t (of_slot_append s gs hs))

-- what a member of the slot sends is seen in it
pub of_slot_own : (s : ℕ) (bs : List Body) → of_slot s (map (in_slot (slot_number s)) bs) ≡ bs
unfolding of_slot
of_slot_own s [] = refl
of_slot_own s (b ∷ bs) = rw (eq-eqb s s refl) (ap (λ l. b ∷ l) (of_slot_own s bs))

-- and in no other
pub of_slot_other : (s t : ℕ) (bs : List Body) → s ≢ t → of_slot t (map (in_slot (slot_number s)) bs) ≡ []
unfolding of_slot
of_slot_other s t [] d = refl
of_slot_other s t (b ∷ bs) d = rw (ne_eqb s t d) (of_slot_other s t bs d)

-- a message sent is seen in its slot
pub seen_in : {g : Message} (s : ℕ) (gs : List Message) → g ∈ gs → g.slot.0 ≡ s → g.body ∈ of_slot s gs
unfolding of_slot
seen_in s [] i q = elim i [ ]
seen_in {g} s (h ∷ gs) (here e) q =
    let same : h.slot.0 ≡ s = sym (ap (λ (x : Message). x.slot.0) e) ∙ q in
    rw (eq-eqb h.slot.0 s same) (here (ap (λ (x : Message). x.body) e))
seen_in {g} s (h ∷ gs) (there i) q =
    by_test (eqb h.slot.0 s)
    (λ t. rw t (there (seen_in s gs i q)))
    (λ t. rw t (seen_in s gs i q))

-- and what is seen in a slot was sent there
pub seen_from : {b : Body} (s : ℕ) (gs : List Message) → b ∈ of_slot s gs → in_slot (slot_number s) b ∈ gs
unfolding of_slot
seen_from s [] i = elim i [ ]
seen_from {b} s (g ∷ gs) i =
    by_test (eqb g.slot.0 s)
    (λ t. let q : s ≡ g.slot.0 = sym (eqb-true g.slot.0 s t) in first q (seen_from s gs) (rw t at i))
    (λ t. there (seen_from s gs (rw t at i)))
  where
    first : s ≡ g.slot.0 → (b ∈ of_slot s gs → in_slot (slot_number s) b ∈ gs) → b ∈ g.body ∷ of_slot s gs → in_slot (slot_number s) b ∈ g ∷ gs
    first q f (here p) = here (λ j. record { slot = record { 0 = q j }; body = p j })
    first q f (there k) = there (f k)

module _ (z : Sizes) (o : Office) (e : Event) where
  -- of the event's slot, its member's step is seen
  pub view_taken : e.slot < length o.slots → view (taken z o e) e.slot ≡ becomes (view o e.slot) (at_member e.event) (event_outcome z o e)
  unfolding taken
  view_taken l =
      let s = e.slot in
      let u = event_outcome z o e in
      let slot_is = get_or-set_same o.slots s (slot_taken (slot_at o s) (at_member e.event) u) (record { members = []; made = [] }) l in
      let sent_is : of_slot s (o.sent ++ map (in_slot (slot_number s)) u.sent) ≡ of_slot s o.sent ++ u.sent =
      of_slot_append s o.sent (map (in_slot (slot_number s)) u.sent) ∙ ap (λ l. of_slot s o.sent ++ l) (of_slot_own s u.sent) in
      λ i. record { members = (slot_is i).members; sent = sent_is i; made = (slot_is i).made }

  -- of any other nothing
  pub view_other : (s : ℕ) → s ≢ e.slot → view (taken z o e) s ≡ view o s
  unfolding taken
  view_other s d =
      let u = event_outcome z o e in
      let slot_is = get_or-set_other o.slots e.slot s (slot_taken (slot_at o e.slot) (at_member e.event) u) (record { members = []; made = [] }) d in
      let nothing-new : of_slot s (map (in_slot (slot_number e.slot)) u.sent) ≡ [] = of_slot_other e.slot s u.sent (λ q. d (sym q)) in
      let sent_is : of_slot s (o.sent ++ map (in_slot (slot_number e.slot)) u.sent) ≡ of_slot s o.sent =
      of_slot_append s o.sent (map (in_slot (slot_number e.slot)) u.sent) ∙ ap (λ l. of_slot s o.sent ++ l) nothing-new ∙ append-nil (of_slot s o.sent) in
      λ i. record { members = (slot_is i).members; sent = sent_is i; made = (slot_is i).made }
