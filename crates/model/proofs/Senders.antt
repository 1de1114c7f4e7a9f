-- What every step of a member leaves as it was, whatever the record and the event: its slot, its own number and N. What it sends, one message at
-- most, has its own number as sender. Row by row. Assumes nothing.
use mathlib.Core.Path.{◌≡◌, refl, ap}
use mathlib.Core.Bool.{Bool, true, false, cond}
use mathlib.Core.List.Memᴰ
use mathlib.Core.List.{[], ◌∷◌}
use Prim.Native.Nat.{ℕ, ◌≤◌}
use native.Mathlib.Omega.{arith}
use lib.ListN.{length}
use lib.Dec.{ltb, eqb}
use Rattle.laws.specs.Lists.{◌∈◌}
use Rattle.laws.specs.First.{first}
use Rattle.ids.specs.declared.Round.{Round}
use Rattle.ids.specs.declared.Member.{Member}
use Rattle.numbers.specs.Numbers.{OK}
use Rattle.message.specs.declared.Body.{Body}
use Rattle.message.specs.declared.Body.TheVariants.{Start, Join, JoinVoted, Propose, Vote}
use Rattle.member_record.specs.declared.Who.{Who}
use Rattle.member_record.specs.declared.Durable.{Durable}
use Rattle.member_record.specs.declared.MemberState.{MemberState}
use Rattle.member_rules.specs.Changes.{counting, adopting, adopted, join_of}
use Rattle.member.specs.Table.{Outcome, refused, silent, complete, proposes, decides, MemberEvent, starts, delivers, step_causes, step_row, unfit, sound_step}
use Rattle.member.specs.Table.{member_step}

abbrev pub sender : Body → ℕ
sender (Start r s) = s.0
sender (Join r s) = s.0
sender (JoinVoted r s q w) = s.0
sender (Propose r s v) = s.0
sender (Vote r s) = s.0

-- an outcome of member m
pub record Own (m : MemberState) (u : Outcome) : Type 0 where
  pub who : u.state.who ≡ m.who
  pub from : (g : Body) → g ∈ u.sent → sender g ≡ m.who.me.0
  pub one : length u.sent ≤ 1

either : (m : MemberState) (b : Bool) (u v : Outcome) → Own m u → Own m v → Own m (cond b u v)
either m true u v p q = p
either m false u v p q = q

own_refused : (m : MemberState) (k : ℕ) → Own m (refused k m)
own_refused m k = record { who = refl; from = λ g i. elim i [ ]; one = omega arith }

-- what holds of the one message sent
pub only : (P : Body → Type 0) (x : Body) → P x → (g : Body) → g ∈ x ∷ [] → P g
only P x h g i = rw (Memᴰ.eq_of_singleton i) h

own_join_of : (me : Member) (d : Durable) (r : Round) → sender (join_of me d r) ≡ me.0
own_join_of me d r = pick (ltb 0 d.voted.0)
  where
    pick : (b : Bool) → sender (cond b (JoinVoted r me d.voted d.vote) (Join r me)) ≡ me.0
    pick true = refl
    pick false = refl

own_counted : (m k : MemberState) (s : Member) (full : Outcome) → k.who ≡ m.who → Own m full
    → Own m (cond (complete (counting k s)) full (silent (counting k s)))
own_counted m k s full p f =
    either m (complete (counting k s)) full (silent (counting k s)) f (record { who = p; from = λ g i. elim i [ ]; one = omega arith })

own_JOIN : (m k : MemberState) (r : Round) (s : Member) → k.who ≡ m.who →
    Own m (cond (complete (counting k s)) (proposes (counting k s) r) (silent (counting k s)))
own_JOIN m k r s p =
    own_counted m k s (proposes (counting k s) r) p
    (record { who = p; from = only (λ g. sender g ≡ m.who.me.0) (Propose r k.who.me k.lead.value) (ap (λ (w : Who). w.me.0) p); one = omega arith })

own_adopting : (m : MemberState) (b : Bool) (q : Round) (w : ℕ) → (cond b (adopted m q w) m).who ≡ m.who
own_adopting m true q w = refl
own_adopting m false q w = refl

pub own_row : (m : MemberState) (e : MemberEvent) → Own m (step_row m e)
unfolding step_row
own_row m (starts r offer) = record { who = refl; from = only (λ g. sender g ≡ m.who.me.0) (Start r m.who.me) refl; one = omega arith }
own_row m (delivers (Start r s)) = record
    { who = refl; from = only (λ g. sender g ≡ m.who.me.0) (join_of m.who.me m.durable r) (own_join_of m.who.me m.durable r); one = omega arith }
own_row m (delivers (Join r s)) = own_JOIN m m r s refl
own_row m (delivers (JoinVoted r s q w)) =
    own_JOIN m (adopting m q w) r s (own_adopting m (ltb m.lead.source.0 q.0) q w)
own_row m (delivers (Propose r s v)) = record
    { who = refl; from = only (λ g. sender g ≡ m.who.me.0) (Vote r m.who.me) refl; one = omega arith }
own_row m (delivers (Vote r s)) =
    own_counted m m s (decides (counting m s) r) refl (record { who = refl; from = λ g i. elim i [ ]; one = omega arith })

pub own_step : (m : MemberState) (e : MemberEvent) → Own m (member_step m e)
unfolding member_step
own_step m e =
    either m (eqb (first (unfit m e)) OK) (sound_step m e) (refused (first (unfit m e)) m)
    (either m (eqb (first (step_causes m e)) OK) (step_row m e) (refused (first (step_causes m e)) m) (own_row m e) (own_refused m (first (step_causes m e))))
    (own_refused m (first (unfit m e)))
