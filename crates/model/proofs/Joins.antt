-- The JOINs of one member of a slot for one round are equal, however often START was repeated, after any list of events: part of what holds of each member.
-- Assumes nothing.
use mathlib.Core.Path.{◌≡◌, sym, ◌∙◌}
use mathlib.Core.Bool.{true}
use mathlib.Core.List.{List}
use Prim.Native.Nat.{◌<◌}
use Rattle.laws.specs.Lists.{◌∈◌}
use Rattle.ids.specs.Ranges.{SLOTS}
use Rattle.member_record.specs.Record.{allowed}
use Rattle.model.specs.Model.{Sizes, Event}
use Rattle.model.specs.Demand.{ended}
use Rattle.model.specs.Joins.{SameJoins}
use Rattle.model.proofs.View.{view, seen_in}
use Rattle.model.proofs.Kept.{ended_kept}
use Rattle.model.proofs.Grows.{join_sender}
use Rattle.model.proofs.Events.{holds}

pub same_joins : (z : Sizes) (es : List Event) → allowed z.n ≡ true → SameJoins (ended z es).sent
same_joins z es ok s r m g h a b (p, j) (q, k) =
    let K = ended_kept z es ok in
    let low : s < SLOTS = rw p at (K.slots_sent g a) in
    let a' : g.body ∈ (view (ended z es) s).sent = seen_in s (ended z es).sent a p in
    let b' : h.body ∈ (view (ended z es) s).sent = seen_in s (ended z es).sent b q in
    let member : m < z.n = rw (join_sender r m g.body j) at ((K.views s low).senders g.body a') in
    let same : g.body ≡ h.body = ((holds z ok s low es).members m member).spoken.same r g.body h.body a' b' j k in
    let slots : g.slot.0 ≡ h.slot.0 = p ∙ sym q in
    λ n. record { slot = record { 0 = slots n }; body = same n }
