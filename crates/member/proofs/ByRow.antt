-- A message's row says its step: `on_message`, which counts JOIN and VOTE at one place, promises both. Assumes nothing.
use Rattle.std.proofs.Common.{◌≡◌, refl}
use Rattle.message.specs.declared.Body.{Body}
use Rattle.message.specs.declared.Body.TheVariants.{Start, Join, JoinVoted, Propose, Vote}
use Rattle.member_record.specs.declared.MemberState.{MemberState}
use Rattle.member.specs.Table.{delivers, sound_step}
use Rattle.member.specs.ByRow.{row_of, taking, by_row}

pub row_step : (m : MemberState) (g : Body) → by_row m g (row_of g) ≡ sound_step m (delivers g)
unfolding row_of taking sound_step
row_step m (Start r s) = refl
row_step m (Join r s) = refl
row_step m (JoinVoted r s q w) = refl
row_step m (Propose r s v) = refl
row_step m (Vote r s) = refl
