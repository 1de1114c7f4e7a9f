-- The default record of numbers is zeros.
use Rattle.std.proofs.Common.{rules, ◌≡◌, ◌∙◌}
use Rattle.member_fields.specs.Fields.{no_fields}
use Rattle.exports_member.proofs.MemberResults.{same_result}
use Rattle.exports_member.proofs.kalebasin_member_fresh.Goals as goal

pub returns : goal.returns
returns c =
    let zeros : c.default-f.result ≡ no_fields = search rules in
    let from = rw zeros at c.from.ensures in
    let told = rw from at c.fresh_into-c.ensures in
    (rw zeros at c.result.ensures) ∙ same_result no_fields c.fresh_into-c.result _ told
