-- START in the member table, by J and V, and START repeated (02, Ticket 2).
use Rattle.std.specs.Prelude.{◌≡◌, true, ◌<◌}
use Rattle.ids.specs.declared.Round.{Round}
use Rattle.ids.specs.declared.Member.{Member}
use Rattle.numbers.specs.Numbers.{OK, MOVED_PAST}
use Rattle.message.specs.declared.Body.TheVariants.{Start}
use Rattle.message.specs.Fields.{in_range}
use Rattle.member_record.specs.declared.MemberState.{MemberState}
use Rattle.member_record.specs.Record.{leads, sound}
use Rattle.member_rules.specs.Changes.{joining, join_of}
use Rattle.member.specs.Table.{Outcome, sends, refused, delivers, member_step}

-- START r from s, delivered to m
abbrev pub started : MemberState → Round → Member → Outcome
started m r s = member_step m (delivers (Start r s))

pub record StartCases (m : MemberState) (r : Round) (s : Member) : Type 0 where
  -- J < r: J = r; sends JOIN
  pub joins : m.durable.joined.0 < r.0 → started m r s ≡ sends (joining m r) (join_of m.who.me m.durable r)
  -- J = r and V < r: accepted, changes nothing, and sends the same JOIN
  pub again : m.durable.joined.0 ≡ r.0 → m.durable.voted.0 < r.0 → started m r s ≡ sends m (join_of m.who.me m.durable r)
  -- J = r with V = r: 22
  pub voted : m.durable.joined.0 ≡ r.0 → m.durable.voted.0 ≡ r.0 → started m r s ≡ refused MOVED_PAST m
  -- J > r: 22
  pub past : r.0 < m.durable.joined.0 → started m r s ≡ refused MOVED_PAST m

-- the record is sound, START within its ranges and from the leader of r
abbrev pub StartByCases : MemberState → Round → Member → Type 0
StartByCases m r s = sound m ≡ true → in_range (Start r s) ≡ true → leads m.who.n s r ≡ true → StartCases m r s

-- a START that was accepted comes to the same number, record and JOIN when it is delivered again, whatever the record
abbrev pub StartRepeats : MemberState → Round → Member → Type 0
StartRepeats m r s = (started m r s).number ≡ OK → started (started m r s).state r s ≡ started m r s
