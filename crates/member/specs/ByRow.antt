-- The row of the member table of 01, "Members", by which the code handles a message: JOIN and VOTE are one, each counted in its phase.
use Rattle.std.specs.Prelude.{ℕ}
use Rattle.ids.specs.declared.Round.{Round}
use Rattle.ids.specs.declared.Member.{Member}
use Rattle.message.specs.declared.Body.{Body}
use Rattle.message.specs.declared.Body.TheVariants.{Start, Join, JoinVoted, Propose, Vote}
use Rattle.member_record.specs.declared.MemberState.{MemberState}
use Rattle.member_record.specs.Phases.{COLLECTING, PROPOSED}
use Rattle.member_rules.specs.Causes.{START_causes, count_causes, PROPOSE_causes}
use Rattle.member_rules.specs.Changes.{adopting}
use Rattle.member.specs.Table.{Outcome, unless, START_row, count_row, PROPOSE_row}

-- the row by which a message is handled
pub data MessageRow : Type 0 where
  StartRow : Round → Member → MessageRow
  CountRow : ℕ → Round → Member → MessageRow
  ProposeRow : Round → Member → ℕ → MessageRow

-- the row of a message
unfoldable pub row_of : Body → MessageRow
row_of (Start r s) = StartRow r s
row_of (Join r s) = CountRow COLLECTING r s
row_of (JoinVoted r s q w) = CountRow COLLECTING r s
row_of (Propose r s v) = ProposeRow r s v
row_of (Vote r s) = CountRow PROPOSED r s

-- the record in which a message is counted: with the vote that a JOIN carries
unfoldable pub taking : MemberState → Body → MemberState
unfolding adopting
taking m (Start r s) = m
taking m (Join r s) = m
taking m (JoinVoted r s q w) = adopting m q w
taking m (Propose r s v) = m
taking m (Vote r s) = m

-- the step of a sound record at the message g, whose row this is
abbrev pub by_row : MemberState → Body → MessageRow → Outcome
by_row m g (StartRow r s) = unless (START_causes m r s) m (START_row m r)
by_row m g (CountRow phase r s) = unless (count_causes phase m r s) m (count_row phase (taking m g) r s)
by_row m g (ProposeRow r s v) = unless (PROPOSE_causes m r s v) m (PROPOSE_row m r v)
