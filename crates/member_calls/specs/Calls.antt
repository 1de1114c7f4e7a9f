-- What the member calls come to (01, "Members"; 02, ticket 6): the rows "record, then buffer" and "message" of the place table in front of the member
-- table's step.
use Rattle.std.specs.Prelude.{not, List, [], ◌∷◌, ◌++◌, ℕ, length}
use Rattle.laws.specs.First.{Cause, ◌gives◌}
use Rattle.ids.specs.declared.Round.{Round}
use Rattle.ids.specs.declared.Member.{Member}
use Rattle.ids.specs.declared.Slot.{Slot}
use Rattle.numbers.specs.Numbers.{RECORD_UNSOUND, REPLY_TOO_SHORT}
use Rattle.message.specs.Reading.{decoded_body, other_slot, message_row}
use Rattle.message.specs.Writing.{short_buffer}
use Rattle.member_record.specs.declared.MemberState.{MemberState}
use Rattle.member_record.specs.Record.{fresh_record, sound, sound_who}
use Rattle.member.specs.Table.{Outcome, unless, silent, starts, delivers, sound_step}

-- 17 not sound; 18 a reply buffer of n bytes has no room for the longest message
abbrev pub record_row : MemberState → ℕ → List Cause
record_row m n = not (sound m) gives RECORD_UNSOUND ∷ short_buffer n gives REPLY_TOO_SHORT ∷ []

-- a call with this reply buffer: that row, then further causes; else the step
abbrev pub call_outcome : MemberState → List ℕ → List Cause → Outcome → Outcome
call_outcome m old cs o = unless (record_row m (length old) ++ cs) m o

-- start(r, offer): the round and start rows are the step's own
unfoldable pub start_call : MemberState → Round → ℕ → List ℕ → Outcome
start_call m r offer old = call_outcome m old [] (sound_step m (starts r offer))

-- bytes delivered: the message row, which refuses every slot but the record's own, and the deliver row is the step's own
unfoldable pub deliver_call : MemberState → List ℕ → List ℕ → Outcome
deliver_call m s old = call_outcome m old (message_row (other_slot m.who.slot) s) (sound_step m (delivers (decoded_body s)))

-- fresh: 17 slot, number or N, and the record stays
unfoldable pub fresh_call : MemberState → Slot → Member → ℕ → Outcome
fresh_call m slot me n = unless (not (sound_who slot me n) gives RECORD_UNSOUND ∷ []) m (silent (fresh_record slot me n))
