-- The fields of a message as numbers.
use Rattle.std.specs.Prelude.{Bool, false, cond, ◌&&◌, ◌||◌, not, List, [], ◌∷◌, ℕ, ltb, eqb}
use Rattle.laws.specs.First.{Cause, ◌gives◌}
use Rattle.ids.specs.declared.Round.{Round}
use Rattle.ids.specs.declared.Member.{Member}
use Rattle.ids.specs.declared.Slot.{Slot}
use Rattle.ids.specs.Ranges.{no_slot}
use Rattle.numbers.specs.Numbers.{MESSAGE_KIND, MESSAGE_FIELD, WRONG_SLOT}
use Rattle.message.specs.declared.Body.{Body}
use Rattle.message.specs.declared.Body.TheVariants.{Start, Join, JoinVoted, Propose, Vote}
use Rattle.message.specs.declared.Message.{Message}
use Rattle.message.specs.Layout.{in_slot, START_KIND, JOIN_KIND, PROPOSE_KIND, no_kind}

-- what a message of fields says whose kind is 1 to 4
unfoldable pub body_of : ℕ → Round → Member → ℕ → Round → ℕ → Body
body_of k r s p q v =
    cond (eqb k START_KIND) (Start r s)
    (cond (eqb k JOIN_KIND) (cond (eqb p 1) (JoinVoted r s q v) (Join r s))
    (cond (eqb k PROPOSE_KIND) (Propose r s v) (Vote r s)))

-- and the message
unfoldable pub message_of : Slot → ℕ → Round → Member → ℕ → Round → ℕ → Message
unfolding body_of
message_of i k r s p q v = in_slot i (body_of k r s p q v)

-- a field that the kind doesn't have isn't 0
unfoldable pub spare_fields : ℕ → ℕ → ℕ → ℕ → Bool
spare_fields k p q v =
    cond (eqb k JOIN_KIND)
    (cond (eqb p 1) false (not (eqb q 0) || not (eqb v 0)))
    (not (eqb p 0) || (not (eqb q 0) || cond (eqb k PROPOSE_KIND) false (not (eqb v 0))))

-- the presence of a JOIN is neither 0 nor 1
abbrev pub no_presence : ℕ → ℕ → Bool
no_presence k p = eqb k JOIN_KIND && ltb 1 p

-- in the reader's order: 32 the slot isn't 0 to 7; 15 the kind isn't 1 to 4; 16 no presence; 16 a field too many
unfoldable pub fields_row : Slot → ℕ → ℕ → ℕ → ℕ → List Cause
fields_row i k p q v =
    no_slot i.0 gives WRONG_SLOT ∷
    no_kind k gives MESSAGE_KIND ∷
    no_presence k p gives MESSAGE_FIELD ∷
    spare_fields k p q v gives MESSAGE_FIELD ∷ []
