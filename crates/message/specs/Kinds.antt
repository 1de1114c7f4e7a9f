-- The kinds as the code has them, and numbers as kinds.
use Rattle.std.specs.Prelude.{◌≡◌, true, ℕ, Result, MatchResult}
use Rattle.numbers.specs.declared.Refusal.{Refusal}
use Rattle.numbers.specs.declared.Refusal.TheVariants.{MessageKind}
use Rattle.message.specs.declared.Kind.{Kind}
use Rattle.message.specs.declared.Kind.TheVariants.{Start, Join, Propose, Vote}
use Rattle.message.specs.Layout.{START_KIND, JOIN_KIND, PROPOSE_KIND, VOTE_KIND, no_kind}

-- the number of a kind
abbrev pub kind_number : Kind → ℕ
kind_number Start = START_KIND
kind_number Join = JOIN_KIND
kind_number Propose = PROPOSE_KIND
kind_number Vote = VOTE_KIND

-- a number read as a kind: it is the kind's, or refused as none of them
abbrev pub KindRead : ℕ → Result Kind Refusal → Type 0
KindRead k r = MatchResult r (λ x. k ≡ kind_number x) (λ e. (e ≡ MessageKind) × (no_kind k ≡ true))

-- a number shown as a kind: it is the kind's, and all that is none of the others is a VOTE
abbrev pub KindShown : Kind → ℕ → Type 0
KindShown Start k = k ≡ START_KIND
KindShown Join k = k ≡ JOIN_KIND
KindShown Propose k = k ≡ PROPOSE_KIND
KindShown Vote k = (k ≡ START_KIND → ⊥) × (k ≡ JOIN_KIND → ⊥) × (k ≡ PROPOSE_KIND → ⊥)
