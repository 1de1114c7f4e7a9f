-- What the numbers of refusals are.
use Rattle.std.proofs.Common.{◌≡◌, ◌∙◌, ◌<◌, sym, refl, true, false, eqb, ltb, ap}
use borrow.Author.Tests.{ltb-true}
use Rattle.numbers.specs.declared.Refusal.{Refusal}
use Rattle.numbers.specs.declared.Refusal.TheVariants.{TableLength, NotATree, RoundRange, RoundPresent, ParentAbsent, ParentNotBelow, ValueDiffers, CrossesCommitted, NoFreeRow, RoundAbsent, IsCommitted, IsGhost, PathTooLong, MessageLength, MessageKind, MessageField}
use Rattle.numbers.specs.declared.Refusal.TheVariants.{RecordUnsound, ReplyTooShort, NotLeader, NotAboveLed, WrongSender, MovedPast, AnotherValue, NotAwaited, CountedAlready, ListShape, OfficeSize, StoreOrAnswers, NoMemberOrMessage, StoreFull, LengthsDiffer, WrongSlot}
use Rattle.numbers.specs.Numbers.{OK, refusal_number}

-- none is 0
not_zero : (e : Refusal) → eqb (refusal_number e) OK ≡ false
not_zero TableLength = refl
not_zero NotATree = refl
not_zero RoundRange = refl
not_zero RoundPresent = refl
not_zero ParentAbsent = refl
not_zero ParentNotBelow = refl
not_zero ValueDiffers = refl
not_zero CrossesCommitted = refl
not_zero NoFreeRow = refl
not_zero RoundAbsent = refl
not_zero IsCommitted = refl
not_zero IsGhost = refl
not_zero PathTooLong = refl
not_zero MessageLength = refl
not_zero MessageKind = refl
not_zero MessageField = refl
not_zero RecordUnsound = refl
not_zero ReplyTooShort = refl
not_zero NotLeader = refl
not_zero NotAboveLed = refl
not_zero WrongSender = refl
not_zero MovedPast = refl
not_zero AnotherValue = refl
not_zero NotAwaited = refl
not_zero CountedAlready = refl
not_zero ListShape = refl
not_zero OfficeSize = refl
not_zero StoreOrAnswers = refl
not_zero NoMemberOrMessage = refl
not_zero StoreFull = refl
not_zero LengthsDiffer = refl
not_zero WrongSlot = refl

pub refusal_not_ok : (e : Refusal) → refusal_number e ≡ OK → ⊥
refusal_not_ok e h = let t : eqb OK OK ≡ false = ap (λ n. eqb n OK) (sym h) ∙ not_zero e in cc

-- a byte holds each
within_byte : (e : Refusal) → ltb (refusal_number e) 256 ≡ true
within_byte TableLength = refl
within_byte NotATree = refl
within_byte RoundRange = refl
within_byte RoundPresent = refl
within_byte ParentAbsent = refl
within_byte ParentNotBelow = refl
within_byte ValueDiffers = refl
within_byte CrossesCommitted = refl
within_byte NoFreeRow = refl
within_byte RoundAbsent = refl
within_byte IsCommitted = refl
within_byte IsGhost = refl
within_byte PathTooLong = refl
within_byte MessageLength = refl
within_byte MessageKind = refl
within_byte MessageField = refl
within_byte RecordUnsound = refl
within_byte ReplyTooShort = refl
within_byte NotLeader = refl
within_byte NotAboveLed = refl
within_byte WrongSender = refl
within_byte MovedPast = refl
within_byte AnotherValue = refl
within_byte NotAwaited = refl
within_byte CountedAlready = refl
within_byte ListShape = refl
within_byte OfficeSize = refl
within_byte StoreOrAnswers = refl
within_byte NoMemberOrMessage = refl
within_byte StoreFull = refl
within_byte LengthsDiffer = refl
within_byte WrongSlot = refl

pub refusal_byte : (e : Refusal) → refusal_number e < 256
refusal_byte e = ltb-true (refusal_number e) 256 (within_byte e)
