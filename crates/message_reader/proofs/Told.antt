-- What the two readers share: bytes that tell slot and kind read by whether their slot is refused. Assumes nothing.
use Rattle.std.proofs.Common.{◌≡◌, ℕ, ◌≤◌, List, length, Bool, sym, ap, ◌∙◌}
use Rattle.message.specs.Answers.{Read}
use Rattle.message.specs.Layout.{kind_end, slot_in}
use Rattle.message.specs.Reading.{told_reading, ReaderGives}
use Rattle.message.proofs.Checks.{told}
use Rattle.message.proofs.RoundTrip.{reader_gives}

pub told_gives : (wrong : ℕ → Bool) (s : List ℕ) (r : Read) (b : Bool) → kind_end ≤ length s → r ≡ told_reading b s → b ≡ wrong (slot_in s) →
    ReaderGives wrong s r
told_gives wrong s r b h e w = reader_gives wrong s r (e ∙ ap (λ (x : Bool). told_reading x s) w ∙ sym (told s wrong h))
