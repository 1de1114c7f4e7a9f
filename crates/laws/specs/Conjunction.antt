-- Four tests joined by `&&`, read apart.
use Rattle.std.specs.Prelude.{◌≡◌, refl, Bool, true, false, ◌&&◌}
use Rattle.laws.specs.Tests.{clash}

pub and_four : (a b c d : Bool) → (a && (b && (c && d))) ≡ true → (a ≡ true) × (b ≡ true) × (c ≡ true) × (d ≡ true)
and_four true true true true h = (refl, refl, refl, refl)
and_four true true true false h = clash h refl
and_four true true false d h = clash h refl
and_four true false c d h = clash h refl
and_four false b c d h = clash h refl
