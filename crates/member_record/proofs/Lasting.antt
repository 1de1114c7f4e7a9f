-- Records of what must last are the same exactly if none of J, V, W and L differs. Assumes nothing.
use mathlib.Core.Path.{◌≡◌, refl}
use mathlib.Core.Bool.{true, false, ◌&&◌}
use Prim.Native.Nat.{ℕ}
use lib.Dec.{eqb}
use borrow.Author.Tests.{not-false, eqb-true, eq-eqb}
use Rattle.laws.specs.Tests.{and_left, and_right}
use Rattle.member_record.specs.declared.Durable.{Durable}
use Rattle.member_record.specs.Record.{round_number, changes_durable}

pub durable_same : (d e : Durable) → changes_durable d e ≡ false → d ≡ e
durable_same d e h =
    let vote = eqb d.vote e.vote && eqb d.led.0 e.led.0 in
    let voted = eqb d.voted.0 e.voted.0 && vote in
    let a : (eqb d.joined.0 e.joined.0 && voted) ≡ true = not-false (eqb d.joined.0 e.joined.0 && voted) h in
    let b : voted ≡ true = and_right (eqb d.joined.0 e.joined.0) voted a in
    let c : vote ≡ true = and_right (eqb d.voted.0 e.voted.0) vote b in
    same
    (eqb-true d.joined.0 e.joined.0 (and_left (eqb d.joined.0 e.joined.0) voted a))
    (eqb-true d.voted.0 e.voted.0 (and_left (eqb d.voted.0 e.voted.0) vote b))
    (eqb-true d.vote e.vote (and_left (eqb d.vote e.vote) (eqb d.led.0 e.led.0) c))
    (eqb-true d.led.0 e.led.0 (and_right (eqb d.vote e.vote) (eqb d.led.0 e.led.0) c))
  where
    of : (j v w l : ℕ) → Durable
    of j v w l = record { joined = round_number j; voted = round_number v; vote = w; led = round_number l }

    same : d.joined.0 ≡ e.joined.0 → d.voted.0 ≡ e.voted.0 → d.vote ≡ e.vote → d.led.0 ≡ e.led.0 → d ≡ e
    same j v w l =
        let q : of d.joined.0 d.voted.0 d.vote d.led.0 ≡ of e.joined.0 e.voted.0 e.vote e.led.0 = rw (j, v, w, l) refl in
        q

pub changed_not : (d : Durable) → changes_durable d d ≡ false
changed_not d =
    rw (
      eq-eqb d.joined.0 d.joined.0 refl,
      eq-eqb d.voted.0 d.voted.0 refl,
      eq-eqb d.vote d.vote refl,
      eq-eqb d.led.0 d.led.0 refl,
    )
