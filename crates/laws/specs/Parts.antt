-- Parts of a list: from a place to the end, and parts that are written over, one behind another.
use Rattle.std.specs.Prelude.{◌≡◌, List, ◌++◌, ℕ, ◌+◌, ◌-◌, ◌≤◌, length, take, drop}
use Rattle.std.proofs.Common.{append_assoc, arith, length-append, length-drop, length-take-le, take_at, drop_at, drop-drop, take_all}

module _ {ℓ} {A : Type ℓ} where
  -- the part from a place to the end is what is left behind the place
  pub to_end : (at : ℕ) (l : List A) → take (length l - at) (drop at l) ≡ drop at l
  to_end at l = take_all (length l - at) (drop at l) (rw (length-drop at l) (omega arith))

  -- what is written over a part and then over the part behind it is written over both
  pub written_on : (l u w : List A) (at mid end : ℕ) → at + length u ≡ mid → mid + length w ≡ end → end ≤ length l →
      take mid (take at l ++ u ++ drop mid l) ++ w ++ drop end (take at l ++ u ++ drop mid l) ≡ take at l ++ (u ++ w) ++ drop end l
  written_on l u w at mid end p q h =
      let head = take at l ++ u in
      let size : length head ≡ mid = rw (length-append (take at l) u, length-take-le at l (omega arith)) p in
      rw (
        take_at head (drop mid l) mid size,
        ← q,
        ← drop-drop (length w) mid (head ++ drop mid l),
        drop_at head (drop mid l) mid size,
        drop-drop (length w) mid l,
        append_assoc (take at l) u w,
      )

  -- what is written over a part leaves the list as long as it was
  pub written_length : (l u : List A) (at end : ℕ) → at + length u ≡ end → end ≤ length l → length (take at l ++ u ++ drop end l) ≡ length l
  written_length l u at end p h =
      rw (length-append (take at l ++ u) (drop end l), length-append (take at l) u, length-take-le at l (omega arith), length-drop end l) (omega arith)
