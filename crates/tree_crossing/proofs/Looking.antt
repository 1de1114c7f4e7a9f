-- One walk over the rows: how it goes on, where it ends, and what it says of the nodes. Assumes nothing.
use mathlib.Core.Path.{◌≡◌, refl, sym, ap, subst, ◌∙◌}
use mathlib.Core.Bool.{Bool, true, false, ◌||◌, or-false, and-false, and-true}
use mathlib.Core.List.{List}
use Prim.Native.Nat.{ℕ, ◌+◌, ◌-◌, ◌*◌, ◌≤◌, ◌<◌}
use native.Mathlib.Omega.{arith}
use lib.ListN.{length}
use lib.Dec.{ltb, eqb}
use borrow.Author.Tests.{le-ltb, lt-ltb, eq-eqb, ne_eqb}
use Rattle.laws.specs.Lists.{any, how_many, how_many_most}
use Rattle.tree_theory.specs.Machine.{Node, FREE, ADDED, COMMITTED, has_round, present, find, above, blocks, crosses, crossed_with}
use Rattle.tree_theory.specs.Table.{row, rows, rows_of, used_from, used, nodes}
use Rattle.tree_theory.proofs.Words.{length_rows, used_rows}
use Rattle.std.specs.Prelude.{Option, Some, None}
use Rattle.tree_table.specs.Rows.{row_place}
use Rattle.tree_table.proofs.Rows.{any_more, how_many_more, used_stop, used_go, used_end, place_none, place_there, place_within, place_row}
use Rattle.tree_crossing.specs.declared.look.Look.{Look}
use Rattle.tree_crossing.specs.Looked.{look_of}

-- the walk has come past the first used rows, as many as it says
pub record Walked (ws : List ℕ) (r p : ℕ) (l : Look) : Type 0 where
  pub is : l ≡ look_of r p (rows_of ws l.used)
  pub rest : used ws ≡ used_from ws (rows ws - l.used) l.used

pub walk_start : (ws : List ℕ) (r p : ℕ) → Walked ws r p (record { used = 0; present = false; parent = None; above = false; blocked = false; strikes = 0 })
unfolding rows_of
walk_start ws r p =
    let e : rows ws - 0 ≡ rows ws = omega arith in
    record { is = refl; rest = rw e refl }

module _ {ws : List ℕ} {r p : ℕ} {l : Look} (W : Walked ws r p l) where
  pub walk_counts : {m : Look} → m ≡ look_of r p (rows_of ws (l.used + 1)) → m.used ≡ l.used + 1
  walk_counts e = ap (λ (k : Look). k.used) e ∙ length_rows ws (l.used + 1)

  pub walk_more : {m : Look} → l.used < rows ws → ((row ws l.used).status ≡ FREE → ⊥) → m ≡ look_of r p (rows_of ws (l.used + 1)) → Walked ws r p m
  walk_more {m = m} h s e =
      let n : m.used ≡ l.used + 1 = walk_counts e in
      record {
        is = subst (λ k. m ≡ look_of r p (rows_of ws k)) (sym n) e;
        rest = subst (λ k. used ws ≡ used_from ws (rows ws - k) k) (sym n) (W.rest ∙ used_go ws (rows ws) l.used h s);
      }

  ended : used ws ≡ l.used → l ≡ look_of r p (nodes ws)
  ended e = subst (λ k. l ≡ look_of r p (rows_of ws k)) (sym e) W.is

  -- it ends at a free row, or behind the last
  pub walk_stop : (row ws l.used).status ≡ FREE → l ≡ look_of r p (nodes ws)
  walk_stop s = ended (W.rest ∙ used_stop ws (rows ws - l.used) l.used s)

  pub walk_end : rows ws ≤ l.used → l ≡ look_of r p (nodes ws)
  walk_end h = ended (W.rest ∙ used_end ws (rows ws) l.used h)

-- one row more: each part goes by the row, which is above r, at r, between p and r, or not above p
pub record LookedTo (ws : List ℕ) (r p : ℕ) (l : Look) : Type 0 where
  pub is : l ≡ look_of r p (rows_of ws l.used)

module _ {ws : List ℕ} {r p : ℕ} {l : Look} (L : LookedTo ws r p l) where
  abbrev more : Look
  more = look_of r p (rows_of ws (l.used + 1))

  -- a part that the row adds nothing to, and one that it does
  part : (P : Node → Bool) {b c : Bool} → b ≡ any P (rows_of ws l.used) → c ≡ P (row ws l.used) → (b || c) ≡ any P (rows_of ws (l.used + 1))
  part P eb ec = (λ j. eb j || ec j) ∙ sym (any_more P ws l.used)

  kept : (P : Node → Bool) {b : Bool} → b ≡ any P (rows_of ws l.used) → P (row ws l.used) ≡ false → b ≡ any P (rows_of ws (l.used + 1))
  kept P {b} eb off = sym (or-false b) ∙ part P eb (sym off)

  -- what was said so far
  was_present : l.present ≡ present r (rows_of ws l.used)
  was_present = ap (λ (k : Look). k.present) L.is

  was_above : l.above ≡ any (above r) (rows_of ws l.used)
  was_above = ap (λ (k : Look). k.above) L.is

  was_blocked : l.blocked ≡ any (blocks r p) (rows_of ws l.used)
  was_blocked = ap (λ (k : Look). k.blocked) L.is

  was_striking : l.strikes ≡ how_many (crossed_with ADDED r p) (rows_of ws l.used)
  was_striking = ap (λ (k : Look). k.strikes) L.is

  -- no more than the rows
  pub strikes_few : l.strikes ≤ l.used
  strikes_few = omega (arith, was_striking, how_many_most (crossed_with ADDED r p) (rows_of ws l.used), length_rows ws l.used)

  -- a row that is struck, and one that isn't
  struck_here : crossed_with ADDED r p (row ws l.used) ≡ true → l.strikes + 1 ≡ how_many (crossed_with ADDED r p) (rows_of ws (l.used + 1))
  struck_here on = omega (arith, was_striking, rw on at (how_many_more (crossed_with ADDED r p) ws l.used))

  not_struck : crossed_with ADDED r p (row ws l.used) ≡ false → l.strikes ≡ how_many (crossed_with ADDED r p) (rows_of ws (l.used + 1))
  not_struck off = omega (arith, was_striking, rw off at (how_many_more (crossed_with ADDED r p) ws l.used))

  -- not crossed, whatever its status
  uncrossed : crosses r p (row ws l.used).round ≡ false → (s : ℕ) → crossed_with s r p (row ws l.used) ≡ false
  uncrossed off s = rw off (and-false (eqb (row ws l.used).status s))

  module _ {round : ℕ} {parent : Option ℕ} (at : round ≡ (row ws l.used).round) (found : parent ≡ row_place p (rows_of ws (l.used + 1))) where
    count : l.used + 1 ≡ length (rows_of ws (l.used + 1))
    count = sym (length_rows ws (l.used + 1))

    pub look_beyond : r ≤ round →
        record {
          used = l.used + 1;
          present = l.present || eqb round r;
          parent = parent;
          above = l.above || ltb r round;
          blocked = l.blocked;
          strikes = l.strikes;
        } ≡ more
    look_beyond h =
        let off : crosses r p (row ws l.used).round ≡ false = rw (← at) (rw (le-ltb round r h) (and-false (ltb p round))) in
        let here = part (has_round r) was_present (ap (λ n. eqb n r) at) in
        let over = part (above r) was_above (ap (ltb r) at) in
        let block = kept (blocks r p) was_blocked (uncrossed off COMMITTED) in
        let strike = not_struck (uncrossed off ADDED) in
        λ j. record { used = count j; present = here j; parent = found j; above = over j; blocked = block j; strikes = strike j }

    -- a round below r
    module _ (below : round < r) where
      here : l.present ≡ present r (rows_of ws (l.used + 1))
      here = kept (has_round r) was_present (rw (← at) (ne_eqb round r (λ q. omega arith)))

      over : l.above ≡ any (above r) (rows_of ws (l.used + 1))
      over = kept (above r) was_above (rw (← at) (le-ltb r round (omega arith)))

      pub look_before : round ≤ p →
          record { used = l.used + 1; present = l.present; parent = parent; above = l.above; blocked = l.blocked; strikes = l.strikes } ≡ more
      look_before h =
          let off : crosses r p (row ws l.used).round ≡ false = rw (← at) (rw (le-ltb p round h) refl) in
          let block = kept (blocks r p) was_blocked (uncrossed off COMMITTED) in
          let strike = not_struck (uncrossed off ADDED) in
          λ j. record { used = count j; present = here j; parent = found j; above = over j; blocked = block j; strikes = strike j }

      -- a crossed one: its status says what it is to the edge
      module _ (h : p < round) {status : ℕ} (es : status ≡ (row ws l.used).status) where
        crossed : (s : ℕ) → eqb status s ≡ crossed_with s r p (row ws l.used)
        crossed s =
            let on : crosses r p (row ws l.used).round ≡ true = rw (← at) (rw (lt-ltb p round h, lt-ltb round r below) refl) in
            rw on (ap (λ n. eqb n s) es ∙ sym (and-true (eqb (row ws l.used).status s)))

        pub look_struck : status ≡ ADDED →
            record { used = l.used + 1; present = l.present; parent = parent; above = l.above; blocked = l.blocked; strikes = l.strikes + 1 } ≡ more
        look_struck s =
            let block = kept (blocks r p) was_blocked (sym (crossed COMMITTED) ∙ ap (λ n. eqb n COMMITTED) s) in
            let strike = struck_here (sym (crossed ADDED) ∙ eq-eqb status ADDED s) in
            λ j. record { used = count j; present = here j; parent = found j; above = over j; blocked = block j; strikes = strike j }

        pub look_unstruck : (status ≡ ADDED → ⊥) →
            record {
              used = l.used + 1;
              present = l.present;
              parent = parent;
              above = l.above;
              blocked = l.blocked || eqb status COMMITTED;
              strikes = l.strikes;
            } ≡ more
        look_unstruck s =
            let block = part (blocks r p) was_blocked (crossed COMMITTED) in
            let strike = not_struck (sym (crossed ADDED) ∙ ne_eqb status ADDED s) in
            λ j. record { used = count j; present = here j; parent = found j; above = over j; blocked = block j; strikes = strike j }

-- what it says of the nodes
pub record LookedAt (ws : List ℕ) (r p : ℕ) (l : Look) : Type 0 where
  pub is : l ≡ look_of r p (nodes ws)

module _ {ws : List ℕ} {r p : ℕ} {l : Look} (L : LookedAt ws r p l) where
  pub used_is : l.used ≡ used ws
  used_is = ap (λ (k : Look). k.used) L.is ∙ length_rows ws (used ws)

  pub present_is : l.present ≡ present r (nodes ws)
  present_is = ap (λ (k : Look). k.present) L.is

  parent_is : l.parent ≡ row_place p (nodes ws)
  parent_is = ap (λ (k : Look). k.parent) L.is

  pub above_is : l.above ≡ any (above r) (nodes ws)
  above_is = ap (λ (k : Look). k.above) L.is

  pub blocked_is : l.blocked ≡ any (blocks r p) (nodes ws)
  blocked_is = ap (λ (k : Look). k.blocked) L.is

  -- the rows before that of the new node are the used ones
  pub strikes_is : {n : ℕ} → n ≡ used ws → l.strikes ≡ how_many (crossed_with ADDED r p) (rows_of ws n)
  strikes_is e = ap (λ (k : Look). k.strikes) L.is ∙ ap (λ n. how_many (crossed_with ADDED r p) (rows_of ws n)) (sym e)

  pub parent_missing : l.parent ≡ None → present p (nodes ws) ≡ false
  parent_missing e = place_none p (nodes ws) (sym e ∙ parent_is)

  module _ {k : ℕ} (e : l.parent ≡ Some k) where
    pub parent_present : present p (nodes ws) ≡ true
    parent_present = place_there ws (used ws) p (sym e ∙ parent_is)

    pub parent_node : find p (nodes ws) ≡ row ws k
    parent_node = place_row ws (used ws) p (sym e ∙ parent_is)

    pub parent_row_fits : 4 * k + 4 ≤ length ws
    parent_row_fits = omega (arith, place_within ws (used ws) p (sym e ∙ parent_is), used_rows ws)
