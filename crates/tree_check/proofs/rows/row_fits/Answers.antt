-- `tree_check::rows::row_fits`: each test stands for one part of `fits`.
use Rattle.std.proofs.Common.{arith, ◌≡◌, ◌∙◌, refl, sym, ap, true, false, Bool, ◌&&◌, not, eqb, List, ℕ, ◌<◌, ◌≤◌}
use borrow.Author.Tests.{ltb-true, lt-ltb, le-ltb}
use Rattle.tree_theory.specs.Machine.{present, other_value}
use Rattle.tree_theory.specs.Table.{row, rows_of}
use Rattle.tree_theory.specs.Check.{round_fits, parent_fits, value_fits, status_fits, fits}
use Rattle.std.specs.Prelude.{Option, Some, None}
use Rattle.tree_table.specs.Rows.{row_index, row_place}
use Rattle.tree_table.proofs.Rows.{index_there, place_none, place_there, place_row}
use Rattle.tree_check.proofs.rows.row_fits.Goals as goal

-- a row that a search of the first n finds is one of these
index_within : (ws : List ℕ) (n r : ℕ) → present r (rows_of ws n) ≡ true → row_index r (rows_of ws n) < n
index_within ws n r h = ltb-true _ n (index_there ws n r refl ∙ h)

-- row i of n used rows, whose round fits
module _ (valued : Bool) (ws : List ℕ) (n i : ℕ) {b : Bool} (eb : b ≡ round_fits (rows_of ws i) (row ws i)) where
  abbrev whole : Bool
  whole = fits valued (rows_of ws i) (rows_of ws n) (row ws i)

  -- its value and its status fit: what is left to test once its round and its parent do
  abbrev rest : Bool
  rest = value_fits valued (rows_of ws i) (row ws i) && status_fits (rows_of ws n) (row ws i)

  unranged : b ≡ false → whole ≡ false
  unfolding fits
  unranged t = rw (sym eb ∙ t) refl

  -- once the round is known to fit, the parent and the rest decide
  ranged : b ≡ true → whole ≡ (parent_fits (rows_of ws i) (row ws i) && rest)
  unfolding fits
  ranged t = rw (sym eb ∙ t) refl

  -- p is the row's parent
  module _ (t : b ≡ true) {p : ℕ} (ep : p ≡ (row ws i).parent) where
    sought : {o : Option ℕ} → o ≡ row_place p (rows_of ws i) → o ≡ row_place (row ws i).parent (rows_of ws i)
    sought e = e ∙ ap (λ q. row_place q (rows_of ws i)) ep

    -- no earlier row has it
    gone : None ≡ row_place p (rows_of ws i) → whole ≡ false
    gone e = ranged t ∙ rw (place_none (row ws i).parent (rows_of ws i) (sought e)) refl

    -- row k is the first that has it
    module _ {k : ℕ} (ek : Some k ≡ row_place p (rows_of ws i)) where
      not_below : (row ws i).round ≤ p → whole ≡ false
      not_below l = ranged t ∙ rw (place_there ws i _ (sought ek), le-ltb (row ws i).parent (row ws i).round (omega arith)) refl

      -- once the parent is known to fit, the rest decides
      lower : p < (row ws i).round → whole ≡ rest
      lower l = ranged t ∙ rw (place_there ws i _ (sought ek), lt-ltb (row ws i).parent (row ws i).round (omega arith)) refl

      -- what a comparison of values with the parent's row says
      compared : {v w : ℕ} → v ≡ (row ws i).value → w ≡ (row ws k).value → {d : Bool} → d ≡ (valued && (not (eqb p 0) && not (eqb v w))) →
          d ≡ (valued && other_value (rows_of ws i) (row ws i).value (row ws i).parent)
      compared ev ew ed = rw (place_row ws i _ (sought ek), ← ep, ← ev, ← ew) ed

pub returns-then-not-round_fits : goal.returns-then-not-round_fits
returns-then-not-round_fits c =
    sym (unranged c.args.valued c.args.t.now c.args.n c.args.i c.round_fits.ensures c.if-not-round_fits.true)

-- that an arm has the search's answer is found, whatever stands between the two
pub returns-in_default : goal.returns-in_default
returns-in_default c =
    let absent : None ≡ row_place c.parent_at-p.result (rows_of c.args.t.now c.args.i) = grind arith in
    sym (gone c.args.valued c.args.t.now c.args.n c.args.i c.round_fits.ensures c.if-not-round_fits.false c.parent_at-p.ensures absent)

-- whichever row is read, i or the one that was found
pub round_at-requires : goal.round_at-requires
round_at-requires c = grind (arith, index_within c.args.t.now c.args.i c.parent_at-p.result)

pub value_at-requires-2 : goal.value_at-requires-2
value_at-requires-2 c = grind (arith, index_within c.args.t.now c.args.i c.parent_at-p.result)

pub returns-then-round_at-p : goal.returns-then-round_at-p
returns-then-round_at-p c =
    let found : Some c.in-Some.k ≡ row_place c.parent_at-p.result (rows_of c.args.t.now c.args.i) = grind arith in
    sym (not_below c.args.valued c.args.t.now c.args.n c.args.i c.round_fits.ensures c.if-not-round_fits.false
    c.parent_at-p.ensures found (omega (arith, c.if-round_at-p.true)))

pub returns-then-other_value : goal.returns-then-other_value
returns-then-other_value c =
    let a = c.args in
    let found : Some c.in-Some.k ≡ row_place c.parent_at-p.result (rows_of c.args.t.now c.args.i) = grind arith in
    let same = compared a.valued a.t.now a.n a.i c.round_fits.ensures c.if-not-round_fits.false c.parent_at-p.ensures found
    c.value_at.ensures c.value_at-2.ensures c.other_value.ensures in
    sym (lower a.valued a.t.now a.n a.i c.round_fits.ensures c.if-not-round_fits.false c.parent_at-p.ensures found
    (omega (arith, c.if-round_at-p.false)) ∙ rw (← same, c.if-other_value.true) refl)

pub returns : goal.returns
returns c =
    let a = c.args in
    let found : Some c.in-Some.k ≡ row_place c.parent_at-p.result (rows_of c.args.t.now c.args.i) = grind arith in
    let same = compared a.valued a.t.now a.n a.i c.round_fits.ensures c.if-not-round_fits.false c.parent_at-p.ensures found
    c.value_at.ensures c.value_at-2.ensures c.other_value.ensures in
    c.status_fits.ensures ∙
    sym (lower a.valued a.t.now a.n a.i c.round_fits.ensures c.if-not-round_fits.false c.parent_at-p.ensures found
    (omega (arith, c.if-round_at-p.false)) ∙ rw (← same, c.if-other_value.false) refl)
