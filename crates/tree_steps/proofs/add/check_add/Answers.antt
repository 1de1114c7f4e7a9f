-- `tree_steps::add::check_add`: each test stands for one cause of the machine, in its order. What the tests left behind is a lemma for each place.
use Rattle.std.proofs.Common.{◌≡◌, ◌∙◌, refl, sym, ap, true, false, ◌&&◌, not, eqb, List, [], ◌∷◌, Bool, ℕ, ◌<◌, length, leb}
use borrow.Author.Tests.{le-leb, lt-leb}
use Rattle.ids.specs.Ranges.{out_of_range}
use Rattle.numbers.specs.Numbers.{PARENT_ABSENT, PARENT_NOT_BELOW, VALUE_DIFFERS, CROSSES_COMMITTED, NO_FREE_ROW, no_row_left}
use Rattle.laws.specs.Lists.{any}
use Rattle.laws.specs.First.{Cause, first, ◌gives◌}
use Rattle.std.specs.Prelude.{Some, None}
use Rattle.tree_theory.specs.Machine.{other_value, blocks, causes, answer, add}
use Rattle.tree_theory.specs.Table.{row, rows, nodes}
use Rattle.tree_theory.proofs.Words.{length_rows}
use Rattle.tree_crossing.specs.declared.look.Look.{Look}
use Rattle.tree_crossing.proofs.Looking.{LookedAt, used_is, present_is, blocked_is}
use Rattle.tree_crossing.proofs.Looking.{parent_present, parent_missing, parent_node, parent_row_fits}
use Rattle.tree_steps.proofs.Planning.{beyond, within, not_above, not_below}
use Rattle.tree_steps.proofs.add.check_add.Goals as goal

-- what the rows said, and that the round is in range and not present
module _ (valued : Bool) (ws : List ℕ) {l : Look} {r p : ℕ} (v : ℕ) (L : LookedAt ws r p l)
    (ranged : out_of_range r ≡ false) (new : l.present ≡ false) where
  abbrev answered : ℕ
  answered = answer valued (rows ws) (nodes ws) (add r v p)

  -- the last causes
  abbrev from_full : List Cause
  from_full = no_row_left (rows ws) (length (nodes ws)) gives NO_FREE_ROW ∷ []

  abbrev from_blocked : List Cause
  from_blocked = any (blocks r p) (nodes ws) gives CROSSES_COMMITTED ∷ from_full

  abbrev from_value : List Cause
  from_value = (valued && other_value (nodes ws) v p) gives VALUE_DIFFERS ∷ from_blocked

  abbrev from_below : List Cause
  from_below = leb r p gives PARENT_NOT_BELOW ∷ from_value

  parent_gone : l.parent ≡ None → answered ≡ PARENT_ABSENT
  unfolding answer causes
  parent_gone t = rw (ranged, sym (present_is L) ∙ new, parent_missing L t) refl

  -- once the parent is known to be present, the answer is the first of the last four causes
  module _ {k : ℕ} (there : l.parent ≡ Some k) where
    parent_there : answered ≡ first from_below
    unfolding answer causes
    parent_there = rw (ranged, sym (present_is L) ∙ new, parent_present L there) refl

    -- once the parent is known to be lower, that of the last three
    lower : p < r → answered ≡ first from_value
    lower t = parent_there ∙ rw (lt-leb r p t) refl

    -- what a comparison of values with the parent's row says
    module _ {b : Bool} {w : ℕ} (ew : w ≡ (row ws k).value) (eb : b ≡ (valued && (not (eqb p 0) && not (eqb v w)))) where
      valued_by : b ≡ (valued && other_value (nodes ws) v p)
      valued_by = rw (parent_node L there, ← ew) eb

      other : p < r → b ≡ true → answered ≡ VALUE_DIFFERS
      other t s = lower t ∙ rw (sym valued_by ∙ s) refl

      -- once the value is known to be the parent's, that of the last two
      same_value : p < r → b ≡ false → answered ≡ first from_blocked
      same_value t s = lower t ∙ rw (sym valued_by ∙ s) refl

      crossing : p < r → b ≡ false → l.blocked ≡ true → answered ≡ CROSSES_COMMITTED
      crossing t s x = same_value t s ∙ rw (sym (blocked_is L) ∙ x) refl

      -- no cause but the last
      last : p < r → b ≡ false → l.blocked ≡ false → {full : Bool} → full ≡ no_row_left (rows ws) l.used →
          answered ≡ first (full gives NO_FREE_ROW ∷ [])
      last t s x f =
          let n : length (nodes ws) ≡ l.used = length_rows _ _ ∙ sym (used_is L) in
          same_value t s ∙ rw (sym (blocked_is L) ∙ x, n, ← f) refl

pub returns-then-not-in_range : goal.returns-then-not-in_range
unfolding answer causes
returns-then-not-in_range c = rw (beyond c.args.r.0 c.in_range.ensures (ap not c.if-not-in_range.true)) refl

pub returns-then-l : goal.returns-then-l
unfolding answer causes
returns-then-l c =
    let L : LookedAt c.args.t.now c.args.r.0 c.args.p.0 c.args.l = record { is = c.requires } in
    rw (within c.args.r.0 c.in_range.ensures (ap not c.if-not-in_range.false), sym (present_is L) ∙ c.if-l.true) refl

pub returns-in_default : goal.returns-in_default
returns-in_default c =
    let L : LookedAt c.args.t.now c.args.r.0 c.args.p.0 c.args.l = record { is = c.requires } in
    let ranged = within c.args.r.0 c.in_range.ensures (ap not c.if-not-in_range.false) in
    sym (parent_gone c.args.valued _ c.args.v L ranged c.if-l.false c.in_default.is)

pub returns-then-le : goal.returns-then-le
returns-then-le c =
    let L : LookedAt c.args.t.now c.args.r.0 c.args.p.0 c.args.l = record { is = c.requires } in
    let ranged = within c.args.r.0 c.in_range.ensures (ap not c.if-not-in_range.false) in
    let not_lower = not_above c.args.r.0 c.args.p.0 c.le.ensures c.if-le.true in
    sym (parent_there c.args.valued _ c.args.v L ranged c.if-l.false c.in-Some.is ∙ rw (le-leb _ _ not_lower) refl)

pub value_at-requires : goal.value_at-requires
value_at-requires c =
    let L : LookedAt c.args.t.now c.args.r.0 c.args.p.0 c.args.l = record { is = c.requires } in
    parent_row_fits L c.in-Some.is

pub returns-then-other_value : goal.returns-then-other_value
returns-then-other_value c =
    let L : LookedAt c.args.t.now c.args.r.0 c.args.p.0 c.args.l = record { is = c.requires } in
    let ranged = within c.args.r.0 c.in_range.ensures (ap not c.if-not-in_range.false) in
    sym (other c.args.valued _ c.args.v L ranged c.if-l.false c.in-Some.is c.value_at.ensures c.other_value.ensures
    (not_below c.args.r.0 c.args.p.0 c.le.ensures c.if-le.false) c.if-other_value.true)

pub returns-then-l-2 : goal.returns-then-l-2
returns-then-l-2 c =
    let L : LookedAt c.args.t.now c.args.r.0 c.args.p.0 c.args.l = record { is = c.requires } in
    let ranged = within c.args.r.0 c.in_range.ensures (ap not c.if-not-in_range.false) in
    sym (crossing c.args.valued _ c.args.v L ranged c.if-l.false c.in-Some.is c.value_at.ensures c.other_value.ensures
    (not_below c.args.r.0 c.args.p.0 c.le.ensures c.if-le.false) c.if-other_value.false c.if-l-2.true)

pub returns-then-no_row_left : goal.returns-then-no_row_left
returns-then-no_row_left c =
    let L : LookedAt c.args.t.now c.args.r.0 c.args.p.0 c.args.l = record { is = c.requires } in
    let ranged = within c.args.r.0 c.in_range.ensures (ap not c.if-not-in_range.false) in
    sym (last c.args.valued _ c.args.v L ranged c.if-l.false c.in-Some.is c.value_at.ensures c.other_value.ensures
    (not_below c.args.r.0 c.args.p.0 c.le.ensures c.if-le.false) c.if-other_value.false c.if-l-2.false c.no_row_left.ensures ∙ rw c.if-no_row_left.true refl)

pub returns : goal.returns
returns c =
    let L : LookedAt c.args.t.now c.args.r.0 c.args.p.0 c.args.l = record { is = c.requires } in
    let ranged = within c.args.r.0 c.in_range.ensures (ap not c.if-not-in_range.false) in
    sym (last c.args.valued _ c.args.v L ranged c.if-l.false c.in-Some.is c.value_at.ensures c.other_value.ensures
    (not_below c.args.r.0 c.args.p.0 c.le.ensures c.if-le.false) c.if-other_value.false c.if-l-2.false c.no_row_left.ensures ∙ rw c.if-no_row_left.false refl)
