-- `tree_steps::commit::check_commit`: each test stands for one cause of the machine, in its order.
use Rattle.std.proofs.Common.{arith, ◌≡◌, ◌∙◌, refl, sym, ap, true, false, not, List, [], ◌∷◌, ℕ, eqb}
use borrow.Author.Tests.{eq-eqb, ne_eqb}
use Rattle.ids.specs.Ranges.{out_of_range}
use Rattle.numbers.specs.Numbers.{IS_COMMITTED, IS_GHOST}
use Rattle.laws.specs.First.{first, ◌gives◌}
use Rattle.tree_theory.specs.Machine.{Node, GHOST, COMMITTED, causes, answer, commit}
use Rattle.tree_theory.specs.Table.{row, rows, rows_of}
use Rattle.std.specs.Prelude.{Some}
use Rattle.tree_table.specs.Rows.{row_place}
use Rattle.tree_table.proofs.Rows.{place_none, place_there, place_within, place_row}
use Rattle.tree_steps.proofs.Planning.{beyond, within}
use Rattle.tree_steps.proofs.commit.check_commit.Goals as goal

-- once the round is known to be present, only the status read is left
present_there : (ws : List ℕ) (r : ℕ) {k s : ℕ} → Some k ≡ row_place r (rows_of ws (rows ws)) → out_of_range r ≡ false →
    s ≡ (row ws k).status →
    answer true (rows ws) (rows_of ws (rows ws)) (commit r) ≡ first (eqb s COMMITTED gives IS_COMMITTED ∷ eqb s GHOST gives IS_GHOST ∷ [])
unfolding answer causes
present_there ws r e ranged es =
    rw (ranged, place_there ws (rows ws) r e, ap (λ (n : Node). n.status) (place_row ws (rows ws) r e), ← es) refl

pub returns-then-not-in_range-clause-number : goal.returns-then-not-in_range-clause-number
unfolding answer causes
returns-then-not-in_range-clause-number c = rw (beyond c.args.r.0 c.in_range.ensures (ap not c.if-not-in_range.true)) refl

pub returns-in_default-clause-number : goal.returns-in_default-clause-number
unfolding answer causes
returns-in_default-clause-number c =
    let ranged = within c.args.r.0 c.in_range.ensures (ap not c.if-not-in_range.false) in
    rw (ranged, place_none c.args.r.0 (rows_of c.args.t.now (rows c.args.t.now)) (sym c.in_default.is ∙ c.find_row.ensures)) refl

pub returns-then-s-eq-COMMITTED-clause-number : goal.returns-then-s-eq-COMMITTED-clause-number
returns-then-s-eq-COMMITTED-clause-number c =
    let ranged = within c.args.r.0 c.in_range.ensures (ap not c.if-not-in_range.false) in
    sym (present_there c.args.t.now _ (sym c.in-Some.is ∙ c.find_row.ensures) ranged c.status_at-s.ensures ∙ rw (eq-eqb _ _ c.if-s-eq-COMMITTED.true) refl)

pub returns-then-s-eq-GHOST-clause-number : goal.returns-then-s-eq-GHOST-clause-number
returns-then-s-eq-GHOST-clause-number c =
    let ranged = within c.args.r.0 c.in_range.ensures (ap not c.if-not-in_range.false) in
    sym (present_there c.args.t.now _ (sym c.in-Some.is ∙ c.find_row.ensures) ranged c.status_at-s.ensures ∙
    rw (ne_eqb _ _ c.if-s-eq-COMMITTED.false, eq-eqb _ _ c.if-s-eq-GHOST.true) refl)

pub returns-clause-number : goal.returns-clause-number
returns-clause-number c =
    let ranged = within c.args.r.0 c.in_range.ensures (ap not c.if-not-in_range.false) in
    sym (present_there c.args.t.now _ (sym c.in-Some.is ∙ c.find_row.ensures) ranged c.status_at-s.ensures ∙
    rw (ne_eqb _ _ c.if-s-eq-COMMITTED.false, ne_eqb _ _ c.if-s-eq-GHOST.false) refl)

pub status_at-s-requires : goal.status_at-s-requires
status_at-s-requires c =
    let ws = c.args.t.now in
    omega (arith, place_within ws (rows ws) c.args.r.0 (sym c.in-Some.is ∙ c.find_row.ensures))
