-- `tree_table::find_row_more`: the place stays, or it is that of the row, or of none.
use Rattle.std.proofs.Common.{sym, ◌∙◌}
use Rattle.tree_table.proofs.Rows.{place_kept, place_last, place_past}
use Rattle.tree_table.proofs.find_row_more.Goals as goal

pub returns-then-is_some : goal.returns-then-is_some
returns-then-is_some c = place_kept c.args.t.now c.args.i c.args.r c.requires.1 (sym c.is_some.ensures ∙ c.if-is_some.true)

pub returns-then-round_at-r : goal.returns-then-round_at-r
returns-then-round_at-r c =
    place_last c.args.t.now c.args.i c.args.r c.requires.1 (sym c.is_some.ensures ∙ c.if-is_some.false) (sym c.round_at.ensures ∙ c.if-round_at-r.true)

pub returns : goal.returns
returns c =
    place_past c.args.t.now c.args.i c.args.r c.requires.1 (sym c.is_some.ensures ∙ c.if-is_some.false)
    (λ q. c.if-round_at-r.false (c.round_at.ensures ∙ q))
