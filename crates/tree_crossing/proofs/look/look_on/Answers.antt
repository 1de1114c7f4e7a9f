-- `tree_crossing::look::look_on`: the row is not below r, not above p, or crossed, and then struck or not.
use Rattle.std.proofs.Common.{arith}
use Rattle.tree_crossing.proofs.Looking.{LookedTo, strikes_few, look_beyond, look_before, look_struck, look_unstruck}
use Rattle.tree_crossing.proofs.look.look_on.Goals as goal

pub returns-then-r-round : goal.returns-then-r-round
returns-then-r-round c =
    let L : LookedTo c.args.t.now c.args.r c.args.p c.args.l = record { is = c.requires.1 } in
    look_beyond L c.round_at-round.ensures c.find_row_more-parent.ensures c.if-r-round.true

pub returns-then-round-p : goal.returns-then-round-p
returns-then-round-p c =
    let L : LookedTo c.args.t.now c.args.r c.args.p c.args.l = record { is = c.requires.1 } in
    look_before L c.round_at-round.ensures c.find_row_more-parent.ensures c.if-r-round.false c.if-round-p.true

pub overflow_add-result-then-status-eq-ADDED-2 : goal.overflow_add-result-then-status-eq-ADDED-2
overflow_add-result-then-status-eq-ADDED-2 c =
    let L : LookedTo c.args.t.now c.args.r c.args.p c.args.l = record { is = c.requires.1 } in
    omega (arith, strikes_few L)

pub returns-then-status-eq-ADDED : goal.returns-then-status-eq-ADDED
returns-then-status-eq-ADDED c =
    let L : LookedTo c.args.t.now c.args.r c.args.p c.args.l = record { is = c.requires.1 } in
    look_struck L c.round_at-round.ensures c.find_row_more-parent.ensures c.if-r-round.false c.if-round-p.false
    c.status_at-status.ensures c.if-status-eq-ADDED.true

pub returns : goal.returns
returns c =
    let L : LookedTo c.args.t.now c.args.r c.args.p c.args.l = record { is = c.requires.1 } in
    look_unstruck L c.round_at-round.ensures c.find_row_more-parent.ensures c.if-r-round.false c.if-round-p.false
    c.status_at-status.ensures c.if-status-eq-ADDED.false
