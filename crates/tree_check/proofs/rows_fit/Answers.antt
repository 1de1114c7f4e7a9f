-- `tree_check::rows_fit`: the root's row, one row more, and a row that doesn't fit.
use Rattle.std.proofs.Common.{arith, sym, ap, not}
use Rattle.tree_check.proofs.Fits.{fits_root, unfit_root, fits_more, unfit_row}
use Rattle.tree_check.proofs.rows_fit.Goals as goal

pub returns-then-not-root_fits : goal.returns-then-not-root_fits
returns-then-not-root_fits c =
    sym (unfit_root c.args.valued c.args.t.now c.args.n c.requires.0 c.root_fits.ensures (ap not c.if-not-root_fits.true))

pub loop-i-init : goal.loop-i-init
loop-i-init c = fits_root c.requires.0 c.root_fits.ensures (ap not c.if-not-root_fits.false)

pub returns-then-not-row_fits : goal.returns-then-not-row_fits
returns-then-not-row_fits c =
    sym (unfit_row c.loop-i.invariant (omega arith) c.row_fits.ensures (ap not c.if-not-row_fits.true))

pub loop-i-preserved : goal.loop-i-preserved
loop-i-preserved c = fits_more c.loop-i.invariant (omega arith) c.row_fits.ensures (ap not c.if-not-row_fits.false)
