-- `tree_check::zeros_from`: the words read are all from the place on.
use Rattle.std.proofs.Common.{◌∙◌}
use Rattle.tree_check.proofs.Zeros.{zeros_all}
use Rattle.tree_check.proofs.zeros_from.Goals as goal

pub returns : goal.returns
returns c = c.all_zero.ensures ∙ (zeros_all c.args.t.now c.args.from c.requires)
