-- `tree_steps::path::path_into`: the measure is the round, since a parent's is lower.
use Rattle.tree_steps.proofs.path.+path_into.Given as goal

abbrev pub decreases-path_into : goal.decreases-path_into
decreases-path_into l = l.r
