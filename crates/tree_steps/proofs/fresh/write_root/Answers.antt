-- `tree_steps::fresh::write_root`: of words that are all zero, the root's status makes a fresh table.
use Rattle.std.proofs.Common.{arith, ◌≡◌, ◌∙◌, ap, ℕ, suc, ◌-◌, ◌≤◌, set, replicate}
use Rattle.tree_theory.specs.Machine.{COMMITTED, fresh}
use Rattle.tree_theory.specs.Table.{words, table}
use Rattle.tree_steps.proofs.fresh.write_root.Goals as goal

root_put : (n : ℕ) → 4 ≤ n → set (replicate n 0) 3 COMMITTED ≡ table n fresh
unfolding words table
root_put n h =
    let e : n ≡ suc (suc (suc (suc (n - 4)))) = omega arith in
    ap (λ k. set (replicate k 0) 3 COMMITTED) e

pub returns : goal.returns
returns c = c.set_status.ensures ∙ ap (λ l. set l 3 COMMITTED) c.requires.1 ∙ root_put _ c.requires.0
