-- `tree::fresh`: 1, or what `write_fresh` left.
use Rattle.std.proofs.Common.{◌≡◌, ◌∙◌, refl, sym, true, false}
use Rattle.tree_theory.specs.Table.{sized, fresh_number, fresh_table}
use Rattle.tree_theory.proofs.Steps.{fresh_written}
use Rattle.tree.proofs.fresh.Goals as goal

pub returns-then-not-has_table_length : goal.returns-then-not-has_table_length
unfolding fresh_number fresh_table
returns-then-not-has_table_length c =
    let e : sized c.args.t.now ≡ false = sym c.has_table_length.ensures ∙ c.if-not-has_table_length.true in
    record { number = rw e refl; left = rw e refl }

pub returns : goal.returns
unfolding fresh_number
returns c =
    let e : sized c.args.t.now ≡ true = sym c.has_table_length.ensures ∙ c.if-not-has_table_length.false in
    record { number = rw e refl; left = c.write_fresh.ensures ∙ sym (fresh_written _ e) }
