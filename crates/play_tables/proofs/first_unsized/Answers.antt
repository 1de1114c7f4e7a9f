-- `play_tables::first_unsized`: the first slot is the first of those from s on.
use Rattle.std.proofs.Common.{◌≡◌, refl, sym, ap, ◌∙◌, ◌+◌, ◌-◌, arith}
use borrow.Author.Tests.{lt-ltb}
use Rattle.ids.specs.Ranges.{SLOTS}
use Rattle.play_tables.specs.Tables.{unsized_from, first_unsized}
use Rattle.play_tables.proofs.Sizes.{unsized_go, unsized_stop}
use Rattle.play_tables.proofs.first_unsized.Goals as goal

pub returns-then-not-is_table_length : goal.returns-then-not-is_table_length
returns-then-not-is_table_length c =
    let l = c.loop-s in
    let ls = c.args.lengths.now in
    let e : first_unsized ls ≡ l.s =
    l.invariant ∙ unsized_stop ls (SLOTS - l.s) l.s (omega arith) (sym c.is_table_length.ensures ∙ c.if-not-is_table_length.true) in
    rw (e, lt-ltb l.s SLOTS (omega arith)) refl

pub loop-s-preserved : goal.loop-s-preserved
loop-s-preserved c =
    let l = c.loop-s in
    let ls = c.args.lengths.now in
    let fewer : SLOTS - l.s - 1 ≡ SLOTS - (l.s + 1) = omega arith in
    let go = unsized_go ls (SLOTS - l.s) l.s (omega arith) (sym c.is_table_length.ensures ∙ c.if-not-is_table_length.false) in
    l.invariant ∙ go ∙ ap (λ k. unsized_from ls k (l.s + 1)) fewer

pub returns : goal.returns
unfolding unsized_from
returns c =
    let l = c.loop-s in
    let s : l.s ≡ SLOTS = omega arith in
    let e : first_unsized c.args.lengths.now ≡ SLOTS = l.invariant ∙ rw s refl in
    rw e refl
