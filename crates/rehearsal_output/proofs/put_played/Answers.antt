-- `rehearsal_output::put_played` meets its contract: what play leaves is what is printed. Assumes nothing.
use Rattle.std.proofs.Common.{arith, rules, ap, refl, ◌∙◌}
use Rattle.numbers.proofs.Refusals.{refusal_not_ok}
use Rattle.play_events.specs.declared.ListHead.{ListHead}
use Rattle.play_run.proofs.Running.{list_parts}
use Rattle.play.proofs.Giving.{taken_passed}
use Rattle.rehearsal_output.proofs.Playing.{as_printed, refused_output, taken_output}
use Rattle.rehearsal_output.proofs.put_played.Goals as goal

pub returns-in-Err : goal.returns-in-Err
returns-in-Err c =
    as_printed {held = c.put_refusal.new.page.out.now} (rw (refused_output c.args.list.now c.requires c.in-Err.ensures (refusal_not_ok c.in-Err.refusal)) c.put_refusal.ensures.text) (search rules)

pub read_head-count-requires : goal.read_head-count-requires
read_head-count-requires c = (list_parts (taken_passed c.in_default.ensures refl).fits).head

pub put_taken-requires : goal.put_taken-requires
put_taken-requires c =
    let R = c.requires in
    let P = taken_passed c.in_default.ensures refl in
    let count_is = ap (λ (h : ListHead). h.count) c.read_head-count.ensures in
    record {
      few = omega (arith, count_is, (list_parts P.fits).few);
      said = omega (arith, count_is, P.room, c.play.auto.answered);
      words = c.play.auto.nodes ∙ R.tables_length;
      room = R.room;
    }

pub returns : goal.returns
returns c =
    let count_is = ap (λ (h : ListHead). h.count) c.read_head-count.ensures in
    as_printed {held = c.put_taken.new.page.out.now} (rw (taken_output c.args.list.now c.requires c.in_default.ensures refl) (rw count_is at c.put_taken.ensures.text)) (search rules)
