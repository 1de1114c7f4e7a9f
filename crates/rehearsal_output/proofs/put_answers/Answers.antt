-- `rehearsal_output::put_answers` meets its contract: after i turns the first i answers are put. Assumes nothing.
use Rattle.std.proofs.Common.{arith, rules, ◌+◌, refl, ◌*◌, length, nat_eq}
use Rattle.rehearsal_output.specs.Output.{spaced}
use Rattle.rehearsal_output.specs.Promise.{ROOM_FOR_ANSWER}
use Rattle.rehearsal_output.proofs.Lines.{in_line_8, within_none, within_room, number_more, line_done}
use Rattle.rehearsal_output.proofs.put_answers.Goals as goal

pub loop-i-init : goal.loop-i-init
unfolding spaced
loop-i-init c = record { put = within_none _ _; same_buffer = refl }

pub put_in_line-requires : goal.put_in_line-requires
put_in_line-requires c =
    let i = c.loop-i.i in
    omega (
      arith,
      c.requires,
      in_line_8 (nat_eq i 0) c.from.result (omega (arith, c.from.ensures, c.type_inv.answered i)),
      within_room (ROOM_FOR_ANSWER * i) ROOM_FOR_ANSWER c.loop-i.invariant.put (omega (arith, c.requires)),
    )

pub loop-i-preserved : goal.loop-i-preserved
loop-i-preserved c =
    let i = c.loop-i.i in
    let short = in_line_8 (nat_eq i 0) c.from.result (omega (arith, c.from.ensures, c.type_inv.answered i)) in
    record {
      put =
          number_more c.args.answered.now i c.from.result (ROOM_FOR_ANSWER * i) ROOM_FOR_ANSWER (ROOM_FOR_ANSWER * (i + 1)) c.loop-i.invariant.put c.loop-i-test.true
          c.from.ensures short c.put_in_line.ensures.text (omega (arith, c.requires)) (omega arith);
      same_buffer = search rules;
    }

pub returns-clause-text : goal.returns-clause-text
returns-clause-text c =
    let l = c.args.answered.now in
    line_done l c.loop-i.i (ROOM_FOR_ANSWER * c.loop-i.i) (ROOM_FOR_ANSWER * length l) c.loop-i.invariant.put (omega arith) c.end_line.ensures.text (omega arith) c.requires
