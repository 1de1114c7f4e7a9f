-- `rehearsal_output::put_line` meets its contract: after i turns the first i numbers are put. Assumes nothing.
use Rattle.std.proofs.Common.{arith, rules, ◌+◌, refl, ◌*◌, length, nat_eq, slice_index_or}
use Rattle.rehearsal_output.specs.Output.{spaced}
use Rattle.rehearsal_output.specs.Promise.{ROOM_FOR_NUMBER}
use Rattle.rehearsal_output.proofs.Lines.{in_line_64, within_none, within_room, number_more, line_done}
use Rattle.rehearsal_output.proofs.put_line.Goals as goal

pub loop-i-init : goal.loop-i-init
unfolding spaced
loop-i-init c = record { put = within_none _ _; same_buffer = refl }

pub put_in_line-requires : goal.put_in_line-requires
put_in_line-requires c =
    let i = c.loop-i.i in
    omega (
      arith,
      c.requires,
      in_line_64 (nat_eq i 0) (slice_index_or c.args.numbers.now i 0) (omega (arith, c.type_inv.numbers i)),
      within_room (ROOM_FOR_NUMBER * i) ROOM_FOR_NUMBER c.loop-i.invariant.put (omega (arith, c.requires)),
    )

pub loop-i-preserved : goal.loop-i-preserved
loop-i-preserved c =
    let i = c.loop-i.i in
    let n = slice_index_or c.args.numbers.now i 0 in
    let short = in_line_64 (nat_eq i 0) n (omega (arith, c.type_inv.numbers i)) in
    record {
      put =
          number_more c.args.numbers.now i n (ROOM_FOR_NUMBER * i) ROOM_FOR_NUMBER (ROOM_FOR_NUMBER * (i + 1)) c.loop-i.invariant.put c.loop-i-test.true refl short
          c.put_in_line.ensures.text (omega (arith, c.requires)) (omega arith);
      same_buffer = search rules;
    }

pub returns-clause-text : goal.returns-clause-text
returns-clause-text c =
    let l = c.args.numbers.now in
    line_done l c.loop-i.i (ROOM_FOR_NUMBER * c.loop-i.i) (ROOM_FOR_NUMBER * length l) c.loop-i.invariant.put (omega arith) c.end_line.ensures.text (omega arith) c.requires
