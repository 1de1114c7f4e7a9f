-- The part lent is as long as it tells.
use Rattle.std.proofs.Common.{sym, arith}
use Rattle.std.proofs.lemmas.List.{length-take-le}
use Rattle.message.proofs.Checks.{size_most}
use Rattle.message_reader.proofs.body_front.Goals as goal

pub slice_bounds-decode_body-end : goal.slice_bounds-decode_body-end
slice_bounds-decode_body-end c = sym (length-take-le _ c.args.s.now (omega (arith, size_most c.args.s.now)))
