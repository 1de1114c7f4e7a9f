-- Its number is the row's, and where that is 0 the message is put.
use Rattle.std.proofs.lemmas.Result.{err_from_is_err_and}
use Rattle.message_writer.proofs.Left.{refused_leaves, written_leaves}
use Rattle.message_writer.proofs.write_message.Goals as goal

pub returns-in_err-check_write : goal.returns-in_err-check_write
returns-in_err-check_write c =
    let (e, is, same) = err_from_is_err_and c.from_residual.result c.from_residual.ensures.1 in
    rw (is, same) (refused_leaves c.args.m c.args.buf.now _ c.in_err-check_write.ensures)

pub returns : goal.returns
returns c = written_leaves c.args.m c.args.buf.now c.in_ok-check_write.ensures c.put_message.ensures
