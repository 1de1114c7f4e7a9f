-- `decimal::Page::put_decimal_in`: blanks and a digit, or the column of the other digits and the last.
use Rattle.std.proofs.Common.{arith}
use Rattle.decimal.proofs.Columns.{one_rest, more_rest}
use Rattle.decimal.proofs.Page.+put_decimal_in.Goals as goal

pub returns-then-n-lt10-clause-text : goal.returns-then-n-lt10-clause-text
returns-then-n-lt10-clause-text t c =
    one_rest c.args.width c.args.n c.saturating_sub-rest.ensures c.requires (omega arith) c.put_blanks.ensures.text c.put_digit.ensures.text

pub returns-clause-text : goal.returns-clause-text
returns-clause-text t c =
    more_rest c.args.width c.args.n c.saturating_sub-rest.ensures c.requires (omega arith) c.put_decimal_in.ensures.text c.put_digit-2.ensures.text
