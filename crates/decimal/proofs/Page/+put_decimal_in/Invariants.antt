-- `decimal::Page::put_decimal_in`, by recursion to the number without its last digit: the measure is the number.
use Rattle.decimal.proofs.Page.+put_decimal_in.Given as goal

abbrev pub decreases-put_decimal_in : goal.decreases-put_decimal_in
decreases-put_decimal_in l = l.n
