-- `tree_crossing::strike_if`: where no row is crossed, none has to be struck.
use Rattle.tree_crossing.proofs.Striking.{struck_none}
use Rattle.tree_crossing.proofs.strike_if.Goals as goal

pub returns : goal.returns
returns c =
    let a = c.args in
    struck_none a.r a.p a.t.now a.n c.requires.0 c.requires.1 c.if-strikes-gt0.false
