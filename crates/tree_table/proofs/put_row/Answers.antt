-- `tree_table::put_row`: four stores in a row are the four words in place of what stood there.
use Rattle.std.proofs.Common.{◌≡◌, ◌∙◌, [], ◌∷◌, suc, ◌+◌, ◌*◌, take, drop, append_assoc, arith}
use lib.Seq.{sets-eq}
use Rattle.tree_table.proofs.put_row.Goals as goal

pub returns : goal.returns
returns c =
    let a = c.args in
    let ws = a.t.now in
    let e1 : 4 * a.i + 1 ≡ suc (4 * a.i) = omega arith in
    let e2 : 4 * a.i + 2 ≡ suc (suc (4 * a.i)) = omega arith in
    let e3 : 4 * a.i + 3 ≡ suc (suc (suc (4 * a.i))) = omega arith in
    let put = a.r ∷ a.p ∷ a.v ∷ a.s ∷ [] in
    rw (e1, e2, e3) (sets-eq put ws (4 * a.i) c.requires ∙ append_assoc (take (4 * a.i) ws) put (drop (4 * a.i + 4) ws))
