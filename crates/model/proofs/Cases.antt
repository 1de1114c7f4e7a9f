-- P1 to P12 hold, by computation. Assumes nothing.
use mathlib.Core.Path.{refl}
use Rattle.tree_theory.specs.Machine.{after, answers, causes, answer, change, step, find, path_in, struck, new_node, commit_node}
use Rattle.xdr.specs.Words.{word, word_at}
use Rattle.xdr.specs.Items.{encoded}
use Rattle.message.specs.Reading.{size, decoded_body, decoded, reading}
use Rattle.model.specs.Cases.{cases, AllMet}

pub rig : AllMet cases
unfolding cases answers after step answer causes change find path_in struck new_node commit_node reading size decoded_body decoded encoded word word_at
rig =
    (refl, (refl, (refl, (refl, (refl, (refl, (refl, (refl, (refl, (refl, (refl, (refl, tt))))))))))))
