-- 01's rehearsal prints 01's four lines, then the roots of the seven other slots. By computation. Assumes nothing.
use mathlib.Core.Path.{◌≡◌, refl}
use mathlib.Core.List.{◌++◌}
use Rattle.quorum.specs.Count.{some}
use Rattle.xdr.specs.Words.{word, hyper, word_at, hyper_at}
use Rattle.decimal.specs.Digits.{decimal}
use Rattle.tree_theory.specs.Machine.{struck, new_node, find, path_in, commit_node}
use Rattle.tree_theory.specs.Machine.{after as after-calls}
use Rattle.model.specs.Model.{first_office, office_after, event_answers}
use Rattle.model.specs.Demand.{calls}
use Rattle.play_events.specs.List.{list_fits, events_of}
use Rattle.rehearsal_output.specs.Output.{rehearsal_output}
use Rattle.rehearsal_output.specs.Rehearsal.{rehearsal_list, answers_line, root_line, first_line, second_line, seven_roots}

pub four_lines : rehearsal_output rehearsal_list ≡ answers_line ++ root_line ++ first_line ++ second_line ++ seven_roots
unfolding rehearsal_output rehearsal_list word hyper word_at hyper_at decimal list_fits events_of event_answers office_after first_office calls after-calls some
    struck new_node find path_in commit_node
four_lines = refl
