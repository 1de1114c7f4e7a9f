-- A list of events taken in two parts, and the last event of a list: for work event after event. Assumes nothing.
use mathlib.Core.Path.{◌≡◌, refl, ap}
use mathlib.Core.Bool.{false, cond}
use mathlib.Core.List.{List, [], ◌∷◌, ◌++◌}
use Prim.Native.Nat.{suc}
use lib.ListN.{length}
use lib.Dec.{eqb}
use borrow.Author.Tests.{eq-eqb}
use Rattle.numbers.specs.Numbers.{OK}
use Rattle.model.specs.Model.{Sizes, Event, Office, event_answer, taken, next, office_after, event_answers}
use Rattle.model.specs.Counts.{zeros, accepted_events}

module _ (z : Sizes) where
  pub next_taken : (o : Office) (e : Event) → event_answer z o e ≡ OK → next z o e ≡ taken z o e
  unfolding next
  next_taken o e h = rw (eq-eqb (event_answer z o e) OK h) refl

  pub next_refused : (o : Office) (e : Event) → eqb (event_answer z o e) OK ≡ false → next z o e ≡ o
  unfolding next
  next_refused o e h = rw h refl

  pub office_after_append : (o : Office) (es fs : List Event) → office_after z o (es ++ fs) ≡ office_after z (office_after z o es) fs
  unfolding office_after
  office_after_append o [] fs = refl
  office_after_append o (e ∷ es) fs = office_after_append (next z o e) es fs

  pub after_last : (o : Office) (es : List Event) (e : Event) → office_after z o (es ++ e ∷ []) ≡ next z (office_after z o es) e
  unfolding office_after
  after_last o es e = office_after_append o es (e ∷ [])

  pub answers_append : (o : Office) (es fs : List Event) → event_answers z o (es ++ fs) ≡ event_answers z o es ++ event_answers z (office_after z o es) fs
  unfolding event_answers office_after
  answers_append o [] fs = refl
  answers_append o (e ∷ es) fs = ap (λ l. event_answer z o e ∷ l) (answers_append (next z o e) es fs)

  pub answers_last : (o : Office) (es : List Event) (e : Event) →
      event_answers z o (es ++ e ∷ []) ≡ event_answers z o es ++ event_answer z (office_after z o es) e ∷ []
  unfolding event_answers
  answers_last o es e = answers_append o es (e ∷ [])

  -- one answer for each event
  pub length_answers : (o : Office) (es : List Event) → length (event_answers z o es) ≡ length es
  unfolding event_answers
  length_answers o [] = refl
  length_answers o (e ∷ es) = ap suc (length_answers (next z o e) es)

  -- accepted events are the zeros among the answers
  pub accepted_zeros : (o : Office) (es : List Event) → accepted_events z o es ≡ zeros (event_answers z o es)
  unfolding accepted_events event_answers
  accepted_zeros o [] = refl
  accepted_zeros o (e ∷ es) = ap (λ k. cond (eqb (event_answer z o e) OK) (suc k) k) (accepted_zeros (next z o e) es)
