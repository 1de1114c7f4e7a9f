-- The cases P1 to P12 of 01, "Cases from the rig", and the single statement about the list of them. The words of P12 have a 0 in front (02, ticket 6).
use Rattle.std.specs.Prelude.{◌≡◌, true, List, [], ◌∷◌, ◌++◌, map, ℕ}
use Prim.Native.String.{String}
use Rattle.ids.specs.Ranges.{no_slot}
use Rattle.tree_theory.specs.Machine.{Call, add, commit, Node, fresh, after, answers}
use Rattle.xdr.specs.Items.{integer, encoded}
use Rattle.message.specs.declared.Body.TheVariants.{Join}
use Rattle.message.specs.Answers.{Read, Got, Refused}
use Rattle.message.specs.Reading.{reading}

pub data Case : Type 0 where
  -- calls from fresh in a table of so many rows: their numbers, and round and status of each node left, in order of adding
  called : (label : String) (rows : ℕ) (calls : List Call) (given : List ℕ) (left : List (ℕ × ℕ)) → Case
  -- byte strings of XDR words: what each reads as
  spelled : (label : String) (words : List (List ℕ)) (given : List Read) → Case

abbrev p6 : List Call
p6 = add 1 5 0 ∷ add 3 6 0 ∷ add 2 5 1 ∷ []

unfoldable pub cases : List Case
cases =
    called "P1" 64 (add 1 5 0 ∷ []) (0 ∷ []) ((0, 3) ∷ (1, 1) ∷ []) ∷
    called "P2" 64 (add 1 5 0 ∷ add 1 5 0 ∷ []) (0 ∷ 4 ∷ []) ((0, 3) ∷ (1, 1) ∷ []) ∷
    called "P3" 64 (add 1 5 1 ∷ []) (5 ∷ []) ((0, 3) ∷ []) ∷
    called "P4" 64 (add 3 5 0 ∷ add 2 5 3 ∷ []) (0 ∷ 6 ∷ []) ((0, 3) ∷ (3, 1) ∷ []) ∷
    called "P5" 64 (add 1 5 0 ∷ add 2 6 1 ∷ []) (0 ∷ 7 ∷ []) ((0, 3) ∷ (1, 1) ∷ []) ∷
    called "P6" 64 p6 (0 ∷ 0 ∷ 0 ∷ []) ((0, 3) ∷ (1, 2) ∷ (3, 1) ∷ (2, 2) ∷ []) ∷
    called "P7" 64 (p6 ++ commit 3 ∷ add 4 5 2 ∷ add 5 6 3 ∷ []) (0 ∷ 0 ∷ 0 ∷ 0 ∷ 8 ∷ 0 ∷ []) ((0, 3) ∷ (1, 2) ∷ (3, 3) ∷ (2, 2) ∷ (5, 1) ∷ []) ∷
    called "P8" 64 (add 1 5 0 ∷ commit 1 ∷ add 3 5 1 ∷ commit 3 ∷ add 2 6 0 ∷ []) (0 ∷ 0 ∷ 0 ∷ 0 ∷ 8 ∷ []) ((0, 3) ∷ (1, 3) ∷ (3, 3) ∷ []) ∷
    called "P9" 64 (commit 0 ∷ commit 1 ∷ []) (3 ∷ 10 ∷ []) ((0, 3) ∷ []) ∷
    called "P10" 1 (add 1 5 0 ∷ []) (9 ∷ []) ((0, 3) ∷ []) ∷
    called "P11" 64 (add 1000000 0 0 ∷ add 1000001 0 0 ∷ []) (0 ∷ 3 ∷ []) ((0, 3) ∷ (1000000, 1) ∷ []) ∷
    spelled "P12" ((0 ∷ 2 ∷ 5 ∷ 0 ∷ []) ∷ (0 ∷ 2 ∷ 5 ∷ 0 ∷ 0 ∷ []) ∷ [])
    (Refused 14 ∷ Got (record { slot = record { 0 = 0 }; body = Join (record { 0 = 5 }) (record { 0 = 0 }) }) ∷ []) ∷ []

abbrev pub round_and_status : Node → ℕ × ℕ
round_and_status n = (n.round, n.status)

-- the bytes of words
abbrev pub bytes_of_words : List ℕ → List ℕ
bytes_of_words ws = encoded (map integer ws)

-- a case is as 01 says
abbrev pub Meets : Case → Type 0
Meets (called label rows calls given left) =
    ◌≡◌ {A = List ℕ × List (ℕ × ℕ)} (answers true rows fresh calls, map round_and_status (after true rows fresh calls)) (given, left)
Meets (spelled label words given) = map (λ ws. reading no_slot (bytes_of_words ws)) words ≡ given

-- and so is each case of a list
abbrev pub AllMet : List Case → Type 0
AllMet [] = Unit {0}
AllMet (c ∷ cs) = Meets c × AllMet cs
