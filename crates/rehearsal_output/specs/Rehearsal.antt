-- 01's rehearsal ("Cases from the rig"), all in slot 0 (02, ticket 6): the list as bytes, the four lines of its output, and the roots of the other slots.
use Rattle.std.specs.Prelude.{List, [], ◌∷◌, ◌++◌, ℕ}
use Rattle.xdr.specs.Words.{word, hyper}
use Rattle.play_events.specs.List.{EVENT_START, EVENT_DELIVER}

-- s(member, round, offer) in slot 0
abbrev s : ℕ → ℕ → ℕ → List ℕ
s member round offer = word EVENT_START ++ word 0 ++ word member ++ word round ++ hyper offer

-- d(message, member) in slot 0
abbrev d : ℕ → ℕ → List ℕ
d message member = word EVENT_DELIVER ++ word 0 ++ word message ++ word member

-- N = 3, 15 events
unfoldable pub rehearsal_list : List ℕ
rehearsal_list =
    word 3 ++ word 15 ++
    s 1 1 70 ++ d 0 0 ++ d 0 1 ++ d 1 1 ++ d 1 1 ++ d 2 1 ++ d 3 0 ++ s 2 2 80 ++
    d 5 0 ++ d 5 2 ++ d 7 2 ++ d 6 2 ++ d 3 1 ++ d 4 1 ++ d 9 1

-- in ASCII, each with its line feed

-- 0 0 0 0 25 0 0 0 0 0 0 0 0 0 0
abbrev pub answers_line : List ℕ
answers_line =
    48 ∷ 32 ∷ 48 ∷ 32 ∷ 48 ∷ 32 ∷ 48 ∷ 32 ∷ 50 ∷ 53 ∷
    32 ∷ 48 ∷ 32 ∷ 48 ∷ 32 ∷ 48 ∷ 32 ∷ 48 ∷ 32 ∷ 48 ∷ 32 ∷ 48 ∷ 32 ∷ 48 ∷ 32 ∷ 48 ∷ 32 ∷ 48 ∷ 32 ∷ 48 ∷ 10 ∷ []

-- 0 0 0 3
abbrev pub root_line : List ℕ
root_line =
    48 ∷ 32 ∷ 48 ∷ 32 ∷ 48 ∷ 32 ∷ 51 ∷ 10 ∷ []

-- 1 0 70 3
abbrev pub first_line : List ℕ
first_line =
    49 ∷ 32 ∷ 48 ∷ 32 ∷ 55 ∷ 48 ∷ 32 ∷ 51 ∷ 10 ∷ []

-- 2 1 70 1
abbrev pub second_line : List ℕ
second_line =
    50 ∷ 32 ∷ 49 ∷ 32 ∷ 55 ∷ 48 ∷ 32 ∷ 49 ∷ 10 ∷ []

-- 0 0 0 3 for each of slots 1 to 7
abbrev pub seven_roots : List ℕ
seven_roots = root_line ++ root_line ++ root_line ++ root_line ++ root_line ++ root_line ++ root_line
