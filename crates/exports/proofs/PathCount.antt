-- The count of a path fits 32 bits: a refusal's is 0, and a path has no more rounds than its table has words. Assumes nothing.
use mathlib.Core.Path.{refl}
use mathlib.Core.Bool.{Bool}
use mathlib.Core.List.{List, ◌++◌}
use Prim.Native.Nat.{ℕ, ◌≤◌}
use native.Mathlib.Omega.{arith}
use lib.Dec.{eqb}
use borrow.Author.Tests.{eqb-true, not-false}
use Rattle.laws.specs.Tests.{by_test}
use Rattle.laws.specs.First.{passed}
use Rattle.numbers.specs.Numbers.{OK}
use Rattle.tree_theory.specs.Table.{MOST_WORDS, used, table_causes, path_causes, path_number, path_count}
use Rattle.tree.proofs.PathCalls.{PathPassed, path_of}

pub count_fits : (valued : Bool) (ws : List ℕ) (r : ℕ) (out : List ℕ) → path_count valued ws r out ≤ MOST_WORDS
unfolding path_number path_count
count_fits valued ws r out =
    by_test (eqb (path_number valued ws r out) OK)
    (λ y.
    let (s, (t, (a, (p, rest)))) = passed (table_causes valued ws ++ path_causes ws r out) refl (eqb-true _ _ y) in
    let P : PathPassed valued ws r = record { length_is = not-false _ s; tree = not-false _ t; low = a; there = not-false _ p } in
    rw y (omega (arith, (path_of P {n = used ws} refl).short)))
    (λ y. rw y (omega arith))
