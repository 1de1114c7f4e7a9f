-- The lengths of tables: the first slot whose length is none, and how far eight lengths reach. Assumes nothing.
use mathlib.Core.Path.{◌≡◌, refl}
use mathlib.Core.Bool.{Bool, true, false, ◌&&◌}
use mathlib.Core.List.{List}
use Prim.Native.Nat.{ℕ, zero, suc, ◌+◌, ◌-◌, ◌*◌, ◌%◌, ◌<◌, ◌≤◌}
use native.Mathlib.Omega.{arith}
use native.Mathlib.Numerals.{add-one}
use lib.ListN.{length}
use lib.Dec.{ltb, leb, eqb}
use borrow.Author.Tests.{ltb-false, leb-true, eqb-true, le-ltb, eq-eqb, not-false}
use Rattle.laws.specs.Tests.{tests, by_test, and_right}
use Rattle.laws.specs.First.{passed, zero_of}
use Rattle.ids.specs.Ranges.{SLOTS}
use Rattle.numbers.specs.Numbers.{OK}
use Rattle.tree_theory.specs.Table.{MOST_WORDS, sized_length}
use Rattle.play_tables.specs.Tables.{length_at, start_of, unsized_from, first_unsized, eight_causes, tables_number, AllSized, TablesFit}

pub length_most : (n : ℕ) → sized_length n ≡ true → n ≤ MOST_WORDS
length_most n h =
    let low : Bool = leb 4 n in
    let high : Bool = leb n MOST_WORDS in
    leb-true n MOST_WORDS (and_right low high (and_right (eqb (n % 4) 0) (low && high) h))

module _ (ls : List ℕ) where
  -- one slot: the search stops there, or goes on behind it
  pub unsized_stop : (k s : ℕ) → 0 < k → sized_length (length_at ls s) ≡ false → unsized_from ls k s ≡ s
  unfolding unsized_from
  unsized_stop zero s h e = absurd (omega arith)
  unsized_stop (suc k) s h e = rw e refl

  pub unsized_go : (k s : ℕ) → 0 < k → sized_length (length_at ls s) ≡ true → unsized_from ls k s ≡ unsized_from ls (k - 1) (s + 1)
  unfolding unsized_from
  unsized_go zero s h e = absurd (omega arith)
  unsized_go (suc k) s h e = let m : suc k - 1 ≡ k = omega arith in rw (e, m, add-one s) refl

  -- every slot before the one found has a table's length
  sized_before : (k s u : ℕ) → s ≤ u → u < unsized_from ls k s → sized_length (length_at ls u) ≡ true
  unfolding unsized_from
  sized_before zero s u a h = absurd (omega arith)
  sized_before (suc k) s u a h =
      by_test (sized_length (length_at ls s))
      (λ t.
      by_test (eqb s u)
      (λ q. let e : s ≡ u = omega tests in rw (← e) t)
      (λ q. sized_before k (suc s) u (omega tests) (rw t at h)))
      (λ t. let past : u < s = rw t at h in absurd (omega arith))

  pub all_sized : SLOTS ≤ first_unsized ls → AllSized ls
  all_sized h s b = sized_before SLOTS 0 s (omega arith) (omega arith)

  none_unsized : (k s : ℕ) → ((u : ℕ) → s ≤ u → u < s + k → sized_length (length_at ls u) ≡ true) → unsized_from ls k s ≡ s + k
  unfolding unsized_from
  none_unsized zero s f = omega arith
  none_unsized (suc k) s f = rw (f s (omega arith) (omega arith)) (omega (arith, none_unsized k (suc s) (λ u a b. f u (omega arith) (omega arith))))

  pub sized_first : AllSized ls → first_unsized ls ≡ SLOTS
  sized_first A = none_unsized SLOTS 0 (λ u a b. A u (omega arith))

  -- no sum of lengths is past eight of the longest
  pub start_most : AllSized ls → (s : ℕ) → s ≤ SLOTS → start_of ls s ≤ MOST_WORDS * s
  unfolding start_of
  start_most A zero h = omega arith
  start_most A (suc s) h = omega (arith, start_most A s (omega arith), length_most (length_at ls s) (A s (omega arith)))

  module _ (ws : List ℕ) where
    -- 0 exactly if the tables fit
    pub number_fits : tables_number ls ws ≡ OK → TablesFit ls ws
    unfolding tables_number
    number_fits h =
        let (a1, (a2, rest)) = passed (eight_causes ls ws) refl h in
        record {
          lengths = all_sized (ltb-false (first_unsized ls) SLOTS a1);
          filled = eqb-true (start_of ls SLOTS) (length ws) (not-false (eqb (start_of ls SLOTS) (length ws)) a2);
        }

    pub fit_number : TablesFit ls ws → tables_number ls ws ≡ OK
    unfolding tables_number
    fit_number F =
        let none : ltb (first_unsized ls) SLOTS ≡ false = le-ltb (first_unsized ls) SLOTS (omega (arith, sized_first F.lengths)) in
        zero_of (eight_causes ls ws) (none, (rw (eq-eqb (start_of ls SLOTS) (length ws) F.filled) refl, tt))
