-- A preview is the call on a copy of the first table, and 31 comes right after 1 (02, ticket 5). Assumes nothing.
use mathlib.Core.Path.{◌≡◌, refl}
use mathlib.Core.Bool.{Bool, true, false, cond}
use mathlib.Core.List.{List}
use Prim.Native.Nat.{ℕ}
use lib.ListN.{length}
use lib.Dec.{eqb}
use borrow.Author.Tests.{eq-eqb, ne_eqb}
use Rattle.laws.specs.Tests.{by_test}
use Rattle.laws.specs.First.{first}
use Rattle.numbers.specs.Numbers.{OK, TABLE_LENGTH, LENGTHS_DIFFER}
use Rattle.tree_theory.specs.Machine.{Call}
use Rattle.tree_theory.specs.Table.{sized, is_tree, table_causes, call_number, call_table}
use Rattle.tree_theory.specs.Ghosts.{table_ghosts}
use Rattle.tree_theory.specs.Preview.{lengths_differ, tables_causes, preview_number, preview_ghosts, preview_table, AsOnCopy}
use Rattle.tree_theory.proofs.Ghosts.{table_none}

-- the row "table" of two tables, from the number that the first gets alone and the two lengths
pub tables_first : (valued : Bool) (ws us : List ℕ) {number : ℕ} → number ≡ first (table_causes valued ws) →
    first (tables_causes valued ws us) ≡ cond (eqb number TABLE_LENGTH) number (cond (lengths_differ ws us) LENGTHS_DIFFER number)
tables_first valued ws us e =
    by_test (sized ws)
    (λ s. by_test (is_tree valued ws) (λ t. rw (e, s, t) refl) (λ t. rw (e, s, t) refl))
    (λ s. rw (e, s) refl)

module _ (valued : Bool) (ws us : List ℕ) (c : Call) where
  one_first : sized ws ≡ false → preview_number valued ws us c ≡ TABLE_LENGTH
  unfolding preview_number
  one_first s = rw s refl

  thirty_one_next : sized ws ≡ true → (length us ≡ length ws → ⊥) → preview_number valued ws us c ≡ LENGTHS_DIFFER
  unfolding preview_number
  thirty_one_next s z = rw (s, ne_eqb (length us) (length ws) z) refl

  -- of a second table of equal length the number is the call's
  pub number_alike : length us ≡ length ws → preview_number valued ws us c ≡ call_number valued ws c
  unfolding preview_number call_number
  number_alike e = by_test (sized ws) (λ s. rw (s, eq-eqb (length us) (length ws) e) refl) (λ s. rw s refl)

  ghosts_are : length us ≡ length ws → preview_ghosts valued ws us c ≡ table_ghosts valued ws c
  unfolding preview_ghosts
  ghosts_are e =
      by_test (eqb (call_number valued ws c) OK)
      (λ t. rw (number_alike e, t) refl)
      (λ t. rw (number_alike e, t, table_none valued ws c t) refl)

  second_is : length us ≡ length ws → preview_table valued ws us c ≡ cond (eqb (call_number valued ws c) OK) (call_table valued ws c) us
  unfolding preview_table
  second_is e = rw (number_alike e) refl

  -- of one of another length it isn't OK
  not_ok : (length us ≡ length ws → ⊥) → eqb (preview_number valued ws us c) OK ≡ false
  not_ok z = by_test (sized ws) (λ s. rw (thirty_one_next s z) refl) (λ s. rw (one_first s) refl)

  none_counted : (length us ≡ length ws → ⊥) → preview_ghosts valued ws us c ≡ 0
  unfolding preview_ghosts
  none_counted z = rw (not_ok z) refl

  none_written : (length us ≡ length ws → ⊥) → preview_table valued ws us c ≡ us
  unfolding preview_table
  none_written z = rw (not_ok z) refl

  pub as_on_copy : AsOnCopy valued ws us c
  as_on_copy = record {
    one_first = one_first;
    thirty_one_next = thirty_one_next;
    number_is = number_alike;
    ghosts_are = ghosts_are;
    second_is = second_is;
    none_counted = none_counted;
    none_written = none_written;
  }
