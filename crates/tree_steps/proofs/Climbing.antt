-- The recursion to the parent that writes a path: what it hands on, and what it makes of the parent's path. Assumes nothing.
use mathlib.Core.Path.{◌≡◌, refl, sym, ap, ◌∙◌}
use mathlib.Core.Bool.{true, false}
use mathlib.Core.List.{List, [], ◌∷◌, ◌++◌, append_assoc}
use Prim.Native.Nat.{ℕ, suc, ◌+◌, ◌≤◌, ◌<◌}
use native.Mathlib.Omega.{arith}
use lib.ListN.{length, get_or, set, drop, length-append}
use lib.Seq.{drop-cons, set_at}
use lib.Dec.{leb}
use borrow.Author.Tests.{leb-true, leb-false}
use Rattle.laws.specs.Tests.{by_test, tests}
use Rattle.tree_theory.specs.Machine.{find, path}
use Rattle.tree_theory.specs.Table.{rows, row, rows_of, used, nodes}
use Rattle.tree_theory.proofs.Grown.{Grown}
use Rattle.tree_theory.proofs.Paths.{path_in_root, next_lower, next_there, path_next}
use Rattle.tree_theory.proofs.Trees.{tree_held}
use Rattle.std.specs.Prelude.{Option, Some, None}
use Rattle.tree_table.specs.Rows.{row_place}
use Rattle.tree_table.proofs.Rows.{place_within, place_row}
use Rattle.tree_steps.specs.Climbed.{PathOf, PathWritten}

-- the root's path, where there is room and where there is none
pub root_short : (ws : List ℕ) (behind : ℕ) (out : List ℕ) → length out ≤ behind → PathWritten ws 0 behind out None out
root_short ws behind out h =
    let e : leb (1 + behind) (length out) ≡ false = omega tests in
    record { count_is = rw (path_in_root 0 (nodes ws), e) refl; slice_is = rw (path_in_root 0 (nodes ws), e) refl }

pub root_written : (ws : List ℕ) (behind : ℕ) (out : List ℕ) → behind < length out → PathWritten ws 0 behind out (Some 1) (set out 0 0)
root_written ws behind [] h = absurd (omega arith)
root_written ws behind (x ∷ out) h =
    let e : leb (1 + behind) (length (x ∷ out)) ≡ true = omega tests in
    record { count_is = rw (path_in_root 0 (nodes ws), e) refl; slice_is = rw (path_in_root 0 (nodes ws), e) refl }

module _ {ws : List ℕ} {n r behind : ℕ} (P : PathOf ws n r behind) (pos : 0 < r) where
  grown : Grown P.valued (rows ws) (nodes ws)
  grown = (tree_held P.valued ws P.table.long P.table.tree).grown

  -- the row of r
  sought : {o : Option ℕ} → o ≡ row_place r (rows_of ws n) → o ≡ row_place r (nodes ws)
  sought e = e ∙ ap (λ m. row_place r (rows_of ws m)) P.rows_are

  pub row_found : {k : ℕ} → Some k ≡ row_place r (rows_of ws n) → (k < used ws) × (find r (nodes ws) ≡ row ws k)
  row_found e = (place_within ws (used ws) r (sought e), place_row ws (used ws) r (sought e))

  longer : length (path (nodes ws) r) ≡ length (path (nodes ws) (find r (nodes ws)).parent) + 1
  longer =
      ap length (path_next P.valued (rows ws) (nodes ws) grown r P.there pos) ∙ length-append (path (nodes ws) (find r (nodes ws)).parent) (r ∷ [])

  pub parent_lower : {p : ℕ} → p ≡ (find r (nodes ws)).parent → p < r
  parent_lower e = rw e (next_lower P.valued (rows ws) (nodes ws) grown r P.there pos)

  -- what the call for the parent asks
  pub parent_of : {p : ℕ} → p ≡ (find r (nodes ws)).parent → PathOf ws n p (behind + 1)
  parent_of e =
      record {
        valued = P.valued;
        table = P.table;
        rows_are = P.rows_are;
        there = rw e (next_there P.valued (rows ws) (nodes ws) grown r P.there);
        short = rw e (omega (arith, longer, P.short));
      }

  module _ {p : ℕ} (e : p ≡ (find r (nodes ws)).parent) {out : List ℕ} {o : Option ℕ} {out' : List ℕ} (W : PathWritten ws p (behind + 1) out o out') where
    -- the parent's path found room for itself and r, or it didn't
    fate : {C : Type 0} →
        (let l = length (path (nodes ws) p) in (l + (behind + 1) ≤ length out) → o ≡ Some l → out' ≡ path (nodes ws) p ++ drop l out → C) →
        ((length out < length (path (nodes ws) p) + (behind + 1)) → o ≡ None → out' ≡ out → C) → C
    fate f g =
        by_test (leb (length (path (nodes ws) p) + (behind + 1)) (length out))
        (λ y. f (leb-true _ _ y) (rw y at W.count_is) (rw y at W.slice_is))
        (λ y. g (leb-false _ _ y) (rw y at W.count_is) (rw y at W.slice_is))

    length_r : length (path (nodes ws) r) ≡ length (path (nodes ws) p) + 1
    length_r = longer ∙ ap (λ x. length (path (nodes ws) x) + 1) (sym e)

    pub climbed_short : o ≡ None → PathWritten ws r behind out None out'
    climbed_short z =
        fate
        (λ room a b. absurd (cc))
        (λ none a b.
        let t : leb (length (path (nodes ws) r) + behind) (length out) ≡ false = omega (tests, length_r) in
        record { count_is = rw t refl; slice_is = rw t b })

    module _ {k : ℕ} (z : o ≡ Some k) where
      counted : {l : ℕ} → o ≡ Some l → k ≡ l
      counted a = cc

      pub climbed : PathWritten ws r behind out (Some (k + 1)) (set out' k r)
      climbed =
          fate
          (λ room s b.
          let a = counted s in
          let l = length (path (nodes ws) p) in
          let t : leb (length (path (nodes ws) r) + behind) (length out) ≡ true = omega (tests, length_r) in
          let whole : path (nodes ws) r ≡ path (nodes ws) p ++ r ∷ [] =
          path_next P.valued (rows ws) (nodes ws) grown r P.there pos ∙ ap (λ x. path (nodes ws) x ++ r ∷ []) (sym e) in
          let s : l + 1 ≡ suc l = omega arith in
          let d : drop l out ≡ get_or out l 0 ∷ drop (suc l) out = drop-cons out l 0 (omega arith) in
          let put : set out' k r ≡ path (nodes ws) p ++ r ∷ drop (suc l) out =
          ap (λ x. set x k r) (b ∙ ap (λ x. path (nodes ws) p ++ x) d) ∙ set_at (path (nodes ws) p) (get_or out l 0) (drop (suc l) out) r k (sym a) in
          record {
            count_is = rw t (ap Some (ap (λ x. x + 1) a ∙ sym length_r));
            slice_is = rw t (put ∙ sym (ap (λ x. x ++ drop (length (path (nodes ws) r)) out) whole ∙
                ap (λ x. path (nodes ws) p ++ r ∷ [] ++ drop x out) (length_r ∙ s) ∙ append_assoc (path (nodes ws) p) (r ∷ []) (drop (suc l) out)));
          })
          (λ none a b. absurd (cc))
