-- Plans for the calls of a tree: what the passes of the code leave is what the machine makes. Assumes nothing.
use mathlib.Core.Path.{◌≡◌, refl, sym, ap, subst, ◌∙◌}
use mathlib.Core.Bool.{Bool, true, false, cond, not, ◌||◌, or-false}
use mathlib.Core.Logic.{◌≢◌}
use mathlib.Core.List.{List, [], ◌∷◌, ◌++◌, map}
use Prim.Native.Nat.{ℕ, zero, suc, ◌+◌, ◌-◌, ◌*◌, ◌≤◌, ◌<◌}
use native.Mathlib.Omega.{arith}
use lib.ListN.{length, set, get_or, drop, replicate, length-append, length-map}
use lib.Seq.{drop-append-add}
use lib.Dec.{ltb, eqb}
use borrow.Author.Tests.{eq-eqb, ne_eqb, eqb-false, ltb-true, leb-false, not-true, not-false}
use Rattle.laws.specs.Tests.{by_test, clash, tests, or_left}
use Rattle.laws.specs.Lists.{any, any_append, any_intro, how_many}
use Rattle.laws.specs.First.{passed}
use Rattle.ids.specs.Ranges.{out_of_range, above_range}
use Rattle.numbers.specs.declared.Refusal.{Refusal}
use Rattle.numbers.specs.Numbers.{OK, refusal_number}
use Rattle.tree_theory.specs.Machine.{Call, Node, add, commit, ADDED, GHOST, COMMITTED, has_round, present, above, crossed_with, causes, answer}
use Rattle.tree_theory.specs.Machine.{struck, strike_crossed, commit_node, new_node, change}
use Rattle.tree_theory.specs.Table.{row, rows, rows_of, used, nodes, words, table, TreeTable}
use Rattle.tree_theory.specs.Ghosts.{ghosts_made}
use Rattle.tree_theory.proofs.Words.{length_words, length_rows, used_rows, row_in, free_word}
use Rattle.tree_theory.proofs.Nodes.{find_left, find_round}
use Rattle.tree_theory.proofs.Grown.{placed_cut}
use Rattle.tree_theory.proofs.Paths.{struck_crossed, accepted_parent}
use Rattle.tree_theory.proofs.Trees.{tree_held}
use Rattle.tree_theory.proofs.History.{step_ok}
use Rattle.tree_theory.proofs.Ghosts.{ghosts_crossed}
use Rattle.std.specs.Prelude.{Some, Result, Err}
use Rattle.std.specs.Ordering.{is_le, nat_cmp}
use Rattle.std.proofs.lemmas.Map.Keys.{le_from_is_le}
use Rattle.std.proofs.lemmas.Bool.Decides.{nat_tests}
use Rattle.tree_table.specs.Rows.{row_index, row_place}
use Rattle.tree_table.proofs.Rows.{rows_from, rows_more, rows_split, index_left, index_there, found_at, place_index, PassedRows, pass_none, pass_on, pass_set, pass_end}
use Rattle.tree_steps.specs.declared.call.Plan.{Plan}
use Rattle.tree_steps.specs.Planned.{PlanMakes, Planned}

-- what the test of a round's range left behind
module _ (r : ℕ) {b : Bool} (e : b ≡ not (out_of_range r)) where
  pub beyond : not b ≡ true → out_of_range r ≡ true
  beyond t = not-false (out_of_range r) (sym e ∙ not-true b t)

  pub within : not b ≡ false → out_of_range r ≡ false
  within t = not-true (out_of_range r) (sym e ∙ not-false b t)

-- what a comparison of two rounds says
pub not_above : (r p : ℕ) {b : Bool} → b ≡ is_le (nat_cmp r p) → b ≡ true → r ≤ p
not_above r p e t = le_from_is_le r p (sym e ∙ t)

pub not_below : (r p : ℕ) {b : Bool} → b ≡ is_le (nat_cmp r p) → b ≡ false → p < r
not_below r p e t = let h : is_le (nat_cmp r p) ≡ false = sym e ∙ t in grind (arith, nat_tests)

-- a refused call has no plan
pub plan_refused : {valued : Bool} {ws : List ℕ} {c : Call} {planned : Result Plan Refusal} {e : Refusal} → planned ≡ Err e →
    refusal_number e ≡ answer valued (rows ws) (nodes ws) c → Planned valued ws c planned
plan_refused q n = rw q (record { number_is = n; plan_is = tt })

drop_zeros : (k n : ℕ) → drop {A = ℕ} k (replicate n 0) ≡ replicate (n - k) 0
drop_zeros zero n = let e : n - 0 ≡ n = omega arith in rw e refl
drop_zeros (suc k) zero = let e : 0 - suc k ≡ 0 = omega arith in rw e refl
drop_zeros (suc k) (suc n) = let e : suc n - suc k ≡ n - k = omega arith in rw e (drop_zeros k n)

module _ (valued : Bool) (ws : List ℕ) (W : TreeTable valued ws) where
  -- behind the used rows stand zeros
  free : (k : ℕ) → drop (4 * used ws + k) ws ≡ replicate (length ws - 4 * used ws - k) 0
  unfolding table
  free k =
      let ns = nodes ws in
      let zs : List ℕ = replicate (length ws - 4 * length ns) 0 in
      let whole : ws ≡ words ns ++ zs = (tree_held valued ws W.long W.tree).whole in
      let n : length ns ≡ used ws = length_rows ws (used ws) in
      ap (drop (4 * used ws + k)) whole ∙
      ap (λ m. drop (m + k) (words ns ++ zs)) (ap (λ m. 4 * m) (sym n) ∙ sym (length_words ns)) ∙
      drop-append-add (words ns) zs k ∙
      drop_zeros k (length ws - 4 * length ns) ∙
      ap (λ m. replicate (length ws - 4 * m - k) 0) n

  -- ---- add

  -- the node of an accepted add behind the struck ones, and the free rows behind it
  inserted : (r v p : ℕ) → answer valued (rows ws) (nodes ws) (add r v p) ≡ OK →
      words (map (strike_crossed r p) (nodes ws) ++ new_node (nodes ws) r v p ∷ []) ++ drop (4 * used ws + 4) ws ≡
      table (length ws) (change (nodes ws) (add r v p))
  unfolding table change
  inserted r v p e =
      let ns = nodes ws in
      let ms = map (struck ns r p) ns ++ new_node ns r v p ∷ [] in
      let n : length ns ≡ used ws = length_rows ws (used ws) in
      let l : length ms ≡ length ns + 1 =
      length-append (map (struck ns r p) ns) (new_node ns r v p ∷ []) ∙ ap (λ k. k + 1) (length-map ns (struck ns r p)) in
      let m : length ws - 4 * used ws - 4 ≡ length ws - 4 * length ms = omega (arith, l) in
      let (there, low) = accepted_parent valued (rows ws) ns r v p e in
      let same : map (strike_crossed r p) ns ≡ map (struck ns r p) ns =
      sym (struck_crossed valued (rows ws) ns (tree_held valued ws W.long W.tree).grown r p there low) in
      rw (same, free 4, m) refl

  pub add_planned : (r v p : ℕ) {plan : Plan} → answer valued (rows ws) (nodes ws) (add r v p) ≡ OK → plan.row ≡ used ws →
      plan.status ≡ cond (any (above r) (nodes ws)) GHOST ADDED → plan.strikes ≡ how_many (crossed_with ADDED r p) (rows_of ws plan.row) →
      PlanMakes valued ws (add r v p) plan
  unfolding answer new_node
  add_planned r v p ok er es ek =
      let c = add r v p in
      let (a3, (a4, (a5, (a6, (a7, (a8, (a9, _))))))) = passed (causes valued (rows ws) (nodes ws) c) refl ok in
      record {
        fits = omega (arith, er, leb-false (rows ws) (length (nodes ws)) a9, length_rows ws (used ws));
        makes = rw (er, es) (inserted r v p ok);
        strikes_is = ek;
        ghosts_are =
            ek ∙ ap (λ n. how_many (crossed_with ADDED r p) (rows_of ws n)) er ∙
            sym (ghosts_crossed valued (rows ws) (nodes ws) r v p (tree_held valued ws W.long W.tree).grown ok) ∙
            ap (ghosts_made (nodes ws)) (sym (step_ok valued (rows ws) (nodes ws) c (eq-eqb _ OK ok)));
      }

  -- ---- commit

  -- a free row has round 0
  free_round : (i : ℕ) → used ws ≤ i → (row ws i).round ≡ 0
  free_round i a =
      let H = tree_held valued ws W.long W.tree in
      ap (λ l. get_or l (4 * i) 0) H.whole ∙ free_word (length ws) (nodes ws) (4 * i) (omega (arith, length_rows ws (used ws)))

  none_free : (r : ℕ) → r ≢ 0 → (d i : ℕ) → used ws ≤ i → any (has_round r) (rows_from ws i d) ≡ false
  unfolding rows_from
  none_free r z zero i a = refl
  none_free r z (suc d) i a =
      let e : has_round r (row ws i) ≡ false = ne_eqb (row ws i).round r (λ q. z (sym q ∙ free_round i a)) in
      rw (e, none_free r z d (suc i) (omega arith)) refl

  all_rows : rows_of ws (rows ws) ≡ nodes ws ++ rows_from ws (used ws) (rows ws - used ws)
  all_rows =
      let e : used ws + (rows ws - used ws) ≡ rows ws = omega (arith, used_rows ws) in
      rw e at (rows_more ws (rows ws - used ws) (used ws))

  -- so of all rows a commit finds what it finds of the used ones
  pub commit_among_all : (r : ℕ) → answer valued (rows ws) (rows_of ws (rows ws)) (commit r) ≡ answer valued (rows ws) (nodes ws) (commit r)
  unfolding answer causes
  commit_among_all r =
      by_test (out_of_range r)
      (λ t. rw t refl)
      (λ t.
      let zs = rows_from ws (used ws) (rows ws - used ws) in
      let some : present r (rows_of ws (rows ws)) ≡ present r (nodes ws) =
      ap (present r) all_rows ∙ any_append (has_round r) (nodes ws) zs ∙
      ap (λ b. present r (nodes ws) || b) (none_free r (eqb-false r 0 (or_left (eqb r 0) (above_range r) t)) (rows ws - used ws) (used ws) (omega arith)) ∙
      or-false (present r (nodes ws)) in
      by_test (present r (nodes ws))
      (λ y. rw (t, some, y, all_rows, find_left r (nodes ws) zs y) refl)
      (λ y. rw (t, some, y) refl))

  -- no two used rows have one round
  apart : (j k : ℕ) → j < k → k < used ws → (row ws j).round ≡ (row ws k).round → ⊥
  apart j k a b e =
      let P = placed_cut valued (rows ws) (nodes ws) (tree_held valued ws W.long W.tree).grown (rows_of ws k) (rows_from ws (suc k) (used ws - suc k)) (row ws k)
      (rows_split ws k (used ws) b) (rw (length_rows ws k) (omega arith)) in
      clash (any_intro (has_round (row ws k).round) (rows_of ws k) (row_in ws k j a) (eq-eqb _ _ e)) P.new

  -- the status of row k set, where that is the row of r
  committed_row : (r k : ℕ) → k < used ws → (row ws k).round ≡ r → set ws (4 * k + 3) COMMITTED ≡ table (length ws) (change (nodes ws) (commit r))
  unfolding table change commit_node
  committed_row r k a e =
      let n = used ws in
      let f = commit_node r in
      let room : 4 * n ≤ length ws = omega (arith, used_rows ws) in
      let other : (j : ℕ) → j < n → j ≢ k → (row ws j).round ≢ r = λ j b d q.
      by_test (ltb j k) (λ y. apart j k (ltb-true j k y) a (q ∙ sym e)) (λ y. apart k j (omega (tests, d)) b (e ∙ sym q)) in
      let keep : (j : ℕ) → j < n → j ≢ k → f (row ws j) ≡ row ws j = λ j b d. rw (ne_eqb (row ws j).round r (other j b d)) refl in
      let before : PassedRows f ws (0 + k) ws = pass_on f ws ws k 0 (pass_none f ws) (omega arith) (λ j b c. keep j (omega arith) (omega arith)) in
      let z : 0 + k ≡ k = omega arith in
      let at : PassedRows f ws (k + 1) (set ws (4 * k + 3) COMMITTED) =
      pass_set f ws k ws COMMITTED (subst (λ i. PassedRows f ws i ws) z before) (omega arith) (rw (eq-eqb (row ws k).round r e) refl) in
      let all : PassedRows f ws (k + 1 + (n - (k + 1))) (set ws (4 * k + 3) COMMITTED) =
      pass_on f ws (set ws (4 * k + 3) COMMITTED) (n - (k + 1)) (k + 1) at (omega arith) (λ j b c. keep j (omega arith) (omega arith)) in
      let l : length (map f (nodes ws)) ≡ n = length-map (nodes ws) f ∙ length_rows ws n in
      let m : length ws - 4 * n - 0 ≡ length ws - 4 * length (map f (nodes ws)) = omega (arith, l) in
      let z' : 4 * n ≡ 4 * n + 0 = omega arith in
      pass_end f ws (k + 1 + (n - (k + 1))) n (set ws (4 * k + 3) COMMITTED) (omega arith) (omega arith) all ∙
      ap (λ l. words (map f (nodes ws)) ++ l) (ap (λ i. drop i ws) z' ∙ free 0 ∙ ap (λ i. replicate i 0) m)

  -- no cause of a commit looks at values
  module _ (r : ℕ) {number : ℕ} (e : number ≡ answer true (rows ws) (rows_of ws (rows ws)) (commit r)) where
    pub commit_answered : number ≡ answer valued (rows ws) (nodes ws) (commit r)
    unfolding answer causes
    commit_answered = e ∙ commit_among_all r

    module _ (z : number ≡ OK) {k : ℕ} (ek : Some k ≡ row_place r (rows_of ws (rows ws))) where
      -- the row of an accepted commit is a used one
      accepted_row : (k < used ws) × ((row ws k).round ≡ r)
      unfolding answer
      accepted_row =
          let (a3, (a10, _)) = passed (causes valued (rows ws) (nodes ws) (commit r)) refl (sym commit_answered ∙ z) in
          let there : present r (nodes ws) ≡ true = not-false (present r (nodes ws)) a10 in
          let ek' : k ≡ row_index r (nodes ws) =
          place_index ws (rows ws) r ek ∙ ap (row_index r) all_rows ∙ index_left r (nodes ws) (rows_from ws (used ws) (rows ws - used ws)) there in
          let a : k < used ws = ltb-true k (used ws) (index_there ws (used ws) r ek' ∙ there) in
          (a, ap (λ (n : Node). n.round) (sym (found_at ws (used ws) r ek' a)) ∙ find_round r (nodes ws) there)

      pub commit_planned : PlanMakes valued ws (commit r) (record { row = k; status = COMMITTED; strikes = 0 })
      commit_planned =
          record {
            fits = omega (arith, accepted_row.0, used_rows ws);
            makes = committed_row r k accepted_row.0 accepted_row.1;
            strikes_is = refl;
            ghosts_are = refl;
          }
