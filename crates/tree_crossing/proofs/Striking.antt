-- One turn of the pass that strikes, and where it has nothing to strike. Assumes nothing.
use mathlib.Core.Path.{◌≡◌, refl, sym, ap, subst}
use mathlib.Core.Bool.{cond}
use mathlib.Core.List.{List, [], ◌∷◌, ◌++◌, map}
use Prim.Native.Nat.{ℕ, ◌+◌, ◌*◌, ◌≤◌}
use native.Mathlib.Omega.{arith}
use lib.ListN.{length, set, drop}
use Rattle.laws.specs.Tests.{by_test}
use Rattle.laws.specs.Lists.{how_many}
use Rattle.tree_theory.specs.Machine.{Node, ADDED, GHOST, crossed_with, strike_crossed}
use Rattle.tree_theory.specs.Table.{row, rows_of, words}
use Rattle.tree_theory.proofs.Words.{words_rows}
use Rattle.tree_table.proofs.Rows.{PassedRows, pass_row, pass_keep, pass_set}

pub struck_more : (r p : ℕ) (t₀ : List ℕ) (i : ℕ) (t t' : List ℕ) → PassedRows (strike_crossed r p) t₀ i t → 4 * i + 4 ≤ length t₀ →
    t' ≡ cond (crossed_with ADDED r p (row t i)) (set t (4 * i + 3) GHOST) t → PassedRows (strike_crossed r p) t₀ (i + 1) t'
struck_more r p t₀ i t t' P h e =
    let old : row t i ≡ row t₀ i = pass_row (strike_crossed r p) t₀ i t P in
    let e' : t' ≡ cond (crossed_with ADDED r p (row t₀ i)) (set t (4 * i + 3) GHOST) t =
    subst (λ n. t' ≡ cond (crossed_with ADDED r p n) (set t (4 * i + 3) GHOST) t) old e in
    by_test (crossed_with ADDED r p (row t₀ i))
    (λ y. rw (rw y at e') (pass_set (strike_crossed r p) t₀ i t GHOST P h (rw y refl)))
    (λ y. rw (rw y at e') (pass_keep (strike_crossed r p) t₀ i t P h (rw y refl)))

-- where no node is crossed, none is struck
strike_none : (r p : ℕ) (ns : List Node) → how_many (crossed_with ADDED r p) ns ≡ 0 → map (strike_crossed r p) ns ≡ ns
strike_none r p [] h = refl
strike_none r p (n ∷ ns) h =
    by_test (crossed_with ADDED r p n)
    (λ t. absurd (omega (arith, rw t at h)))
    (λ t. rw t (ap (λ l. n ∷ l) (strike_none r p ns (rw t at h))))

-- and the table stays
pub struck_none : (r p : ℕ) (ws : List ℕ) (n : ℕ) → 4 * n ≤ length ws → {k : ℕ} → k ≡ how_many (crossed_with ADDED r p) (rows_of ws n) → k ≤ 0 →
    ws ≡ words (map (strike_crossed r p) (rows_of ws n)) ++ drop (4 * n) ws
struck_none r p ws n h e off = rw (strike_none r p (rows_of ws n) (omega (arith, e, off))) (sym (words_rows ws n h))
