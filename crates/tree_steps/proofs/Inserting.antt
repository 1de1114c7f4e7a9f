-- A row put behind rows that a pass has changed. Assumes nothing.
use mathlib.Core.Path.{◌≡◌, refl, sym, ap, ◌∙◌}
use mathlib.Core.List.{List, [], ◌∷◌, ◌++◌, map, append_assoc}
use Prim.Native.Nat.{ℕ, ◌+◌, ◌*◌}
use lib.ListN.{length, take, drop, length-map}
use lib.Seq.{drop-append-add, drop-drop, take_at}
use Rattle.tree_theory.specs.Machine.{add, node_of, strike_crossed}
use Rattle.tree_theory.specs.Table.{rows_of, words}
use Rattle.tree_theory.proofs.Words.{length_words, length_rows, words_append}
use Rattle.tree_steps.specs.Planned.{call_written}

pub row_put_behind : (ws : List ℕ) (n r v p s : ℕ) (t u : List ℕ) → t ≡ words (map (strike_crossed r p) (rows_of ws n)) ++ drop (4 * n) ws →
    u ≡ take (4 * n) t ++ r ∷ p ∷ v ∷ s ∷ drop (4 * n + 4) t → u ≡ call_written ws (add r v p) n s
unfolding words
row_put_behind ws n r v p s t u et eu =
    let ms = map (strike_crossed r p) (rows_of ws n) in
    let l : length (words ms) ≡ 4 * n = length_words ms ∙ ap (λ k. 4 * k) (length-map (rows_of ws n) (strike_crossed r p) ∙ length_rows ws n) in
    let front : take (4 * n) t ≡ words ms = ap (take (4 * n)) et ∙ take_at (words ms) (drop (4 * n) ws) (4 * n) l in
    let back : drop (4 * n + 4) t ≡ drop (4 * n + 4) ws =
    ap (drop (4 * n + 4)) et ∙ ap (λ k. drop (k + 4) (words ms ++ drop (4 * n) ws)) (sym l) ∙
    drop-append-add (words ms) (drop (4 * n) ws) 4 ∙ drop-drop 4 (4 * n) ws in
    eu ∙ rw (front, back, words_append ms (node_of r p v s ∷ []), append_assoc) refl
