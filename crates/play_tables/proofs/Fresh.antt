-- Tables made fresh one after another, and what is so of each and of all once they are. Assumes nothing.
use mathlib.Core.Path.{◌≡◌, refl, sym, ap, subst, ◌∙◌}
use mathlib.Core.List.{List, ◌∷◌}
use Prim.Native.Nat.{ℕ, zero, suc, ◌+◌, ◌<◌, ◌≤◌}
use native.Mathlib.Omega.{arith}
use lib.ListN.{length, take, drop, replicate}
use lib.Dec.{eqb}
use Rattle.laws.specs.Tests.{tests, by_test}
use Rattle.ids.specs.Ranges.{SLOTS}
use Rattle.tree_theory.specs.Machine.{fresh}
use Rattle.tree_theory.specs.Table.{table, fresh_table}
use Rattle.tree_theory.proofs.Steps.{fresh_written}
use Rattle.tree_theory.proofs.Trees.{sized_bounds}
use Rattle.tree_theory.proofs.Words.{length_table}
use Rattle.play_tables.specs.Tables.{length_at, start_of, table_at, with_table, fresh_tables, TablesFit}
use Rattle.play_tables.proofs.Parts.{fit_kept, ends, table_long, table_sized, with_long, with_same, with_other, all_same, words_all, all_long, all_table}

-- a part of zeros
front_zeros : (n m : ℕ) → n ≤ m → take {A = ℕ} n (replicate m 0) ≡ replicate n 0
front_zeros zero m h = refl
front_zeros (suc n) zero h = absurd (omega arith)
front_zeros (suc n) (suc m) h = ap (λ l. 0 ∷ l) (front_zeros n m (omega arith))

part_zeros : (a n m : ℕ) → a + n ≤ m → take {A = ℕ} n (drop a (replicate m 0)) ≡ replicate n 0
part_zeros zero n m h = front_zeros n m (omega arith)
part_zeros (suc a) n zero h = absurd (omega arith)
part_zeros (suc a) n (suc m) h = part_zeros a n m (omega arith)

module _ {ls ws : List ℕ} (F : TablesFit ls ws) {s : ℕ} (h : s < SLOTS) where
  -- a fresh table is as long as it was, the root in its first row
  fresh_is : fresh_table (table_at ls ws s) ≡ table (length_at ls s) fresh
  fresh_is = fresh_written (table_at ls ws s) (table_sized F h) ∙ ap (λ n. table n fresh) (table_long F h)

  some_words : 4 ≤ length (table_at ls ws s)
  some_words = (sized_bounds (table_at ls ws s) (table_sized F h)).least

  pub fresh_long : length (fresh_table (table_at ls ws s)) ≡ length_at ls s
  fresh_long = ap length fresh_is ∙ length_table (length_at ls s) fresh (omega (arith, some_words, table_long F h))

  -- a root is written where table s is lent and is zeros, and leaves it fresh
  pub root_lent : {t : List ℕ} → t ≡ table_at ls ws s → table_at ls ws s ≡ replicate (length_at ls s) 0 → (4 ≤ length t) × (t ≡ replicate (length t) 0)
  root_lent e z =
      subst (λ t. (4 ≤ length t) × (t ≡ replicate (length t) 0)) (sym e) (some_words, z ∙ ap (λ n. replicate n 0) (sym (table_long F h)))

  pub root_left : {t t' : List ℕ} → t ≡ table_at ls ws s → t' ≡ table (length t) fresh → t' ≡ fresh_table (table_at ls ws s)
  root_left e w = w ∙ ap (λ t. table (length t) fresh) e ∙ sym (fresh_written (table_at ls ws s) (table_sized F h))

-- after k of them, of the words ws₀, which are zeros: the first k tables are fresh, the others as they were
pub record FreshTo (ls ws₀ : List ℕ) (k : ℕ) (ws : List ℕ) : Type 0 where
  pub cleared : ws₀ ≡ replicate (length ws₀) 0
  pub within : k ≤ SLOTS
  pub fit : TablesFit ls ws
  pub kept : length ws ≡ length ws₀
  pub done : (s : ℕ) → s < k → table_at ls ws s ≡ fresh_table (table_at ls ws₀ s)
  pub left : (s : ℕ) → k ≤ s → table_at ls ws s ≡ table_at ls ws₀ s

pub fresh_none : {ls ws : List ℕ} → ws ≡ replicate (length ws) 0 → TablesFit ls ws → FreshTo ls ws 0 ws
fresh_none z F = record { cleared = z; within = omega arith; fit = F; kept = refl; done = λ s b. absurd (omega arith); left = λ s b. refl }

module _ {ls ws₀ : List ℕ} {k : ℕ} {ws : List ℕ} (G : FreshTo ls ws₀ k ws) where
  -- the next table is zeros
  pub zeros_next : k < SLOTS → table_at ls ws k ≡ replicate (length_at ls k) 0
  zeros_next h =
      let from = start_of ls k in
      let n = length_at ls k in
      G.left k (omega arith) ∙ ap (λ l. take n (drop from l)) G.cleared ∙
      part_zeros from n (length ws₀) (omega (arith, ends G.fit h, G.kept))

  pub fresh_more : k < SLOTS → {ws' : List ℕ} → ws' ≡ with_table ls ws k (fresh_table (table_at ls ws k)) → FreshTo ls ws₀ (k + 1) ws'
  fresh_more h e =
      let t = fresh_table (table_at ls ws k) in
      let long : length t ≡ length_at ls k = fresh_long G.fit h in
      let kept = ap length e ∙ with_long G.fit h t long in
      let was = ap fresh_table (G.left k (omega arith)) in
      record {
        cleared = G.cleared;
        within = omega arith;
        fit = fit_kept G.fit kept;
        kept = kept ∙ G.kept;
        done = λ s b.
            by_test (eqb s k)
            (λ q. let at : s ≡ k = omega tests in rw (at, e) (with_same G.fit h t long ∙ was))
            (λ q. rw e (with_other G.fit h t long s (omega tests)) ∙ G.done s (omega tests));
        left = λ s b. rw e (with_other G.fit h t long s (omega arith)) ∙ G.left s (omega arith);
      }

  -- a fresh table goes by its length alone, so all are what those of any words as long would be
  pub fresh_all : SLOTS ≤ k → {vs : List ℕ} → TablesFit ls vs → ws ≡ fresh_tables ls vs
  fresh_all h {vs} V₀ =
      words_all G.fit ∙
      all_same (table_at ls ws) (λ s. fresh_table (table_at ls vs s)) SLOTS
      (λ s b. G.done s (omega (arith, G.within)) ∙ fresh_is (fit_kept G.fit (sym G.kept)) b ∙ sym (fresh_is V₀ b))

-- once all are fresh: they still fit, each is a fresh table
module _ {ls ws : List ℕ} (F : TablesFit ls ws) where
  abbrev made : ℕ → List ℕ
  made s = fresh_table (table_at ls ws s)

  pub fresh_kept : length (fresh_tables ls ws) ≡ length ws
  fresh_kept = all_long ls made SLOTS (λ s b. fresh_long F b) ∙ F.filled

  pub fresh_fit : TablesFit ls (fresh_tables ls ws)
  fresh_fit = fit_kept F fresh_kept

  pub fresh_at : {s : ℕ} → s < SLOTS → table_at ls (fresh_tables ls ws) s ≡ table (length_at ls s) fresh
  fresh_at h = all_table ls made (λ s b. fresh_long F b) h ∙ fresh_is F h
