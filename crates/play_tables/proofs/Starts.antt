-- Where each table starts, one after another. Assumes nothing.
use mathlib.Core.Path.{◌≡◌, ap, ◌∙◌}
use mathlib.Core.List.{List}
use Prim.Native.Nat.{ℕ, ◌+◌, ◌<◌, ◌≤◌}
use native.Mathlib.Omega.{arith}
use lib.ListN.{length, get_or, set, length-set}
use lib.Seq.{get_or-set_same, get_or-set_other}
use lib.Dec.{eqb}
use borrow.Author.Tests.{eqb-true}
use Rattle.laws.specs.Tests.{tests, by_test}
use Rattle.ids.specs.Ranges.{SLOTS}
use Rattle.play_tables.specs.Tables.{length_at, start_of, StartsAt}
use Rattle.play_tables.proofs.Parts.{start_next}

-- the first k are known, and a is the next
pub record StartsTo (ls : List ℕ) (k : ℕ) (starts : List ℕ) (a : ℕ) : Type 0 where
  pub within : k ≤ SLOTS
  pub eight : length starts ≡ SLOTS
  pub done : (s : ℕ) → s < k → get_or starts s 0 ≡ start_of ls s
  pub next : a ≡ start_of ls k

module _ {ls : List ℕ} {k : ℕ} {starts : List ℕ} {a : ℕ} (G : StartsTo ls k starts a) where
  pub starts_more : k < SLOTS → StartsTo ls (k + 1) (set starts k a) (a + length_at ls k)
  starts_more h = record {
    within = omega arith;
    eight = length-set starts k a ∙ G.eight;
    done = λ s b.
        by_test (eqb s k)
        (λ q. let e : s ≡ k = eqb-true s k q in rw e (get_or-set_same starts k a 0 (omega (arith, G.eight)) ∙ G.next))
        (λ q. get_or-set_other starts k s a 0 (omega tests) ∙ G.done s (omega tests));
    next = ap (λ n. n + length_at ls k) G.next ∙ omega (arith, start_next ls k);
  }

  pub starts_all : SLOTS ≤ k → StartsAt ls starts
  starts_all h = record { eight = G.eight; each = λ s l. G.done s (omega arith) }

-- where the last table ends
pub last_end : (ls : List ℕ) {starts : List ℕ} → StartsAt ls starts → get_or starts 7 0 + length_at ls 7 ≡ start_of ls SLOTS
last_end ls S = omega (arith, S.each 7 (omega arith), start_next ls 7)
