-- Lists of calls on a fresh table of words: their numbers and the table that they leave are the machine's, so each gets OK exactly if the list has
-- the four properties, and the table is that of the calls that got OK. Assumes nothing.
use mathlib.Core.Path.{◌≡◌, refl, sym, ap, ◌∙◌, subst}
use mathlib.Core.Bool.{Bool, true}
use mathlib.Core.List.{List, [], ◌∷◌, ◌++◌}
use mathlib.Core.Logic.{◌↔◌}
use Prim.Native.Nat.{ℕ, ◌-◌, ◌/◌, ◌<◌}
use lib.ListN.{length, replicate}
use Rattle.laws.specs.Lists.{◌∈◌}
use Rattle.tree_theory.specs.Machine.{Call, add, commit, Node, fresh, answer, answers, step, after}
use Rattle.tree_theory.specs.Properties.{Properties, InRange, adds_in, history}
use Rattle.tree_theory.specs.Table.{sized, rows, words, table, Tree, nodes, calls_of, call_number, call_table, call_numbers, calls_table, fresh_table}
use Rattle.tree_theory.specs.Rebuilt.{with_ok, accepted, added_nodes, rebuilt, added_words, rebuilt_words, rebuilt_table, ToldTable}
use Rattle.tree_theory.proofs.Grown.{Grown}
use Rattle.tree_theory.proofs.History.{all_grown, history_status}
use Rattle.tree_theory.proofs.Regrown.{regrown}
use Rattle.tree_theory.proofs.Words.{length_words, length_table, nodes_table}
use Rattle.tree_theory.proofs.Trees.{sized_rows, grown_fit, grown_stated}
use Rattle.tree_theory.proofs.Steps.{step_grown, written_tree, tree_number, tree_table, fresh_written}
use Rattle.tree_theory.proofs.FourProperties.{ok_exactly}

words_added : (h cs : List Call) → words (added_nodes h cs) ≡ added_words h cs
unfolding words added_nodes added_words
words_added h [] = refl
words_added h (add r v p ∷ cs) = ap (λ l. r ∷ p ∷ v ∷ history h r ∷ l) (words_added h cs)
words_added h (commit r ∷ cs) = words_added h cs

-- the table of rebuilt nodes, in words
table_rebuilt : (len : ℕ) (h : List Call) → table len (rebuilt h) ≡ rebuilt_table len h
unfolding table
table_rebuilt len h =
    let e : words (rebuilt h) ≡ rebuilt_words h = unfold words in (ap (λ l. 0 ∷ 0 ∷ 0 ∷ 3 ∷ l) (words_added h h)) in
    ap (λ k. words (rebuilt h) ++ replicate {A = ℕ} (len - k) 0) (sym (length_words (rebuilt h))) ∙ ap (λ l. l ++ replicate {A = ℕ} (len - length l) 0) e

module _ (valued : Bool) (ws : List ℕ) (h : sized ws ≡ true) where
  module _ (ns : List Node) (G : Grown valued (rows ws) ns) where
    long : length (table (length ws) ns) ≡ length ws
    long = length_table (length ws) ns (grown_fit valued ws ns h G)

    held : nodes (table (length ws) ns) ≡ ns
    held = nodes_table (length ws) ns (grown_fit valued ws ns h G) (grown_stated valued (rows ws) ns G)

    sized_still : sized (table (length ws) ns) ≡ true
    sized_still = rw long h

    tree : Tree valued (table (length ws) ns)
    tree = subst (λ l. Tree valued (table (length ws) l)) (regrown valued (rows ws) ns G (sized_rows ws h)) (written_tree valued ws (calls_of ns) h)

    number_on : (c : Call) → call_number valued (table (length ws) ns) c ≡ answer valued (rows ws) ns c
    number_on c =
        tree_number valued (table (length ws) ns) sized_still tree c ∙ ap (λ n. answer valued (n / 4) (nodes (table (length ws) ns)) c) long ∙
        ap (λ l. answer valued (rows ws) l c) held

    table_on : (c : Call) → call_table valued (table (length ws) ns) c ≡ table (length ws) (step valued (rows ws) ns c)
    table_on c =
        tree_table valued (table (length ws) ns) sized_still tree c ∙ ap (λ n. table n (step valued (n / 4) (nodes (table (length ws) ns)) c)) long ∙
        ap (λ l. table (length ws) (step valued (rows ws) l c)) held

  numbers_from : (cs : List Call) (ns : List Node) → Grown valued (rows ws) ns → call_numbers valued (table (length ws) ns) cs ≡ answers valued (rows ws) ns cs
  unfolding call_numbers answers
  numbers_from [] ns G = refl
  numbers_from (c ∷ cs) ns G =
      ap (λ n. n ∷ call_numbers valued (call_table valued (table (length ws) ns) c) cs) (number_on ns G c) ∙
      ap (λ t. answer valued (rows ws) ns c ∷ call_numbers valued t cs) (table_on ns G c) ∙
      ap (λ l. answer valued (rows ws) ns c ∷ l) (numbers_from cs (step valued (rows ws) ns c) (step_grown valued (rows ws) ns c G (sized_rows ws h)))

  table_from : (cs : List Call) (ns : List Node) → Grown valued (rows ws) ns →
      calls_table valued (table (length ws) ns) cs ≡ table (length ws) (after valued (rows ws) ns cs)
  unfolding calls_table after
  table_from [] ns G = refl
  table_from (c ∷ cs) ns G =
      rw (table_on ns G c) (table_from cs (step valued (rows ws) ns c) (step_grown valued (rows ws) ns c G (sized_rows ws h)))

  grown_fresh : Grown valued (rows ws) fresh
  unfolding after
  grown_fresh = all_grown valued (rows ws) []

  -- calls on a fresh table get the machine's numbers and leave the machine's nodes
  pub fresh_numbers : (cs : List Call) → call_numbers valued (fresh_table ws) cs ≡ answers valued (rows ws) fresh cs
  fresh_numbers cs = ap (λ t. call_numbers valued t cs) (fresh_written ws h) ∙ numbers_from cs fresh grown_fresh

  pub fresh_calls : (cs : List Call) → calls_table valued (fresh_table ws) cs ≡ table (length ws) (after valued (rows ws) fresh cs)
  fresh_calls cs = ap (λ t. calls_table valued t cs) (fresh_written ws h) ∙ table_from cs fresh grown_fresh

  -- each call gets OK exactly if the list has the four properties
  pub ok_on_words : (cs : List Call) → InRange cs → adds_in cs < rows ws →
      ((n : ℕ) → n ∈ call_numbers valued (fresh_table ws) cs → n ≡ 0) ↔ Properties valued cs
  ok_on_words cs r f =
      subst (λ l. ((n : ℕ) → n ∈ l → n ≡ 0) ↔ Properties valued cs) (sym (fresh_numbers cs)) (ok_exactly valued (rows ws) cs r f)

  -- and after any list, refused calls included, the table is that of the calls that got OK
  pub status_on_words : (cs : List Call) → ToldTable valued ws cs
  status_on_words cs =
      let h : List Call = accepted valued (rows ws) fresh cs in
      record {
        table_is =
            fresh_calls cs ∙ ap (table (length ws)) (history_status valued (rows ws) cs) ∙ table_rebuilt (length ws) h ∙
            ap (λ numbers. rebuilt_table (length ws) (with_ok cs numbers)) (sym (fresh_numbers cs));
        length_is = ap length (fresh_calls cs) ∙ long (after valued (rows ws) fresh cs) (all_grown valued (rows ws) cs);
      }
