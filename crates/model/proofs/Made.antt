-- Proposals and decisions as calls: which call stands for which, and that counts and appends agree. Assumes nothing.
use mathlib.Core.Path.{◌≡◌, refl, ap}
use mathlib.Core.List.Memᴰ.{head as here}
use mathlib.Core.List.Memᴰ.{tail as there}
use mathlib.Core.List.{List, [], ◌∷◌, ◌++◌}
use Prim.Native.Nat.{ℕ, suc, ◌+◌}
use native.Mathlib.Omega.{arith}
use Rattle.laws.specs.Tests.{impossible}
use Rattle.laws.specs.Lists.{◌∈◌}
use Rattle.tree_theory.specs.Machine.{add, commit}
use Rattle.tree_theory.specs.Properties.{adds_in}
use Rattle.member.specs.Table.{Named, nothing, proposal, decision}
use Rattle.model.specs.Model.{proposals}
use Rattle.model.specs.Demand.{calls}
use Rattle.model.specs.Counts.{decisions}

pub calls_append : (l k : List Named) → calls (l ++ k) ≡ calls l ++ calls k
unfolding calls
calls_append [] k = refl
calls_append (nothing ∷ l) k = calls_append l k
calls_append (proposal r x b ∷ l) k = ap (λ c. add r x b ∷ c) (calls_append l k)
calls_append (decision r x ∷ l) k = ap (λ c. commit r ∷ c) (calls_append l k)

pub proposals_append : (l k : List Named) → proposals (l ++ k) ≡ proposals l + proposals k
unfolding proposals
proposals_append [] k = omega arith
proposals_append (nothing ∷ l) k = proposals_append l k
proposals_append (proposal r x b ∷ l) k = omega (arith, proposals_append l k)
proposals_append (decision r x ∷ l) k = proposals_append l k

pub decisions_append : (l k : List Named) → decisions (l ++ k) ≡ decisions l + decisions k
unfolding decisions
decisions_append [] k = omega arith
decisions_append (nothing ∷ l) k = decisions_append l k
decisions_append (proposal r x b ∷ l) k = decisions_append l k
decisions_append (decision r x ∷ l) k = omega (arith, decisions_append l k)

-- as many adds as proposals
pub adds_in_calls : (l : List Named) → adds_in (calls l) ≡ proposals l
unfolding calls adds_in proposals
adds_in_calls [] = refl
adds_in_calls (nothing ∷ l) = adds_in_calls l
adds_in_calls (proposal r x b ∷ l) = ap suc (adds_in_calls l)
adds_in_calls (decision r x ∷ l) = adds_in_calls l

pub proposal_call : {r x b : ℕ} (l : List Named) → proposal r x b ∈ l → add r x b ∈ calls l
unfolding calls
proposal_call [] i = elim i [ ]
proposal_call (nothing ∷ l) (here e) = impossible (cc)
proposal_call (nothing ∷ l) (there i) = proposal_call l i
proposal_call {r} {x} {b} (proposal s y c ∷ l) (here e) = let q : add r x b ≡ add s y c = cc in here q
proposal_call (proposal s y c ∷ l) (there i) = there (proposal_call l i)
proposal_call (decision s y ∷ l) (here e) = impossible (cc)
proposal_call (decision s y ∷ l) (there i) = there (proposal_call l i)

pub call_proposal : {r x b : ℕ} (l : List Named) → add r x b ∈ calls l → proposal r x b ∈ l
unfolding calls
call_proposal [] i = elim i [ ]
call_proposal (nothing ∷ l) i = there (call_proposal l i)
call_proposal {r} {x} {b} (proposal s y c ∷ l) (here e) = let q : proposal r x b ≡ proposal s y c = cc in here q
call_proposal (proposal s y c ∷ l) (there i) = there (call_proposal l i)
call_proposal (decision s y ∷ l) (here e) = impossible (cc)
call_proposal (decision s y ∷ l) (there i) = there (call_proposal l i)

pub decision_call : {r x : ℕ} (l : List Named) → decision r x ∈ l → commit r ∈ calls l
unfolding calls
decision_call [] i = elim i [ ]
decision_call (nothing ∷ l) (here e) = impossible (cc)
decision_call (nothing ∷ l) (there i) = decision_call l i
decision_call (proposal s y c ∷ l) (here e) = impossible (cc)
decision_call (proposal s y c ∷ l) (there i) = there (decision_call l i)
decision_call {r} {x} (decision s y ∷ l) (here e) = let q : commit r ≡ commit s = cc in here q
decision_call (decision s y ∷ l) (there i) = there (decision_call l i)

-- the decision that a commit stands for, handed on
pub call_decision {κ} : {C : Type κ} {r : ℕ} (l : List Named) → commit r ∈ calls l → ((x : ℕ) → decision r x ∈ l → C) → C
unfolding calls
call_decision [] i f = elim i [ ]
call_decision (nothing ∷ l) i f = call_decision l i (λ x j. f x (there j))
call_decision (proposal s y c ∷ l) (here e) f = impossible (cc)
call_decision (proposal s y c ∷ l) (there i) f = call_decision l i (λ x j. f x (there j))
call_decision {r = r} (decision s y ∷ l) (here e) f = let q : decision r y ≡ decision s y = cc in f y (here q)
call_decision (decision s y ∷ l) (there i) f = call_decision l i (λ x j. f x (there j))
