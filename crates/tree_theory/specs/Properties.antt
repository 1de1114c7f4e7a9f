-- The four properties of a list of calls, and the history status of a round (01, "The tree"). `valued` says which kind of tree the calls are of:
-- of a command tree property 3 has no clause on the value (02, ticket 1). And COMMITTED nodes on one path.
use Rattle.std.specs.Prelude.{◌≡◌, Bool, true, false, cond, ◌&&◌, ◌||◌, not, List, [], ◌∷◌, ◌++◌, ℕ, suc, ◌<◌, eqb}
use Rattle.laws.specs.Lists.{◌∈◌, any}
use Rattle.ids.specs.Ranges.{out_of_range}
use Rattle.numbers.specs.Numbers.{OK}
use Rattle.tree_theory.specs.Machine.{Call, add, commit, Node, crosses, ADDED, GHOST, COMMITTED, present, path, answers, fresh}

abbrev pub round_of : Call → ℕ
round_of (add r v p) = r
round_of (commit r) = r

abbrev pub adds : ℕ → Call → Bool
adds c (add r v p) = eqb r c
adds c (commit r) = false

abbrev pub commits : ℕ → Call → Bool
commits c (add r v p) = false
commits c (commit r) = eqb r c

-- an add of round c; if values are compared, with value w
abbrev pub adds_with : Bool → ℕ → ℕ → Call → Bool
adds_with valued c w (add r v p) = eqb r c && (not valued || eqb v w)
adds_with valued c w (commit r) = false

-- an added edge that crosses c
abbrev pub edge_crosses : ℕ → Call → Bool
edge_crosses c (add r v p) = crosses r p c
edge_crosses c (commit r) = false

-- "came earlier" is said by a cut of the list: what stands before the call
pub record Properties (valued : Bool) (cs : List Call) : Type 0 where
  -- (1) per round at most one add and one commit
  pub one_add : (pre post : List Call) (r v p : ℕ) → cs ≡ pre ++ add r v p ∷ post → any (adds r) pre ≡ false
  pub one_commit : (pre post : List Call) (r : ℕ) → cs ≡ pre ++ commit r ∷ post → any (commits r) pre ≡ false
  -- (2) a commit follows its add
  pub follows : (pre post : List Call) (r : ℕ) → cs ≡ pre ++ commit r ∷ post → any (adds r) pre ≡ true
  -- (3) in add(r, v, p), p < r, and if p > 0 an add of p came earlier, in a value tree with value v
  pub lower : (r v p : ℕ) → add r v p ∈ cs → p < r
  pub parent : (pre post : List Call) (r v p : ℕ) → cs ≡ pre ++ add r v p ∷ post → 0 < p → any (adds_with valued p v) pre ≡ true
  -- (4) no committed round is crossed by any added edge, whichever came first
  pub uncrossed : (r v p c : ℕ) → add r v p ∈ cs → commit c ∈ cs → crosses r p c ≡ false

-- rounds in range
abbrev pub InRange : List Call → Type 0
InRange cs = (c : Call) → c ∈ cs → out_of_range (round_of c) ≡ false

-- how many adds a list has
unfoldable pub adds_in : List Call → ℕ
adds_in [] = 0
adds_in (add r v p ∷ cs) = suc (adds_in cs)
adds_in (commit r ∷ cs) = adds_in cs

-- each call of a list from fresh gets OK
abbrev pub AllOk : Bool → ℕ → List Call → Type 0
AllOk valued rows cs = (n : ℕ) → n ∈ answers valued rows fresh cs → n ≡ OK

-- COMMITTED for the root and committed rounds, else GHOST if some edge crosses the round, else ADDED
unfoldable pub history : List Call → ℕ → ℕ
history h r = cond (eqb r 0 || any (commits r) h) COMMITTED (cond (any (edge_crosses r) h) GHOST ADDED)

-- the path of some round has every COMMITTED node
pub record OnePath (ns : List Node) : Type 0 where
  pub top : ℕ
  pub there : present top ns ≡ true
  pub each : (n : Node) → n ∈ ns → n.status ≡ COMMITTED → n.round ∈ path ns top
