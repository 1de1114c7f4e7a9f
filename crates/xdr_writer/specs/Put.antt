-- XDR numbers put through the writer: the bytes of one stand at its place, nothing beside them changes, and the next place is behind them.
use Rattle.std.specs.Prelude.{◌≡◌, List, [], ◌∷◌, ◌++◌, ℕ, ◌+◌, take, drop}
use denote.Ref.{at_last}
use Rattle.xdr.specs.Items.{Item, width, span, item_bytes, encoded}
use Rattle.xdr_writer.specs.declared.Writer.{Writer}

-- the bytes with an item at a place
abbrev pub with_item : Item → ℕ → List ℕ → List ℕ
with_item i at l = take at l ++ item_bytes i ++ drop (at + width i) l

-- an item put at a place: the place after it, and the bytes after
pub record Puts (i : Item) (old : List ℕ) (at next : ℕ) (new : List ℕ) : Type 0 where
  pub moved : next ≡ at + width i
  pub put : new ≡ with_item i at old

-- the writer after: the same borrow, with the item at its place. `at_last x l` is the reference x at the list l
abbrev pub putting : Item → Writer → Writer
putting i w = record { buf = at_last w.buf (with_item i w.at w.buf.now); at = w.at + width i }

-- and after items put one behind another
abbrev pub putting_all : List Item → Writer → Writer
putting_all [] w = w
putting_all (i ∷ l) w = putting_all l (putting i w)

-- items put one behind another from the front on: the place behind them, and the bytes after
pub record Fronts (is : List Item) (old : List ℕ) (next : ℕ) (new : List ℕ) : Type 0 where
  pub reached : next ≡ span is
  pub stand : new ≡ encoded is ++ drop (span is) old
