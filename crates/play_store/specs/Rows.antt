-- The message store (01, "Play"; 02, ticket 6): rows that have room for any message; message k stands at the front of row k, zeros after.
use Rattle.std.specs.Prelude.{Bool, ◌&&◌, List, [], ◌∷◌, ◌++◌, ℕ, ◌+◌, ◌-◌, ◌*◌, ◌/◌, ◌%◌, ◌≤◌, length, take, drop, replicate, leb, eqb}
use Rattle.message.specs.declared.Message.{Message}
use Rattle.message.specs.Layout.{bytes, longest_message}
use Rattle.message.specs.Reading.{size, decoded}
use Rattle.message.specs.Writing.{in_front}

-- the bytes of a row: 32
abbrev pub row_length : ℕ
row_length = longest_message

abbrev pub most_rows : ℕ
most_rows = 2000

-- the rows of a store
abbrev pub store_rows : List ℕ → ℕ
store_rows s = length s / row_length

-- 1 to 2,000 whole rows
abbrev pub store_sized : List ℕ → Bool
store_sized s = eqb (length s % row_length) 0 && (leb row_length (length s) && leb (length s) (row_length * most_rows))

-- where row k begins
abbrev pub row_start : ℕ → ℕ
row_start k = row_length * k

-- row k is there whole
abbrev pub HasRow : List ℕ → ℕ → Type 0
HasRow s k = row_start k + row_length ≤ length s

-- a message at the front of its row
unfoldable pub row_with : Message → List ℕ
row_with g = bytes g ++ replicate (row_length - length (bytes g)) 0

unfoldable pub rows_with : List Message → List ℕ
unfolding row_with
rows_with [] = []
rows_with (g ∷ gs) = row_with g ++ rows_with gs

-- a store of `len` bytes: the messages sent, then rows of zeros
unfoldable pub stored : ℕ → List Message → List ℕ
unfolding rows_with
stored len gs = rows_with gs ++ replicate (len - row_start (length gs)) 0

-- row k
abbrev pub row_at : List ℕ → ℕ → List ℕ
row_at s k = take row_length (drop (row_start k) s)

-- the store with a message at the front of row k
abbrev pub put_row : List ℕ → ℕ → Message → List ℕ
put_row s k g = take (row_start k) s ++ in_front g (row_at s k) ++ drop (row_start k + row_length) s

-- the message at the front of row k: its own length, and not the whole row
unfoldable pub fetched : List ℕ → ℕ → Message
fetched s k = decoded (take (size (row_at s k)) (row_at s k))
