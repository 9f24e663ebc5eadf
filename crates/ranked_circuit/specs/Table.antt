-- Tables of blocks: k rows of k blocks, each of which starts where the one before it ends. A block may be empty.
use Rattle.std.specs.Prelude.{List, [], ◌++◌, ℕ, zero, suc, ◌+◌, ◌*◌, ◌/◌, ◌%◌, length}
use Rattle.gates.specs.Gate.{Gate}

-- m blocks, one after the other from wire n on; each gets the wire at which it starts and its number.
unfoldable pub blocks : ℕ → (ℕ → ℕ → List Gate) → ℕ → List Gate
blocks n block zero = []
blocks n block (suc m) = blocks n block m ++ block (n + length (blocks n block m)) m

-- The first m blocks of a table of k rows and k columns, row by row. Each gets the wire at which it starts, its row
-- and its column.
unfoldable pub entries : ℕ → ℕ → (ℕ → ℕ → ℕ → List Gate) → ℕ → List Gate
entries n k block m = blocks n (λ at e. block at (e / k) (e % k)) m

-- The whole table.
unfoldable pub table : ℕ → ℕ → (ℕ → ℕ → ℕ → List Gate) → List Gate
table n k block = entries n k block (k * k)

-- The first wire after the block of row i and column j.
unfoldable pub entry_end : ℕ → ℕ → (ℕ → ℕ → ℕ → List Gate) → ℕ → ℕ → ℕ
entry_end n k block i j = n + length (entries n k block (suc (i * k + j)))
