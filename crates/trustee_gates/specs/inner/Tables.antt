-- Storing into tables that go trustee after trustee.
use Rattle.std.specs.Prelude.{◌≡◌, List, ℕ, zero, suc, ◌+◌, ◌*◌, ◌≤◌, ◌<◌, length}
use Rattle.std.proofs.lemmas.List.Edits.{sets}
use Rattle.trustee_shares.specs.Shares.{Held}

-- A table with pieces of one size, after each of the first t trustees has stored its entries in its piece from
-- `index` on.
unfoldable pub each_puts : ℕ → ℕ → ℕ → Held → List ℕ → List ℕ
each_puts zero size index entries table = table
each_puts (suc t) size index entries table = sets (each_puts t size index entries table) (t * size + index) (entries t)

-- What copying from pieces to pieces requires.
pub record CopyReady (t count : ℕ) (source : List ℕ) (source_size at : ℕ) (target : List ℕ) (target_size into : ℕ) :
    Type 0 where
  pub source_length : length source ≡ t * source_size
  pub source_fits : at + count ≤ source_size
  pub target_length : length target ≡ t * target_size
  pub target_fits : into + count ≤ target_size

-- What reading trustee p's entry requires.
pub record EntryReady (size p index : ℕ) (table : List ℕ) : Type 0 where
  pub inside : index < size
  pub reach : p * size + size ≤ length table

-- What opening an entry of all t trustees requires.
pub record OpenReady (size t index : ℕ) (table : List ℕ) : Type 0 where
  pub inside : index < size
  pub long : length table ≡ t * size

-- What testing the products of the triples requires.
pub record ProductsReady (t conditional : ℕ) (triples : List ℕ) : Type 0 where
  pub few : conditional < 1073741824
  pub long : length triples ≡ t * (3 * conditional)
