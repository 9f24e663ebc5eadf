-- What the answer of `apply` says about a kind.
-- Assumes nothing.
use mathlib.Core.Path.{◌≡◌, refl}
use mathlib.Core.Bool.{Bool, true, false, cond}
use Prim.Native.Nat.{ℕ}
use lib.Dec.{ltb}
use Rattle.std.specs.Prelude.{Some, None}
use Rattle.std.specs.Option.{is_some}
use Rattle.gates.specs.Open.Kind.{kind_count, applied, value_of}

-- there is a value exactly for a known kind
pub some_known : (k a b c : ℕ) → is_some (applied k a b c) ≡ ltb k kind_count
unfolding applied
some_known k a b c = go (ltb k kind_count)
  where
    go : (t : Bool) → is_some (cond t (Some (value_of k a b c)) None) ≡ t
    go true = refl
    go false = refl
