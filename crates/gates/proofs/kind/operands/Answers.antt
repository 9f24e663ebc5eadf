-- `gates::kind::operands` meets its contract: the lent counts are the definition's.
-- Assumes nothing.
use mathlib.Core.Path.{◌∙◌, ap}
use mathlib.Core.List.{List}
use Prim.Native.Nat.{ℕ}
use native.Mathlib.Omega.{arith}
use lib.ListN.{get_or}
use Rattle.std.specs.Prelude.{Option}
use Rattle.std.specs.Option.{unwrap_or}
use Rattle.gates.specs.Open.Kind.{operands_of}
use Rattle.gates.proofs.kind.operands.Goals as goal

pub returns : goal.returns
unfolding operands_of
returns c = let found = c.get.ensures.lookup in
    c.unwrap_or.ensures ∙ ap (λ (o : Option ℕ). unwrap_or o 0) c.copied.ensures ∙ found.4 (omega arith) 0
    ∙ ap (λ (t : List ℕ). get_or t c.args.kind 0) c.requires
