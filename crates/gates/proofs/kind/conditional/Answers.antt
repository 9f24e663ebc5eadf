-- `gates::kind::conditional` meets its contract: the lent marks are the definition's.
-- Assumes nothing.
use mathlib.Core.Path.{◌∙◌, ap}
use mathlib.Core.List.{List}
use mathlib.Core.Bool.{Bool, false}
use native.Mathlib.Omega.{arith}
use lib.ListN.{get_or}
use Rattle.std.specs.Prelude.{Option}
use Rattle.std.specs.Option.{unwrap_or}
use Rattle.gates.specs.Open.Kind.{conditional_of}
use Rattle.gates.proofs.kind.conditional.Goals as goal

pub returns : goal.returns
unfolding conditional_of
returns c = let found = c.get.ensures.lookup in
    c.unwrap_or.ensures ∙ ap (λ (o : Option Bool). unwrap_or o false) c.copied.ensures ∙ found.4 (omega arith) false
    ∙ ap (λ (t : List Bool). get_or t c.args.kind false) c.requires
