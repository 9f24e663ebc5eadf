-- For rankings the writer counts the gates, for grades the sizes are added up.
use mathlib.Core.Path.{◌∙◌, sym, ap}
use mathlib.Core.List.{List}
use lib.ListN.{length}
use Rattle.gates.specs.Gate.{Gate}
use Rattle.jury.specs.Shape.{graded_limits, within_limits}
use Rattle.basics.proofs.Flags.{T_true, true_T}
use Rattle.jury.proofs.Limits.{graded_kind}
use Rattle.tally.proofs.OwnList.{own_graded}
use Rattle.tally.proofs.own.gates.Goals as goal

pub gates-requires : goal.gates-requires
gates-requires c =
    let s = c.args.shape in
    true_T (graded_limits s)
    (graded_kind s (T_true (within_limits s) c.requires) (sym c.is_ranking.ensures ∙ c.if-is_ranking.false))

pub returns : goal.returns
returns c =
    c.gates.ensures
    ∙ sym (ap (λ (gs : List Gate). length gs) (own_graded c.args.shape (sym c.is_ranking.ensures ∙ c.if-is_ranking.false)))
