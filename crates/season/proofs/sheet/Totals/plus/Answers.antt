-- `season::sheet::Totals::plus` meets its contract: a shared run counts 1.
use Rattle.std.proofs.Common.{◌≡◌, ◌∙◌, refl, sym, ◌+◌, arith}
use Rattle.season.specs.Season.{shared_of}
use Rattle.season.specs.inner.Sums.{plus_run}
use Rattle.season.proofs.SumLaws.{same_totals, shared_one, shared_none}
use Rattle.season.proofs.sheet.Totals.plus.Goals as goal
use Rattle.season.proofs.sheet.Totals.plus.Goals.{then-is_shared, else-is_shared}

pub returns : goal.returns
unfolding plus_run
returns c =
    let r = c.args.run in
    let shared_is : c.if-is_shared.shared ≡ c.args.self.shared + shared_of r = elim c.if-is_shared.branch [
      | then-is_shared w ↦ omega (arith, w.shared-is, shared_one r (sym c.is_shared.ensures ∙ w.if-is_shared.true))
      | else-is_shared w ↦ omega (arith, w.shared-is, shared_none r (sym c.is_shared.ensures ∙ w.if-is_shared.false))
    ] in
    same_totals _ _ _ _ _ _ _ _ _ _ refl refl refl refl shared_is
