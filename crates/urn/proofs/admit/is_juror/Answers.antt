-- `urn::admit::is_juror` meets its contract: both tests are the definition's.
-- Assumes nothing.
use mathlib.Core.Path.{refl}
use lib.Dec.{leb}
use borrow.Author.Tests.{le-leb, lt-leb}
use Rattle.basics.proofs.Flags.{and_taken, and_left}
use Rattle.urn_chains.specs.Sound.{good_juror}
use Rattle.urn.proofs.admit.is_juror.Goals as goal

pub returns-then-juror-ge1 : goal.returns-then-juror-ge1
unfolding good_juror
returns-then-juror-ge1 c = let a = c.args in
    and_taken (leb 1 a.juror) (leb a.juror 255) _ (le-leb 1 a.juror c.if-juror-ge1.true) refl

pub returns-else-juror-ge1 : goal.returns-else-juror-ge1
unfolding good_juror
returns-else-juror-ge1 c = let a = c.args in
    and_left (leb 1 a.juror) (leb a.juror 255) _ (lt-leb 1 a.juror c.if-juror-ge1.false) refl
