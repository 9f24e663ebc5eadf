-- `season::sheet::sheet` meets its contract: each branch answers what the definition gives for the outcomes of the
-- tests.
use Rattle.std.proofs.Common.{sym}
use Rattle.season.specs.declared.sheet.Refusal.TheVariants.{Length, BadRun}
use Rattle.season.proofs.Reasons.{part_of_a_run, too_many, bad_run, no_reason, refused_is, accepted_is}
use Rattle.season.proofs.sheet.sheet.Goals as goal

pub returns-then-bytes-ne0 : goal.returns-then-bytes-ne0
returns-then-bytes-ne0 c = refused_is c.args.bytes.now Length (part_of_a_run c.args.bytes.now c.if-bytes-ne0.true)

pub returns-then-bytes-gt-MOST_BYTES : goal.returns-then-bytes-gt-MOST_BYTES
returns-then-bytes-gt-MOST_BYTES c = refused_is c.args.bytes.now Length (too_many c.args.bytes.now c.if-bytes-gt-MOST_BYTES.true)

pub returns-in-Some : goal.returns-in-Some
returns-in-Some c =
    let xs = c.args.bytes.now in
    refused_is xs (BadRun c.in-Some.i)
    (bad_run xs c.in-Some.i c.if-bytes-ne0.false c.if-bytes-gt-MOST_BYTES.false (sym c.in-Some.ensures))

pub returns-in-None : goal.returns-in-None
returns-in-None c =
    let xs = c.args.bytes.now in
    accepted_is xs c.sums.result
    (no_reason xs c.if-bytes-ne0.false c.if-bytes-gt-MOST_BYTES.false (sym c.in-None.ensures)) c.sums.ensures
