-- What the exit of a `?` returns: the error that the call answered, as `From` turns it.
-- Assumes nothing.
use Rattle.std.specs.Prelude.{◌≡◌, Result, Err}
use Rattle.std.specs.Result.{IsErr, IsErrAnd}
use Rattle.std.proofs.lemmas.Result.{err_from_is_err_and}

pub exit : {T E : Type 0} {Q : E → Type 0} (r : Result T E) → IsErr r × IsErrAnd r Q → (y : E) × (r ≡ Err y) × Q y
exit r h = err_from_is_err_and r h.1
