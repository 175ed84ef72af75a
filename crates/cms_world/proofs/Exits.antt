-- What is said of a result where a `?` leaves.
use Rattle.std.proofs.Common.{Result, Ok, Err}
use Rattle.std.specs.Result.{IfOk, OnErr, IsErrAnd}

-- there is no value
pub ok_at_err : {T E : Type 0} (Q : E → Type 0) (r : Result T E) (P : T → Type 0) → IsErrAnd r Q → IfOk r P
ok_at_err Q (Ok x) P h = absurd h
ok_at_err Q (Err e) P h = tt

-- what holds in any case holds where there is a fault
pub holds_at_err : {T E : Type 0} {P : Type 0} (r : Result T E) → P → OnErr r P
holds_at_err (Ok x) p = tt
holds_at_err (Err e) p = p
