-- What is said of a result where a step of the console ends.
use Rattle.std.proofs.Common.{◌≤◌, ◌<◌, ◌+◌, ◌-◌, ℕ, Result, Ok, Err, arith}
use Rattle.std.specs.Result.{IfOk, OnErr, IsErrAnd}
use Rattle.cms_journal.specs.Causes.{Rose}
use Rattle.cms_line.specs.Consoles.{LineCause}
use Rattle.cms_line.specs.declared.console.LineFault.{LineFault}
use Rattle.cms_line.specs.declared.console.LineFault.TheVariants.{Memory}

-- there is no value
pub ok_at_err : {T E : Type 0} (Q : E → Type 0) (r : Result T E) (P : T → Type 0) → IsErrAnd r Q → IfOk r P
ok_at_err Q (Ok x) P h = absurd h
ok_at_err Q (Err e) P h = tt

-- what holds anyhow
pub on_err : {T E : Type 0} (r : Result T E) (P : Type 0) → P → OnErr r P
on_err (Ok x) P p = tt
on_err (Err e) P p = p

-- nothing failed
pub cause_at_ok : {T : Type 0} (before now : ℕ) (x : T) → before ≤ now → LineCause before now (Ok x)
cause_at_ok before now x later = record { later = later; rose = λ h. cc }

-- memory failed
pub cause_at_memory : {T : Type 0} (before now : ℕ) → before ≤ now → LineCause {T = T} before now (Err Memory)
cause_at_memory before now later = record { later = later; rose = λ h. cc }

-- a read failed behind others
pub cause_at_world : {T : Type 0} (before mid now : ℕ) (r : Result T LineFault) → before ≤ mid → mid ≤ now → Rose mid now → LineCause before now r
cause_at_world before mid now r first later rose = record { later = omega arith; rose = λ h. omega (arith, first, rose) }

-- one turn fewer is left
pub fewer : (most turn : ℕ) → turn < most → most - (turn + 1) < most - turn
fewer most turn inside = omega arith
