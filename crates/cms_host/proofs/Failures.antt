-- What a failed call raises.
use Rattle.std.proofs.Common.{◌≡◌, ◌≤◌, ℕ, arith}
use Rattle.std.specs.Prelude.{Err, Ok}
use Rattle.cms_journal.specs.declared.event.Failed.{Failed}
use Rattle.cms_journal.specs.Causes.{HasCause}
use Rattle.cms_host.specs.Answers.{one_more}

-- a call has its cause where the count was as before up to the failure, which was counted
pub cause_of : {T : Type 0} (before mid now : ℕ) (failure : Failed) → mid ≡ before → mid ≤ now → now ≡ one_more mid → HasCause {T = T} {E = Failed} before now (Err failure)
cause_of before mid now failure same later more = record { later = omega arith; failed = omega arith }

-- and it has none where nothing failed
pub no_cause : {T : Type 0} (before now : ℕ) (x : T) → now ≡ before → HasCause {T = T} {E = Failed} before now (Ok x)
no_cause before now x same = record { later = omega arith; failed = tt }
