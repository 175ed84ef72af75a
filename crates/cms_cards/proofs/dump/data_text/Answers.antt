use Rattle.std.proofs.Common.{◌≡◌, ◌≤◌, true, sym, subst, Result, Ok, Err}
use Rattle.std.specs.Result.{IfOk, IsErrAnd}
use Rattle.cms_fields.specs.Stamps.{is_stamp}
use Rattle.cms_cards.specs.declared.header.Header.{Header}
use Rattle.cms_cards.proofs.dump.data_text.Goals as goal

ok_at_err : {T E : Type 0} (Q : E → Type 0) (r : Result T E) (P : T → Type 0) → IsErrAnd r Q → IfOk r P
ok_at_err Q (Ok x) P h = absurd h
ok_at_err Q (Err e) P h = tt

pub returns-in_err-header : goal.returns-in_err-header
returns-in_err-header c = ok_at_err _ c.from_residual.result _ c.from_residual.ensures.1

pub returns-in_err-text : goal.returns-in_err-text
returns-in_err-text c = ok_at_err _ c.from_residual-in_err-text.result _ c.from_residual-in_err-text.ensures.1

pub returns-in_err-extend_from_slice : goal.returns-in_err-extend_from_slice
returns-in_err-extend_from_slice c = ok_at_err _ c.from_residual-in_err-extend_from_slice.result _ c.from_residual-in_err-extend_from_slice.ensures.1

pub bytes-requires-clause-number : goal.bytes-requires-clause-number
bytes-requires-clause-number c = subst (λ (h : Header). h.number ≤ 6) (sym c.in_ok-header.ensures) c.requires.number

pub bytes-requires-clause-stamp : goal.bytes-requires-clause-stamp
bytes-requires-clause-stamp c = subst (λ (h : Header). is_stamp h.stamp ≡ true) (sym c.in_ok-header.ensures) c.requires.stamp
