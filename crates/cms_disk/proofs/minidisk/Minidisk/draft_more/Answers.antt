use Rattle.std.proofs.Common.{◌∙◌, inr, Result, Err, sym, ap, subst}
use Rattle.std.specs.Prelude.{IfErr}
use Rattle.std.proofs.lemmas.Result.{err_from_is_err_and}
use Rattle.cms_edf.specs.declared.draft.Draft.{Draft}
use Rattle.cms_disk.specs.Additions.{AnswersMore, IsMoreFault}
use Rattle.cms_disk.specs.declared.fault.DiskFault.{DiskFault}
use Rattle.cms_disk.proofs.AddAnswered.{none_so}
use Rattle.cms_edf.proofs.Exits.{ok_at_err}
use Rattle.cms_disk.proofs.minidisk.Minidisk.draft_more.Goals as goal

pub returns-in_err-place-clause-answers : goal.returns-in_err-place-clause-answers
returns-in_err-place-clause-answers g c =
    let p = err_from_is_err_and c.from_residual.result c.from_residual.ensures.1 in
    let d = c.args.self.now in
    let name = c.args.name.now in
    let shape = c.args.shape.now in
    subst (λ (r : Result Draft DiskFault). AnswersMore d name shape r) (sym p.1) (none_so Draft d name shape p.0 c.in_err-place.ensures.missing)

pub returns-in_err-place-clause-fault : goal.returns-in_err-place-clause-fault
returns-in_err-place-clause-fault g c =
    let p = err_from_is_err_and c.from_residual.result c.from_residual.ensures.1 in
    let none = c.in_err-place.ensures in
    subst (λ (r : Result Draft DiskFault). IfErr r (IsMoreFault c.args.self.now c.args.name.now c.args.shape.now)) (sym (p.1 ∙ ap Err (p.2 ∙ none.fault))) none.missing

pub returns-clause-locked : goal.returns-clause-locked
returns-clause-locked g c = λ locked. inr (c.draft_more_at.ensures.locked locked)

pub returns-clause-limited : goal.returns-clause-limited
returns-clause-limited g c = λ there. c.draft_more_at.ensures.limited

pub returns-in_err-place-clause-planned : goal.returns-in_err-place-clause-planned
returns-in_err-place-clause-planned g c = ok_at_err _ c.from_residual.result _ c.from_residual.ensures.1

pub returns-in_err-place-clause-some : goal.returns-in_err-place-clause-some
returns-in_err-place-clause-some g c = ok_at_err _ c.from_residual.result _ c.from_residual.ensures.1

pub returns-in_err-place-clause-behind : goal.returns-in_err-place-clause-behind
returns-in_err-place-clause-behind g c = ok_at_err _ c.from_residual.result _ c.from_residual.ensures.1

pub returns-in_err-place-clause-begins : goal.returns-in_err-place-clause-begins
returns-in_err-place-clause-begins g c = ok_at_err _ c.from_residual.result _ c.from_residual.ensures.1

pub returns-in_err-place-clause-room : goal.returns-in_err-place-clause-room
returns-in_err-place-clause-room g c = ok_at_err _ c.from_residual.result _ c.from_residual.ensures.1

pub returns-in_err-place-clause-writable : goal.returns-in_err-place-clause-writable
returns-in_err-place-clause-writable g c = ok_at_err _ c.from_residual.result _ c.from_residual.ensures.1

pub draft_more_at-requires-clause-stamp : goal.draft_more_at-requires-clause-stamp
draft_more_at-requires-clause-stamp g c = c.requires.stamp

pub draft_more_at-requires-clause-blocks : goal.draft_more_at-requires-clause-blocks
draft_more_at-requires-clause-blocks g c = c.requires.blocks

pub returns-clause-planned : goal.returns-clause-planned
returns-clause-planned g c = c.draft_more_at.ensures.planned

pub returns-clause-some : goal.returns-clause-some
returns-clause-some g c = c.draft_more_at.ensures.some

pub returns-clause-begins : goal.returns-clause-begins
returns-clause-begins g c = c.draft_more_at.ensures.begins

pub returns-clause-room : goal.returns-clause-room
returns-clause-room g c = c.draft_more_at.ensures.room

pub returns-clause-writable : goal.returns-clause-writable
returns-clause-writable g c = c.draft_more_at.ensures.writable

pub returns-clause-kept : goal.returns-clause-kept
returns-clause-kept g c = c.draft_more_at.ensures.kept

pub returns-clause-spare : goal.returns-clause-spare
returns-clause-spare g c = c.draft_more_at.ensures.spare

pub returns-clause-places : goal.returns-clause-places
returns-clause-places g c = c.draft_more_at.ensures.places

pub returns-clause-reads : goal.returns-clause-reads
returns-clause-reads g c = c.draft_more_at.ensures.reads
