use Rattle.std.proofs.Common.{◌≡◌, ◌∙◌, ℕ, Option, sym, subst, rules}
use Rattle.std.specs.Prelude.{IfSome}
use Rattle.std.proofs.lemmas.Option.{same_Some}
use Rattle.cms_held.specs.Kept.{IsSized}
use Rattle.cms_edf.specs.declared.held.FileInfo.{FileInfo}
use Rattle.cms_disk.specs.Additions.{CanExtend}
use Rattle.cms_disk.proofs.Lengthened.{can_extend}
use Rattle.cms_disk.proofs.minidisk.Minidisk.shape_with.Goals as goal

pub returns-clause-can : goal.returns-clause-can
returns-clause-can c = λ info bytes at here.
    let own = c.info-info.result in
    let is : own ≡ info = same_Some own info (sym c.info-info.ensures.info ∙ at) in
    let stored : c.stored-stored.result ≡ bytes = same_Some c.stored-stored.result bytes (sym c.stored-stored.ensures.stored ∙ here) in
    let sized = subst (λ (o : Option FileInfo). IfSome o (λ i. IsSized i.format i.length i.count c.stored-stored.result)) c.info-info.ensures.info c.stored-stored.ensures.sized in
    rw (← is, ← stored)
    (can_extend own c.stored-stored.result c.args.more.now _ (search rules) c.info-info.ensures.sound sized c.requires.more (c.requires.fits own c.info-info.ensures.info))

pub returns-in_default-clause-shape : goal.returns-in_default-clause-shape
returns-in_default-clause-shape c = tt

pub returns-in_default-clause-can : goal.returns-in_default-clause-can
returns-in_default-clause-can c = tt

pub returns-clause-fault : goal.returns-clause-fault
returns-clause-fault c = tt

pub returns-clause-many : goal.returns-clause-many
returns-clause-many c = tt
