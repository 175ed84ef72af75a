use Rattle.std.proofs.Common.{rules, ◌≡◌, Ok, Err}
use Rattle.std.proofs.lemmas.Result.{err_from_is_err_and}
use Rattle.cms_journal.specs.Journal.{Journal, contents_of}
use Rattle.cms_fields.specs.Labels.{label_of}
use Rattle.cms_model.specs.Trees.{image_of}
use Rattle.cms_model.specs.Volumes.{blamed}
use Rattle.cms_model.specs.declared.fault.OpenFault.TheVariants as failed
use Rattle.cms_edf.proofs.VolumeOpened.{too_few, label_bad, answered}
use Rattle.cms_edf.proofs.Exits.{ok_at_err, reads_at_err, reads_then}
use Rattle.cms_edf.proofs.opened_volume.open_volume.Goals as goal

pub returns-then-unit-lt6-clause-answers : goal.returns-then-unit-lt6-clause-answers
returns-then-unit-lt6-clause-answers g c = λ j told. too_few (record { bsize = c.args.bsize; count = c.args.unit.now.blocks }) (image_of (contents_of j c.args.unit.now.number)) (search rules)

pub returns-in_err-label-clause-answers : goal.returns-in_err-label-clause-answers
returns-in_err-label-clause-answers g c =
    let a = c.args in
    let p = err_from_is_err_and c.from_residual-in_err-label.result c.from_residual-in_err-label.ensures.1 in
    let bad : blamed failed.Label (label_of a.bsize a.unit.now.blocks c.in_ok-label_bytes.label_bytes.items) ≡ Err c.in_err-label.field-0.0 = search rules in
    rw (p.1, p.2) (λ j told. label_bad (record { bsize = a.bsize; count = a.unit.now.blocks })
    (image_of (contents_of j a.unit.now.number)) c.in_ok-label_bytes.label_bytes.items c.in_err-label.field-0.0 (search rules)
    (c.in_ok-label_bytes.ensures.bytes j told) bad)

pub returns-clause-answers : goal.returns-clause-answers
returns-clause-answers g c =
    let a = c.args in
    let good : blamed failed.Label (label_of a.bsize a.unit.now.blocks c.in_ok-label_bytes.label_bytes.items) ≡ Ok c.in_ok-label.label = search rules in
    answered a.unit.now.number (record { bsize = a.bsize; count = a.unit.now.blocks }) (g.W.World.told a.world.now)
    (λ (j : Journal). image_of (contents_of j a.unit.now.number)) c.in_ok-label.label c.in_ok-label_bytes.label_bytes.items
    c.open_labelled.result (search rules) c.in_ok-label_bytes.ensures.bytes good (search rules) (search rules)

pub returns-then-unit-lt6-clause-disk : goal.returns-then-unit-lt6-clause-disk
returns-then-unit-lt6-clause-disk g c = tt

pub returns-then-unit-lt6-clause-unit : goal.returns-then-unit-lt6-clause-unit
returns-then-unit-lt6-clause-unit g c = tt

pub returns-then-unit-lt6-clause-kept : goal.returns-then-unit-lt6-clause-kept
returns-then-unit-lt6-clause-kept g c = tt

pub returns-in_err-label_bytes-clause-disk : goal.returns-in_err-label_bytes-clause-disk
returns-in_err-label_bytes-clause-disk g c = ok_at_err _ c.from_residual.result _ c.from_residual.ensures.1

pub returns-in_err-label_bytes-clause-unit : goal.returns-in_err-label_bytes-clause-unit
returns-in_err-label_bytes-clause-unit g c = ok_at_err _ c.from_residual.result _ c.from_residual.ensures.1

pub returns-in_err-label_bytes-clause-kept : goal.returns-in_err-label_bytes-clause-kept
returns-in_err-label_bytes-clause-kept g c = ok_at_err _ c.from_residual.result _ c.from_residual.ensures.1

pub returns-in_err-label-clause-disk : goal.returns-in_err-label-clause-disk
returns-in_err-label-clause-disk g c = ok_at_err _ c.from_residual-in_err-label.result _ c.from_residual-in_err-label.ensures.1

pub returns-in_err-label-clause-unit : goal.returns-in_err-label-clause-unit
returns-in_err-label-clause-unit g c = ok_at_err _ c.from_residual-in_err-label.result _ c.from_residual-in_err-label.ensures.1

pub returns-in_err-label-clause-kept : goal.returns-in_err-label-clause-kept
returns-in_err-label-clause-kept g c = ok_at_err _ c.from_residual-in_err-label.result _ c.from_residual-in_err-label.ensures.1

pub returns-clause-disk : goal.returns-clause-disk
returns-clause-disk g c = c.open_labelled.ensures.disk

pub returns-clause-unit : goal.returns-clause-unit
returns-clause-unit g c = c.open_labelled.ensures.unit

pub returns-clause-kept : goal.returns-clause-kept
returns-clause-kept g c = c.open_labelled.ensures.kept

pub returns-in_err-label_bytes-clause-reads : goal.returns-in_err-label_bytes-clause-reads
returns-in_err-label_bytes-clause-reads g c = reads_at_err c.from_residual.result _ c.from_residual.ensures.1 c.in_err-label_bytes.ensures.reads

pub returns-clause-reads : goal.returns-clause-reads
returns-clause-reads g c = reads_then c.in_ok-label_bytes.ensures.reads c.open_labelled.ensures.reads
