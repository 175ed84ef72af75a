use Rattle.std.proofs.Common.{rules, ◌≡◌, false}
use Rattle.cms_copyfile.proofs.NextPut.{no_bytes, not_fitting}
use Rattle.cms_copyfile.proofs.put.may_come.Goals as goal

pub returns-then-not-fits-clause-none : goal.returns-then-not-fits-clause-none
returns-then-not-fits-clause-none c = λ failed front done more drafts.
    let off : c.fits.result ≡ false = search rules in
    not_fitting c.args.draft.now c.args.text.now c.shape-shape.result.now c.fits.result c.shape-shape.ensures c.fits.ensures off front done more drafts

pub returns-clause-none : goal.returns-clause-none
returns-clause-none c = λ failed front done more drafts.
    no_bytes c.args.draft.now c.args.text.now c.shape-shape.result.now c.bytes_left.result c.has_bytes.result c.shape-shape.ensures c.bytes_left.ensures c.has_bytes.ensures failed front done more drafts
