use Rattle.std.proofs.Common.{◌∙◌, List, ℕ, ap, get_or, map, subst, take}
use Rattle.std.proofs.lemmas.List.{take_all}
use Rattle.cms_files.specs.Gathered.{IsGathered, record_in}
use Rattle.cms_ext.proofs.Puts.{gathers_next}
use Rattle.cms_ext.proofs.file_write.gather.Goals as goal

pub loop-record-preserved : goal.loop-record-preserved
loop-record-preserved c =
    let format = c.args.form.format in
    let size = c.args.form.length in
    let k = c.loop-record.record-index in
    let text = c.record-item.result in
    let items = c.as_slice-record-items.ensures in
    let bytes = c.bytes.ensures.bytes in
    gathers_next format size c.args.records.now k text _ (rw items at c.loop-record-test.true)
    (c.record-item.is ∙ ap (λ (l : List (List ℕ)). get_or l k text) items)
    (rw bytes at c.in_ok-push.ensures format size (map (record_in format size) (take k c.args.records.now)) c.loop-record.invariant)

pub returns : goal.returns
returns c =
    let format = c.args.form.format in
    let size = c.args.form.length in
    let items = c.as_slice-record-items.ensures in
    subst (λ (rs : List (List ℕ)). IsGathered format size (map (record_in format size) rs) c.loop-record.gathered)
    (take_all c.loop-record.record-index c.args.records.now (rw items at c.loop-record-test.false)) c.loop-record.invariant
