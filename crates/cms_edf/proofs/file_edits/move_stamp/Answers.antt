use Rattle.std.proofs.Common.{◌≡◌, refl, sym, ◌∙◌, ap}
use Rattle.std.proofs.lemmas.Option.{same_Some}
use Rattle.cms_fields.specs.declared.entry.Entry.{Entry}
use Rattle.cms_held.specs.Renewals.{moved_file}
use Rattle.cms_edf.proofs.StampsMoved.{stamped}
use Rattle.cms_edf.proofs.file_edits.move_stamp.Goals as goal

pub returns-clause-files : goal.returns-clause-files
returns-clause-files c = λ f there.
    let i = c.file.inside in
    let own : c.index_mut-file.result.now ≡ f = same_Some c.index_mut-file.result.now f (sym c.index_mut-file.ensures.value ∙ there) in
    let same = ap (λ (e : Entry). record { entry = e; tree = i.tree; length = i.length; size = i.size; start = i.start }) c.moved_entry-file-inside.ensures
    ∙ ap (moved_file c.args.pivot) (c.file.view_is ∙ own) in
    (stamped c.args.files.now.entries _ c.args.place c.args.pivot f _ c.requires.named there same refl).values

pub returns-clause-named : goal.returns-clause-named
returns-clause-named c =
    let i = c.file.inside in
    let there = c.index_mut-file.ensures.value in
    let same = ap (λ (e : Entry). record { entry = e; tree = i.tree; length = i.length; size = i.size; start = i.start }) c.moved_entry-file-inside.ensures
    ∙ ap (moved_file c.args.pivot) c.file.view_is in
    (stamped c.args.files.now.entries _ c.args.place c.args.pivot c.index_mut-file.result.now _ c.requires.named there same refl).named
