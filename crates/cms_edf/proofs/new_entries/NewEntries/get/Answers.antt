use Rattle.std.proofs.Common.{ap, sym, ◌∙◌, Some, List, slice_get}
use Rattle.indexmap.specs.IndexMap.{values}
use Rattle.cms_fields.specs.declared.entry.Entry.{Entry}
use Rattle.cms_held.specs.Renewals.{entries_held, moved_entry}
use Rattle.cms_edf.specs.NewEntries.{altered}
use Rattle.cms_edf.specs.declared.new_entries.Alteration.{Alteration}
use Rattle.cms_edf.proofs.NewEntries.{moved_there}
use Rattle.cms_edf.proofs.new_entries.NewEntries.get.Goals as goal

pub returns-in-Moved : goal.returns-in-Moved
returns-in-Moved c =
    let i = c.self.inside in
    let fs = values i.files.now in
    let pivot = c.in-Moved.pivot in
    let own = sym c.self.view_is ∙ ap (λ (a : Alteration). altered (entries_held fs) i.count a) c.in-Moved.is in
    ap (λ (l : List Entry). slice_get l c.args.nth) own
    ∙ (moved_there fs pivot c.args.nth c.index-in-Moved.result.now c.index-in-Moved.ensures
    ∙ ap (λ (e : Entry). Some e) (sym (c.moved_entry.ensures ∙ ap (moved_entry pivot) c.entry-in-Moved.ensures)))
