use Rattle.std.proofs.Common.{◌≡◌, ◌∙◌, ap}
use Rattle.indexmap.specs.IndexMap.{insert_entry}
use Rattle.indexmap.proofs.CallerLemmas.{insert_entry-new}
use Rattle.cms_names.specs.declared.name.Name.{Name}
use Rattle.cms_fields.specs.declared.entry.Entry.{Entry}
use Rattle.cms_edf.proofs.NamesMet.{same_as, none_there}
use Rattle.cms_edf.proofs.contents.insert.Goals as goal

pub returns-in-Ok-clause-ok : goal.returns-in-Ok-clause-ok
returns-in-Ok-clause-ok c =
    let a = c.args in
    let named : c.entry.result.now.name ≡ a.file.entry.name = ap (λ (e : Entry). e.name) c.entry.ensures in
    c.in-Ok.ensures.entries
    ∙ (ap (λ (name : Name). insert_entry same_as a.files.now.entries name a.file) named
    ∙ insert_entry-new same_as a.files.now a.file.entry.name a.file (none_there a.file.entry.name a.files.now.entries c.requires.new))
