use Rattle.std.proofs.Common.{ap, ◌∙◌}
use Rattle.indexmap.specs.IndexMap.{insert_entry}
use Rattle.cms_fields.specs.declared.entry.Entry.{Entry}
use Rattle.cms_edf.proofs.FilesPut.{Puts, puts}
use Rattle.cms_edf.proofs.NamesMet.{same_as}
use Rattle.cms_edf.proofs.draft_commit.put_file.Goals as goal

put_there : (c : goal.Joined-unwrap) → Puts c.args.files.now.entries c.insert.new.self.entries c.args.file
put_there c =
    puts c.args.files.now.entries c.insert.new.self.entries c.args.file c.requires.named
    (rw c.unwrap.ensures at c.insert.ensures.entries ∙ ap (λ (e : Entry). insert_entry same_as c.args.files.now.entries e.name c.args.file) c.entry.ensures)

pub returns-clause-files : goal.returns-clause-files
returns-clause-files c = (put_there c).values

pub returns-clause-named : goal.returns-clause-named
returns-clause-named c = (put_there c).named
