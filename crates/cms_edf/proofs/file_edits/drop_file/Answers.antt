use Rattle.cms_edf.proofs.FilesRenamed.{drops, was_removed}
use Rattle.cms_edf.proofs.file_edits.drop_file.Goals as goal

pub returns-clause-files : goal.returns-clause-files
returns-clause-files c =
    let e = c.swap_remove_index.ensures in
    let es = c.args.files.now.entries in
    let r = was_removed es c.swap_remove_index.new.self.entries c.args.place c.swap_remove_index.result e.entry e.entries c.requires.named c.requires.within in
    λ f. (drops es c.swap_remove_index.new.self.entries c.args.place r.0 f c.requires.named r.1 c.requires.within).values

pub returns-clause-named : goal.returns-clause-named
returns-clause-named c =
    let e = c.swap_remove_index.ensures in
    let es = c.args.files.now.entries in
    let r = was_removed es c.swap_remove_index.new.self.entries c.args.place c.swap_remove_index.result e.entry e.entries c.requires.named c.requires.within in
    (drops es c.swap_remove_index.new.self.entries c.args.place r.0 r.0.1 c.requires.named r.1 c.requires.within).named
