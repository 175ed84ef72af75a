use Rattle.cms_fileops.proofs.Renames.{renamed_number}
use Rattle.cms_fileops.proofs.rename.rename_files.Goals as goal

pub update_taken-requires-clause-takes : goal.update_taken-requires-clause-takes
update_taken-requires-clause-takes g c = λ f small. renamed_number c.args.line.now.files f c.requires.number small
