use Rattle.std.proofs.Common.{pos, refl}
use Rattle.cms_line.specs.declared.message.Message.TheVariants.{M024}
use Rattle.cms_files.specs.Files.{no_file_code}
use Rattle.cms_files.proofs.Updates.{stop_so}
use Rattle.cms_files.proofs.update.stop_exists.Goals as goal

pub returns : goal.returns
returns g c =
    let name = c.args.name.now in
    stop_so _ _ (M024 name.file name.kind c.args.mode) (pos no_file_code) c.refuse_exists.result c.stopped.result c.refuse_exists.ensures.does c.refuse_exists.ensures.went refl
    c.stopped.ensures
