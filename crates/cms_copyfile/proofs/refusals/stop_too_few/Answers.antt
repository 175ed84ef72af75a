use Rattle.std.proofs.Common.{pos, refl}
use Rattle.cms_text.specs.Numbers.{decimal_of}
use Rattle.cms_line.specs.declared.message.Message.TheVariants.{M121}
use Rattle.cms_files.proofs.Updates.{stop_so}
use Rattle.cms_copyfile.specs.Copyfile.{no_record_code}
use Rattle.cms_copyfile.proofs.refusals.stop_too_few.Goals as goal

pub returns : goal.returns
returns g c =
    stop_so _ _ (M121 (decimal_of c.args.count)) (pos no_record_code) c.refuse_too_few.result c.stopped.result c.refuse_too_few.ensures.does c.refuse_too_few.ensures.went refl c.stopped.ensures
