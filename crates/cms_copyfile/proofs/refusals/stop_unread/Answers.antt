use Rattle.std.proofs.Common.{pos, refl}
use Rattle.cms_search.specs.Refusals.{unread_code, unread_message}
use Rattle.cms_files.proofs.Updates.{stop_so}
use Rattle.cms_copyfile.proofs.refusals.stop_unread.Goals as goal

pub returns : goal.returns
returns g c =
    stop_so _ _ (unread_message c.args.fault c.args.vdev) (pos (unread_code c.args.fault)) c.refuse_unread.result c.stopped.result c.refuse_unread.ensures.does c.refuse_unread.ensures.went refl
    c.stopped.ensures
