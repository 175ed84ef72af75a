use Rattle.std.proofs.Common.{pos, refl}
use Rattle.cms_files.specs.Files.{search_code, search_message}
use Rattle.cms_files.proofs.Updates.{stop_so}
use Rattle.cms_files.proofs.update.stop_search.Goals as goal

pub returns : goal.returns
returns g c =
    let same = c.as_slice.ensures in
    stop_so _ _ (search_message c.args.words.now c.args.place c.args.fault) (pos (search_code c.args.fault)) c.refuse_search.result c.stopped.result
    (rw same at c.refuse_search.ensures.does) c.refuse_search.ensures.went refl c.stopped.ensures
