use Rattle.std.proofs.lemmas.Result.{err_from_is_err_and}
use Rattle.cms_search.specs.Calls.{spot}
use Rattle.cms_search.proofs.Stepped.{if_some}
use Rattle.cms_files.proofs.Updates.{device_at}
use Rattle.cms_copyfile.proofs.AllWritten.{put_ends, put_stops}
use Rattle.cms_copyfile.proofs.outcome.end_output.Goals as goal

pub returns-in_err-changed-clause-acts : goal.returns-in_err-changed-clause-acts
returns-in_err-changed-clause-acts g c = λ old s change up device names.
    let p = err_from_is_err_and c.from_residual.result c.from_residual.ensures.1 in
    rw (p.1, p.2)
    (put_stops old (spot g.W.World c.end_update.new.world c.end_update.new.state) c.args.file.now.letter change c.in_err-changed.field-0.0 (c.in_err-changed.ensures.acts old s change up))

pub returns-clause-acts : goal.returns-clause-acts
returns-clause-acts g c = λ old s change up device names.
    put_ends old (spot g.W.World c.end_update.new.world c.end_update.new.state) (spot g.W.World c.end_writing.new.world c.end_writing.new.state) c.args.file.now.letter c.args.vdev change
    c.args.file.now.name c.in_ok-changed.changed c.end_writing.result (c.in_ok-changed.ensures.acts old s change up)
    (device_at old.state c.args.file.now.letter c.args.vdev s up.there (if_some _ _ s up.there device)) names (λ one named. c.end_writing.ensures.acts one named)
