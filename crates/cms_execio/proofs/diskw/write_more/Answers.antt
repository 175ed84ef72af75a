use Rattle.std.proofs.Common.{refl, arith}
use Rattle.std.proofs.lemmas.Result.{err_from_is_err_and}
use Rattle.cms_search.proofs.Acts.{cut_off}
use Rattle.cms_execio.specs.Records.{records_of}
use Rattle.cms_execio.proofs.Written.{acts_more}
use Rattle.cms_execio.proofs.diskw.write_more.Goals as goal

pub returns-in_err-more-clause-acts : goal.returns-in_err-more-clause-acts
returns-in_err-more-clause-acts g c =
    let p = err_from_is_err_and c.from_residual.result c.from_residual.ensures.1 in
    rw (p.1, p.2) (cut_off _ _ _ _ refl (omega arith) (omega arith) refl)

pub returns-clause-acts : goal.returns-clause-acts
returns-clause-acts g c =
    acts_more _ _ c.args.target.now.mode.letter c.args.target.now.name (records_of c.args.there.now.info.format c.args.there.now.info.length c.args.lines.now) c.of-stamp.result c.in_ok-more.more _
    c.of-stamp.ensures.value c.in_ok-more.ensures.stamp_is (c.write_last.ensures.acts _ c.in_ok-more.ensures.stands)
