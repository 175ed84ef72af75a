use Rattle.std.proofs.lemmas.Result.{err_from_is_err_and}
use Rattle.cms_search.specs.Calls.{spot}
use Rattle.cms_access.specs.Format.{remaking}
use Rattle.cms_access.proofs.Questioned.{acts_ended, acts_labelled, acts_unlabelled}
use Rattle.cms_access.proofs.format.erase.Goals as goal

pub returns-in_err-volid-clause-acts : goal.returns-in_err-volid-clause-acts
returns-in_err-volid-clause-acts g c =
    let p = err_from_is_err_and c.from_residual.result c.from_residual.ensures.1 in
    rw (p.1, p.2) (acts_unlabelled _ _ (remaking c.args.line) _ c.in_err-volid.ensures.acts)

pub returns-in-Given-clause-acts : goal.returns-in-Given-clause-acts
returns-in-Given-clause-acts g c =
    let is = c.in-Given.is in
    let acts = rw is at c.in_ok-volid.ensures.acts in
    acts_labelled _ (spot g.W.World c.ask_label.new.world c.ask_label.new.state) _ (remaking c.args.line) c.in-Given.volid c.remake_disk.result acts c.remake_disk.ensures.acts

pub returns-in-Ended-clause-acts : goal.returns-in-Ended-clause-acts
returns-in-Ended-clause-acts g c =
    let is = c.in-Ended.is in
    let acts = rw is at c.in_ok-volid.ensures.acts in
    acts_ended _ _ (remaking c.args.line) c.in-Ended.course acts
