use Rattle.std.proofs.lemmas.Result.{err_from_is_err_and}
use Rattle.cms_search.specs.Calls.{spot}
use Rattle.cms_access.specs.Format.{relabelling}
use Rattle.cms_access.proofs.Questioned.{acts_ended, acts_labelled, acts_unlabelled}
use Rattle.cms_access.proofs.format.relabel_disk.Goals as goal

pub returns-in_err-volid-clause-acts : goal.returns-in_err-volid-clause-acts
returns-in_err-volid-clause-acts g c =
    let p = err_from_is_err_and c.from_residual.result c.from_residual.ensures.1 in
    rw (p.1, p.2) (acts_unlabelled _ _ (relabelling c.args.letter) _ c.in_err-volid.ensures.acts)

pub returns-in-Given-clause-acts : goal.returns-in-Given-clause-acts
returns-in-Given-clause-acts g c =
    let is = c.in-Given.is in
    let acts = rw is at c.in_ok-volid.ensures.acts in
    acts_labelled _ (spot g.W.World c.ask_label.new.world c.ask_label.new.state) _ (relabelling c.args.letter) c.in-Given.volid c.relabel_as.result acts c.relabel_as.ensures.acts

pub returns-in-Ended-clause-acts : goal.returns-in-Ended-clause-acts
returns-in-Ended-clause-acts g c =
    let is = c.in-Ended.is in
    let acts = rw is at c.in_ok-volid.ensures.acts in
    acts_ended _ _ (relabelling c.args.letter) c.in-Ended.course acts
