use Rattle.mini_work.proofs.Caused.{end_fails, end_refuse, end_then, later_same}
use Rattle.mini_work.specs.Causes.{counts}
use Rattle.std.proofs.Common.{◌∙◌, refl, subst}
use Rattle.std.proofs.lemmas.Result.{err_from_is_err_and}
use Rattle.mini_work.specs.FilePuts.{FindsRefusal}
use Rattle.mini_work.specs.Puts.{IsPut}
use Rattle.mini_work.proofs.Hosted.{files_then}
use Rattle.mini_work.proofs.PartsJoined.{ended_any}
use Rattle.mini_work.proofs.PutOn.{refused_put}
use Rattle.mini_work.proofs.put.put_as.Goals as goal

pub put_named-requires-clause-ready : goal.put_named-requires-clause-ready
put_named-requires-clause-ready g c =
    subst (FindsRefusal c.args.put.now c.args.file.now c.args.disk.now (g.H.Host.told c.args.host.now) (g.H.Host.told c.find_refusal.new.host))
    c.in-None.is c.in_ok-refusal.ensures.finds

pub returns-in_err-refusal : goal.returns-in_err-refusal
returns-in_err-refusal g c = record {
  goes = λ files is.
      let p = err_from_is_err_and c.from_residual.result c.from_residual.ensures.1 in
      ended_any (IsPut files c.args.put.now c.args.stamp.now c.args.file.now) _ c.args.disk.now p.0 _ p.1;
  may = c.requires.may;
  files = c.in_err-refusal.ensures.files;
  writable = refl;
  cause = λ may. let at = counts g.W.World g.H.Host in let x = c.in_err-refusal.ensures.cause (at c.args.world.now c.args.host.now) in end_fails _ _ _ c.in_err-refusal.field-0.0 c.from_residual.result (later_same _) c.from_residual.ensures.1 x.later x.failed;
}

pub returns-in-Some : goal.returns-in-Some
returns-in-Some g c = record {
  goes = λ files is.
      refused_put files c.args.put.now c.args.stamp.now c.args.file.now _ c.args.disk.now c.refuse.result c.refuse.ensures.status
      (λ m s. subst (FindsRefusal c.args.put.now c.args.file.now c.args.disk.now (g.H.Host.told c.args.host.now) (g.H.Host.told c.find_refusal.new.host))
      c.in-Some.is c.in_ok-refusal.ensures.finds files is _ m s);
  may = c.requires.may;
  files = c.refuse.ensures.files ∙ c.in_ok-refusal.ensures.files;
  writable = refl;
  cause = λ may. let at = counts g.W.World g.H.Host in end_then _ _ _ _ (c.in_ok-refusal.ensures.cause (at c.args.world.now c.args.host.now)).later (end_refuse _ _ c.refuse.result (c.refuse.ensures.cause (at c.args.world.now c.find_refusal.new.host)) c.refuse.ensures.status);
}

pub returns-in-None : goal.returns-in-None
returns-in-None g c = record {
  goes = λ files is.
      let host = g.H.Host.told in
      c.put_named.ensures.goes files (files_then (host c.args.host.now) (host c.find_refusal.new.host) files c.in_ok-refusal.ensures.files is);
  may = c.put_named.ensures.may;
  files = c.put_named.ensures.files ∙ c.in_ok-refusal.ensures.files;
  writable = c.put_named.ensures.writable;
  cause = λ may. let at = counts g.W.World g.H.Host in end_then _ _ _ _ (c.in_ok-refusal.ensures.cause (at c.args.world.now c.args.host.now)).later (c.put_named.ensures.cause may);
}
