use Rattle.mini_work.proofs.Caused.{end_refuse}
use Rattle.mini_work.specs.Causes.{counts}
use Rattle.std.proofs.Common.{refl, sym}
use Rattle.mini_work.specs.Puts.{Unnamed}
use Rattle.mini_work.proofs.PutOn.{refused_put}
use Rattle.mini_work.proofs.put.put_one.Goals as goal

pub put_as-requires-clause-named : goal.put_as-requires-clause-named
put_as-requires-clause-named g c = sym c.in-Some.ensures

pub returns-in-Some : goal.returns-in-Some
returns-in-Some g c = c.put_as.ensures

pub returns-in-None : goal.returns-in-None
returns-in-None g c = record {
  goes = λ files is.
      refused_put files c.args.put.now c.args.stamp.now c.args.file.now _ c.args.disk.now c.refuse.result c.refuse.ensures.status
      (λ m s. Unnamed (sym c.in-None.ensures));
  may = c.requires.may;
  files = c.refuse.ensures.files;
  writable = refl;
  cause = λ may. let at = counts g.W.World g.H.Host in end_refuse _ _ c.refuse.result (c.refuse.ensures.cause (at c.args.world.now c.args.host.now)) c.refuse.ensures.status;
}
