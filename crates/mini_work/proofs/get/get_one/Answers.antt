use Rattle.mini_work.proofs.Caused.{later_same}
use Rattle.mini_work.specs.Causes.{counts}
use Rattle.std.proofs.Common.{refl, sym}
use Rattle.std.proofs.lemmas.Result.{on_ok_weaker}
use Rattle.cms_journal.proofs.Pieces.{grown_same}
use Rattle.cms_model.specs.LawsUpdates.{now}
use Rattle.cms_disk.proofs.FilesFound.{none_found}
use Rattle.mini_work.proofs.GotOut.{begun_noted, denied_only, gets_refused, on_ok_said}
use Rattle.mini_work.proofs.HandedOut.{shown_none}
use Rattle.mini_work.proofs.get.get_one.Goals as goal

pub get_file-requires-clause-info : goal.get_file-requires-clause-info
get_file-requires-clause-info g c = (c.in-Some.place, sym c.in-Some.ensures, c.info.ensures.info)

pub returns-in-Some : goal.returns-in-Some
returns-in-Some g c = c.get_file.ensures

pub get_file-requires-clause-may : goal.get_file-requires-clause-may
get_file-requires-clause-may g c = c.requires.may

pub returns-in-None : goal.returns-in-None
returns-in-None g c = record {
  gets = λ m s.
      let d = c.args.disk.now in
      let name = c.args.name.now in
      gets_refused c.args.way (g.W.World.told c.args.world.now) (g.H.Host.told c.args.host.now) (g.H.Host.told c.refuse_change.new.host) _
      c.refuse_change.result (denied_only _ c.refuse_change.result c.refuse_change.ensures.refused) c.refuse_change.ensures.noted
      (shown_none c.args.form m name (none_found d name (sym c.in-None.ensures) (now s.at d.volume.unit) m s.minidisk.stands));
  grown = grown_same _ _ refl;
  files = on_ok_said c.refuse_change.result c.refuse_change.ensures.files;
  begun = on_ok_weaker c.refuse_change.result (λ noted file. begun_noted (g.H.Host.told c.args.host.now) (g.H.Host.told c.refuse_change.new.host) noted (c.requires.begun file)) c.refuse_change.ensures.noted;
  cause = λ m s. let at = counts g.W.World g.H.Host in c.refuse_change.ensures.cause (at c.args.world.now c.args.host.now) _ _ (later_same (at c.args.world.now c.args.host.now)) (λ e. absurd (cc e));
}
