use Rattle.mini_work.proofs.Caused.{file_stops, later_same}
use Rattle.std.proofs.Common.{refl}
use Rattle.std.proofs.lemmas.Result.{err_from_is_err_and}
use Rattle.cms_journal.proofs.Pieces.{grown_same}
use Rattle.cms_disk.proofs.RecordsPut.{same_none}
use Rattle.mini_work.proofs.PutAll.{none_given}
use Rattle.mini_work.specs.declared.fault.Fault.TheVariants as fault
use Rattle.mini_work.specs.declared.host_records.FileFault.TheVariants as file
use Rattle.mini_work.proofs.host_records.put_records.Goals as goal

pub returns-in_err-buffer-clause-puts : goal.returns-in_err-buffer-clause-puts
returns-in_err-buffer-clause-puts g c =
    let p = err_from_is_err_and c.from_residual.result c.from_residual.ensures.1 in
    rw (p.1, p.2) (λ start d m change stamp records h bytes goes at left are.
    none_given start (g.W.World.told c.args.world.now) d m c.args.draft.now change stamp _ records goes)

pub returns-in_err-buffer-clause-same : goal.returns-in_err-buffer-clause-same
returns-in_err-buffer-clause-same g c = same_none c.args.draft.now

pub returns-in_err-buffer-clause-grown : goal.returns-in_err-buffer-clause-grown
returns-in_err-buffer-clause-grown g c = grown_same _ _ refl

pub returns-in_err-buffer-clause-cause : goal.returns-in_err-buffer-clause-cause
returns-in_err-buffer-clause-cause g c = file_stops _ _ (file.Fault fault.Memory) c.from_residual.result c.from_residual.ensures.1 refl (later_same _)

pub returns-clause-cause : goal.returns-clause-cause
returns-clause-cause g c = c.put_open.ensures.cause
