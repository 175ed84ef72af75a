use Rattle.std.proofs.Common.{◌≡◌, ◌∙◌, sym, ap, subst, Err, true}
use Rattle.std.proofs.lemmas.Result.{IfErr-weaker}
use Rattle.cms_edf.proofs.Exits.{ok_at_err, same_at_err}
use Rattle.cms_journal.specs.Causes.{Rose}
use Rattle.cms_world.specs.Seen.{seen}
use Rattle.cms_disk.specs.Disks.{AnswersAccess, IsDevices, IsLeft, disk_on, told_with}
use Rattle.cms_disk.specs.declared.fault.AccessFault.{AccessFault}
use Rattle.cms_disk.specs.declared.fault.AccessFault.TheVariants.{Sync}
use Rattle.cms_disk.proofs.ReadSteps.{err_is}
use Rattle.cms_disk.proofs.RecordsPut.{changes_then}
use Rattle.cms_model.specs.LawsUpdates.{now}
use Rattle.cms_model.specs.Trees.{image_of}
use Rattle.cms_journal.specs.Journal.{contents_of}
use Rattle.cms_disk.proofs.Refused.{always, opened_told, opened_units}
use Rattle.cms_disk.proofs.minidisk.Minidisk.access.Goals as goal

pub returns-in_err-settle-clause-unit : goal.returns-in_err-settle-clause-unit
returns-in_err-settle-clause-unit g c = ok_at_err _ c.from_residual.result _ c.from_residual.ensures.1

pub returns-in_err-settle-clause-synced : goal.returns-in_err-settle-clause-synced
returns-in_err-settle-clause-synced g c = ok_at_err _ c.from_residual.result _ c.from_residual.ensures.1

pub returns-clause-unit : goal.returns-clause-unit
returns-clause-unit g c = c.read.ensures.unit

pub settle-requires : goal.settle-requires
settle-requires g c = record { blocks = c.requires.blocks }

pub returns-in_err-settle-clause-answers : goal.returns-in_err-settle-clause-answers
returns-in_err-settle-clause-answers g c = λ j told.
    let is = err_is c.from_residual.result _ c.from_residual.ensures.1 ∙ ap Err c.in_err-settle.ensures.failed.0 in
    subst (AnswersAccess c.args.unit.now (image_of (contents_of j c.args.unit.now.unit.number))) (sym is) tt

pub returns-in_err-settle-clause-left : goal.returns-in_err-settle-clause-left
returns-in_err-settle-clause-left g c = λ j told whole quiet.
    let is = err_is c.from_residual.result _ c.from_residual.ensures.1 ∙ ap Err c.in_err-settle.ensures.failed.0 in
    subst (IsLeft (disk_on c.args.unit.now) j c.args.unit.now.unit.number) (sym is) tt

pub returns-in_err-settle-clause-refused : goal.returns-in_err-settle-clause-refused
returns-in_err-settle-clause-refused g c =
    let failed = c.in_err-settle.ensures.failed in
    let new = g.W.World.told c.settle.new.world in
    let old = g.W.World.told c.args.world.now in
    same_at_err c.from_residual.result (λ (e : AccessFault). new ≡ told_with e c.args.doubt c.args.unit.now.unit.number old) _ c.from_residual.ensures.1
    (subst (λ (e : AccessFault). new ≡ told_with e c.args.doubt c.args.unit.now.unit.number old) (sym failed.0) failed.2)

pub returns-in_err-settle-clause-doubt : goal.returns-in_err-settle-clause-doubt
returns-in_err-settle-clause-doubt g c =
    same_at_err c.from_residual.result (λ (e : AccessFault). e ≡ Sync → c.args.doubt ≡ true) _ c.from_residual.ensures.1 (λ is. c.in_err-settle.ensures.failed.1)

pub returns-in_err-settle-clause-changes : goal.returns-in_err-settle-clause-changes
returns-in_err-settle-clause-changes g c =
    let s = c.in_err-settle.ensures.changes in
    record {
      grown = s.grown;
      faults = s.faults;
      edges = s.edges;
      cause = same_at_err c.from_residual.result (λ (e : AccessFault). IsDevices e → Rose (g.W.World.faults c.args.world.now) (g.W.World.faults c.settle.new.world)) _ c.from_residual.ensures.1 s.cause;
    }

pub read-requires : goal.read-requires
read-requires g c = record { blocks = c.settle.ensures.blocks }

pub returns-clause-answers : goal.returns-clause-answers
returns-clause-answers g c = λ j told. c.read.ensures.answers j (sym c.read.ensures.reads.told ∙ told)

pub returns-clause-left : goal.returns-clause-left
returns-clause-left g c = λ j told whole quiet.
    let is = sym c.read.ensures.reads.told ∙ told in
    c.read.ensures.left j is whole (c.in_ok-settle.ensures.quiet j is quiet)

pub returns-clause-synced : goal.returns-clause-synced
returns-clause-synced g c = always c.read.result (c.read.ensures.reads.told ∙ c.in_ok-settle.ensures.synced)

pub returns-clause-refused : goal.returns-clause-refused
returns-clause-refused g c = opened_told c.read.result _ _ c.args.doubt c.args.unit.now.unit.number c.read.ensures.opened (c.read.ensures.reads.told ∙ c.in_ok-settle.ensures.synced)

pub returns-clause-doubt : goal.returns-clause-doubt
returns-clause-doubt g c =
    IfErr-weaker c.read.result (λ (e : AccessFault). e ≡ Sync → ⊥) (λ (e : AccessFault). e ≡ Sync → c.args.doubt ≡ true) (λ e none is. absurd (none is)) c.read.ensures.opened

pub returns-clause-changes : goal.returns-clause-changes
returns-clause-changes g c =
    let s = c.settle.ensures.changes in
    changes_then (seen g.W.World c.args.world.now) (seen g.W.World c.settle.new.world) (seen g.W.World c.read.new.world) IsDevices c.read.result s.grown s.faults s.edges
    (opened_units (seen g.W.World c.settle.new.world) (seen g.W.World c.read.new.world) c.read.result c.read.ensures.opened c.read.ensures.reads)
