use Rattle.std.proofs.Common.{FitsSigned, rules, subst, sym, w32}
use Rattle.std.proofs.lemmas.Int.{to_z-of_z}
use Rattle.mini_words.specs.declared.request.Request.{Request}
use Rattle.mini_work.specs.Requests.{IsDone, TellsRecords}
use Rattle.mini_work.proofs.Done.{done_erase, done_list, done_make, done_rename}
use Rattle.mini_work.proofs.command.carry_out.Goals as goal

pub returns-in-List-clause-goes : goal.returns-in-List-clause-goes
returns-in-List-clause-goes g c = λ is.
    done_list c.args.request.now c.in-List.image c.in-List.long c.in-List.names c.as_slice.result.now (g.H.Host.told c.args.host.now) (g.H.Host.told c.list.new.host) (g.W.World.told c.list.new.world) c.list.result
    c.in-List.is c.as_slice.ensures (c.list.ensures.goes is)

pub returns-in-Info-clause-goes : goal.returns-in-Info-clause-goes
returns-in-Info-clause-goes g c = λ is.
    subst (λ (q : Request). IsDone q (g.H.Host.told c.args.host.now) (g.H.Host.told c.info.new.host) (g.W.World.told c.info.new.world) c.info.result) (sym c.in-Info.is) (c.info.ensures.goes is)

pub returns-in-Get-clause-goes : goal.returns-in-Get-clause-goes
returns-in-Get-clause-goes g c = λ is.
    subst (λ (q : Request). IsDone q (g.H.Host.told c.args.host.now) (g.H.Host.told c.get.new.host) (g.W.World.told c.get.new.world) c.get.result) (sym c.in-Get.is) (c.get.ensures.goes is)

pub returns-in-Put-clause-goes : goal.returns-in-Put-clause-goes
returns-in-Put-clause-goes g c = λ is.
    subst (λ (q : Request). IsDone q (g.H.Host.told c.args.host.now) (g.H.Host.told c.put.new.host) (g.W.World.told c.put.new.world) c.put.result) (sym c.in-Put.is)
    (λ files there. c.put.ensures.goes files there is)

pub returns-in-Erase-clause-goes : goal.returns-in-Erase-clause-goes
returns-in-Erase-clause-goes g c = λ is.
    let small : FitsSigned w32 c.in-Erase.offset = search rules in
    done_erase c.args.request.now c.in-Erase.image c.in-Erase.says c.in-Erase.offset _ c.in-Erase.names c.as_slice-in-Erase.result.now (g.H.Host.told c.args.host.now) (g.H.Host.told c.erase.new.host) (g.W.World.told c.erase.new.world) c.erase.result
    c.in-Erase.is (to_z-of_z w32 c.in-Erase.offset small) c.as_slice-in-Erase.ensures (c.erase.ensures.goes is)

pub returns-in-Rename-clause-goes : goal.returns-in-Rename-clause-goes
returns-in-Rename-clause-goes g c = λ is.
    let small : FitsSigned w32 c.in-Rename.offset = search rules in
    done_rename c.args.request.now c.in-Rename.image c.in-Rename.says c.in-Rename.offset _ c.in-Rename.from c.in-Rename.to (g.H.Host.told c.args.host.now) (g.H.Host.told c.rename.new.host) (g.W.World.told c.rename.new.world) c.rename.result
    c.in-Rename.is (to_z-of_z w32 c.in-Rename.offset small) (c.rename.ensures.goes is)

pub returns-in-Make-clause-goes : goal.returns-in-Make-clause-goes
returns-in-Make-clause-goes g c = λ is.
    let small : FitsSigned w32 c.in-Make.offset = search rules in
    done_make c.args.request.now c.in-Make.image c.text.result.now c.in-Make.size c.in-Make.blocks c.in-Make.label c.in-Make.offset _ (g.H.Host.told c.args.host.now) (g.H.Host.told c.make.new.host) (g.W.World.told c.make.new.world) c.make.result
    c.in-Make.is c.text.ensures (to_z-of_z w32 c.in-Make.offset small) (c.make.ensures.goes is)

pub returns-in-Check-clause-goes : goal.returns-in-Check-clause-goes
returns-in-Check-clause-goes g c = λ is.
    subst (λ (q : Request). IsDone q (g.H.Host.told c.args.host.now) (g.H.Host.told c.check.new.host) (g.W.World.told c.check.new.world) c.check.result) (sym c.in-Check.is) (c.check.ensures.goes is)

pub returns-in-Dump-clause-goes : goal.returns-in-Dump-clause-goes
returns-in-Dump-clause-goes g c = λ is.
    subst (λ (q : Request). IsDone q (g.H.Host.told c.args.host.now) (g.H.Host.told c.dump.new.host) (g.W.World.told c.dump.new.world) c.dump.result) (sym c.in-Dump.is) (c.dump.ensures.goes is)

pub returns-in-List-clause-cause : goal.returns-in-List-clause-cause
returns-in-List-clause-cause g c = λ t. c.list.ensures.cause

pub returns-in-Info-clause-cause : goal.returns-in-Info-clause-cause
returns-in-Info-clause-cause g c = λ t. c.info.ensures.cause

pub returns-in-Put-clause-cause : goal.returns-in-Put-clause-cause
returns-in-Put-clause-cause g c = λ t. c.put.ensures.cause

pub returns-in-Erase-clause-cause : goal.returns-in-Erase-clause-cause
returns-in-Erase-clause-cause g c = λ t. c.erase.ensures.cause

pub returns-in-Rename-clause-cause : goal.returns-in-Rename-clause-cause
returns-in-Rename-clause-cause g c = λ t. c.rename.ensures.cause

pub returns-in-Make-clause-cause : goal.returns-in-Make-clause-cause
returns-in-Make-clause-cause g c = λ t. c.make.ensures.cause

pub returns-in-Check-clause-cause : goal.returns-in-Check-clause-cause
returns-in-Check-clause-cause g c = λ t. c.check.ensures.cause

pub returns-in-Dump-clause-cause : goal.returns-in-Dump-clause-cause
returns-in-Dump-clause-cause g c = λ t. c.dump.ensures.cause

pub returns-in-Get-clause-cause : goal.returns-in-Get-clause-cause
returns-in-Get-clause-cause g c = λ t. c.get.ensures.cause (subst (λ (q : Request). TellsRecords q (g.W.World.told c.args.world.now)) c.in-Get.is t)
