use Rattle.mini_work.specs.Faults.{fault_of}
use Rattle.mini_work.proofs.Caused.{end_fails, end_refuse, end_then, later_same, later_then, units_failed, units_later}
use Rattle.mini_work.specs.Causes.{counts}
use Rattle.std.proofs.Common.{◌≡◌, Bool, Ok, Err, true, false, refl, subst}
use Rattle.std.proofs.lemmas.Result.{err_from_is_err_and}
use Rattle.cms_disk.proofs.RecordsPut.{same_some}
use Rattle.mini_work.specs.Changes.{IsChange}
use Rattle.mini_work.specs.Drafts.{FillsSo}
use Rattle.mini_work.specs.Output.{name_line}
use Rattle.mini_work.proofs.PartsJoined.{change_done, change_told}
use Rattle.mini_work.proofs.PutOn.{change_cut, commits_each, draft_ready, fill_cut, fill_never, known}
use Rattle.mini_work.proofs.UnitStands.{may_still, same_on}
use Rattle.mini_work.proofs.put.put_draft.Goals as goal

pub fill-requires-clause-ready : goal.fill-requires-clause-ready
fill-requires-clause-ready g c =
    draft_ready (g.W.World.told c.args.world.now) c.args.disk.now c.args.draft c.requires.planned c.requires.may c.requires.writable

pub returns-in-Err-clause-goes : goal.returns-in-Err-clause-goes
returns-in-Err-clause-goes g c = λ h bytes change stamp records at left are begins.
    let told = g.W.World.told in
    let d = c.args.disk.now in
    let name = c.args.name.now in
    let P = IsChange change stamp c.args.put.now.says (name_line name) in
    fill_cut P (told c.args.world.now) (told c.fill.new.world) d c.args.draft c.fill.new.draft change stamp records c.in-Err.fault c.in-Err.fault
    begins
    (λ m goes. c.in-Err.ensures.fills (told c.args.world.now) d m change stamp records h bytes goes at left are)

pub returns-in-Err-clause-may : goal.returns-in-Err-clause-may
returns-in-Err-clause-may g c = may_still _ _ c.args.disk.now c.args.disk.now c.in-Err.ensures.grown (same_on c.args.disk.now) c.requires.may

pub returns-then-not-full-clause-goes : goal.returns-then-not-full-clause-goes
returns-then-not-full-clause-goes g c = λ h bytes change stamp records at left are begins.
    let told = g.W.World.told in
    let d = c.args.disk.now in
    let name = c.args.name.now in
    let old = told c.args.world.now in
    let new = told c.fill.new.world in
    let none : c.in-Ok.full ≡ false = c.if-not-full.true in
    let P = IsChange change stamp c.args.put.now.says (name_line name) in
    fill_never P old new d c.args.draft c.fill.new.draft change stamp records c.refuse.result begins
    (λ m goes. subst (λ (b : Bool). FillsSo old new d m c.fill.new.draft change stamp records (Ok b)) none
    (c.in-Ok.ensures.fills old d m change stamp records h bytes goes at left are))

pub returns-then-not-full-clause-may : goal.returns-then-not-full-clause-may
returns-then-not-full-clause-may g c = may_still _ _ c.args.disk.now c.args.disk.now c.in-Ok.ensures.grown (same_on c.args.disk.now) c.requires.may

pub commit-requires-clause-planned : goal.commit-requires-clause-planned
commit-requires-clause-planned g c = same_some c.args.disk.now.volume c.args.draft c.fill.new.draft c.in-Ok.ensures.same c.requires.planned

pub commit-requires-clause-full : goal.commit-requires-clause-full
commit-requires-clause-full g c = let all : c.in-Ok.full ≡ true = c.if-not-full.false in c.in-Ok.ensures.full all

pub commit-requires-clause-blocks : goal.commit-requires-clause-blocks
commit-requires-clause-blocks g c =
    (may_still _ _ c.args.disk.now c.args.disk.now c.in-Ok.ensures.grown (same_on c.args.disk.now) c.requires.may).0

pub commit-requires-clause-writable : goal.commit-requires-clause-writable
commit-requires-clause-writable g c =
    (may_still _ _ c.args.disk.now c.args.disk.now c.in-Ok.ensures.grown (same_on c.args.disk.now) c.requires.may).1 c.requires.writable

pub returns-in_err-commit-clause-goes : goal.returns-in_err-commit-clause-goes
returns-in_err-commit-clause-goes g c = λ h bytes change stamp records at left are begins.
    let p = err_from_is_err_and c.from_residual.result c.from_residual.ensures.1 in
    let told = g.W.World.told in
    let d = c.args.disk.now in
    let e = c.commit.new.self in
    let name = c.args.name.now in
    let old = told c.args.world.now in
    let mid = told c.fill.new.world in
    let new = told c.commit.new.world in
    let all : c.in-Ok.full ≡ true = c.if-not-full.false in
    let P = IsChange change stamp c.args.put.now.says (name_line name) in
    known P old new d e (Err p.0) _ p.1
    (change_cut P old new d e change stamp c.in_err-commit.field-0.0 p.0
    (commits_each old mid new d e c.args.draft c.fill.new.draft change stamp records (Err c.in_err-commit.field-0.0) c.requires.may begins
    (λ m goes. subst (λ (b : Bool). FillsSo old mid d m c.fill.new.draft change stamp records (Ok b)) all
    (c.in-Ok.ensures.fills old d m change stamp records h bytes goes at left are))
    (λ m k st rs goes. c.in_err-commit.ensures.alters old m k st rs goes))
    c.in_err-commit.ensures.changes.same)

pub returns-in_err-commit-clause-may : goal.returns-in_err-commit-clause-may
returns-in_err-commit-clause-may g c =
    may_still _ _ c.args.disk.now c.commit.new.self c.in_err-commit.ensures.changes.units.grown c.in_err-commit.ensures.changes.same
    (may_still _ _ c.args.disk.now c.args.disk.now c.in-Ok.ensures.grown (same_on c.args.disk.now) c.requires.may)

pub returns-clause-goes : goal.returns-clause-goes
returns-clause-goes g c = λ h bytes change stamp records at left are begins.
    let told = g.W.World.told in
    let d = c.args.disk.now in
    let e = c.commit.new.self in
    let name = c.args.name.now in
    let old = told c.args.world.now in
    let mid = told c.fill.new.world in
    let new = told c.commit.new.world in
    let all : c.in-Ok.full ≡ true = c.if-not-full.false in
    change_told {A = Unit {0}} change stamp c.args.put.now.says (name_line name) old new (told c.say_name.new.world) d e (tt {0}) c.say_name.result
    (change_done old new d e change stamp (tt {0})
    (commits_each old mid new d e c.args.draft c.fill.new.draft change stamp records (Ok (tt {0})) c.requires.may begins
    (λ m goes. subst (λ (b : Bool). FillsSo old mid d m c.fill.new.draft change stamp records (Ok b)) all
    (c.in-Ok.ensures.fills old d m change stamp records h bytes goes at left are))
    (λ m k st rs goes. c.in_ok-commit.ensures.alters old m k st rs goes))
    c.in_ok-commit.ensures.changes.same)
    (c.say_name.ensures.goes e)

pub returns-clause-may : goal.returns-clause-may
returns-clause-may g c =
    may_still _ _ c.commit.new.self c.commit.new.self c.say_name.ensures.grown (same_on c.commit.new.self)
    (may_still _ _ c.args.disk.now c.commit.new.self c.in_ok-commit.ensures.changes.units.grown c.in_ok-commit.ensures.changes.same
    (may_still _ _ c.args.disk.now c.args.disk.now c.in-Ok.ensures.grown (same_on c.args.disk.now) c.requires.may))

pub returns-in-Err-clause-cause : goal.returns-in-Err-clause-cause
returns-in-Err-clause-cause g c = let x = c.in-Err.ensures.cause in end_fails _ _ _ c.in-Err.fault (Err c.in-Err.fault) (later_same _) refl x.later x.failed

pub returns-then-not-full-clause-cause : goal.returns-then-not-full-clause-cause
returns-then-not-full-clause-cause g c = let at = counts g.W.World g.H.Host in end_then _ _ _ _ (c.in-Ok.ensures.cause).later (end_refuse _ _ c.refuse.result (c.refuse.ensures.cause (at c.fill.new.world c.fill.new.host)) c.refuse.ensures.status)

pub returns-in_err-commit-clause-cause : goal.returns-in_err-commit-clause-cause
returns-in_err-commit-clause-cause g c = let p = c.in_err-commit.ensures in end_fails _ _ _ (fault_of c.in_err-commit.field-0.0) c.from_residual.result (c.in-Ok.ensures.cause).later c.from_residual.ensures.1 (units_later _ _ _ _ (g.H.Host.faults c.fill.new.host) p.changes.units) (units_failed _ _ c.in_err-commit.field-0.0 (g.H.Host.faults c.fill.new.host) p.changes.units (λ is. p.fault))

pub returns-clause-cause : goal.returns-clause-cause
returns-clause-cause g c = end_then _ _ _ _ (later_then _ _ _ (c.in-Ok.ensures.cause).later (units_later _ _ _ _ (g.H.Host.faults c.fill.new.host) c.in_ok-commit.ensures.changes.units)) (c.say_name.ensures.cause (g.H.Host.faults c.fill.new.host))

pub returns-in_err-commit-clause-writable : goal.returns-in_err-commit-clause-writable
returns-in_err-commit-clause-writable g c = c.in_err-commit.ensures.changes.same.writable

pub returns-clause-writable : goal.returns-clause-writable
returns-clause-writable g c = c.in_ok-commit.ensures.changes.same.writable
