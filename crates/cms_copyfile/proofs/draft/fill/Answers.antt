use Rattle.std.proofs.Common.{◌∙◌, Result, Err, ap, subst}
use Rattle.std.specs.Prelude.{⊤}
use Rattle.cms_world.specs.Seen.{seen}
use Rattle.cms_disk.specs.Disks.{Accessed}
use Rattle.cms_disk.specs.declared.fault.DiskFault.TheVariants.{Device}
use Rattle.cms_search.specs.Tables.{Seated}
use Rattle.cms_copyfile.specs.Copies.{FailsOn}
use Rattle.cms_copyfile.specs.Drafts.{FillsTo, FinishesTo}
use Rattle.cms_copyfile.specs.declared.second_pass.CopyFault.{CopyFault}
use Rattle.cms_copyfile.specs.declared.draft.Written.TheVariants.{Altered, Came, Unread}
use Rattle.cms_copyfile.proofs.Writes.{altered_so, disk_kept, disk_so, filled, may_commit, ready_so, some_seat, still_goes, unread_so, unwritten_so, well_so}
use Rattle.cms_copyfile.proofs.draft.fill.Goals as goal

pub put_copies-requires-clause-ready : goal.put_copies-requires-clause-ready
put_copies-requires-clause-ready g c =
    let s = some_seat _ c.requires.accessed in
    ready_so _ s.0.disk c.args.draft (c.requires.may s.0 s.1)

pub finish-requires-clause-may : goal.finish-requires-clause-may
finish-requires-clause-may g c = λ s at.
    may_commit _ _ s.disk c.args.draft c.put_copies.new.draft c.put_copies.ensures.changes.grown c.put_copies.ensures.same (c.requires.may s at)

pub returns-in-Ok-clause-fills : goal.returns-in-Ok-clause-fills
returns-in-Ok-clause-fills g c =
    let s = some_seat _ c.requires.accessed in
    let before = seen g.W.World c.args.world.now in
    let mid = seen g.W.World c.put_copies.new.world in
    let now = seen g.W.World c.finish.new.world in
    let put = c.put_copies.ensures in
    disk_so (λ (x : Seated) (e : Accessed). FinishesTo mid now x.disk e c.put_copies.new.draft c.finish.result)
    (λ (x : Seated) (e : Accessed). FillsTo before now x.disk e c.args.draft c.args.plan.now c.args.cursor.now c.finish.result) _ _ c.args.letter s.0 s.1 c.finish.ensures.finishes
    (λ e so. filled before mid now s.0.disk e c.args.draft c.put_copies.new.draft c.args.plan.now c.args.cursor.now c.in-Ok.field-0 c.put_copies.result c.finish.result c.in-Ok.is
    put.puts put.changes so)

pub returns-in-Err-Read-clause-fills : goal.returns-in-Err-Read-clause-fills
returns-in-Err-Read-clause-fills g c =
    let s = some_seat _ c.requires.accessed in
    let before = seen g.W.World c.args.world.now in
    let now = seen g.W.World c.put_copies.new.world in
    let put = c.put_copies.ensures in
    disk_kept (λ (x : Seated) (e : Accessed). FillsTo before now x.disk e c.args.draft c.args.plan.now c.args.cursor.now Unread) _ c.args.letter s.0 s.1 (c.requires.unread s.0 s.1)
    (unread_so before now s.0.disk c.args.draft c.put_copies.new.draft c.args.plan.now c.args.cursor.now c.put_copies.result
    (c.in-Err-Read.is ∙ ap (λ (e : CopyFault). Err e) c.in-Err-Read.field-0-is) put.puts put.changes)

pub returns-in-Err-Write-clause-fills : goal.returns-in-Err-Write-clause-fills
returns-in-Err-Write-clause-fills g c =
    let s = some_seat _ c.requires.accessed in
    let before = seen g.W.World c.args.world.now in
    let now = seen g.W.World c.put_copies.new.world in
    let put = c.put_copies.ensures in
    disk_kept (λ (x : Seated) (e : Accessed). FillsTo before now x.disk e c.args.draft c.args.plan.now c.args.cursor.now (Came (Err Device))) _ c.args.letter s.0 s.1 (c.requires.unread s.0 s.1)
    (unwritten_so before now s.0.disk c.args.draft c.put_copies.new.draft c.args.plan.now c.args.cursor.now c.put_copies.result
    (c.in-Err-Write.is ∙ ap (λ (e : CopyFault). Err e) c.in-Err-Write.field-0-is) put.puts put.changes)

pub returns-in-Err-Altered-clause-fills : goal.returns-in-Err-Altered-clause-fills
returns-in-Err-Altered-clause-fills g c =
    let s = some_seat _ c.requires.accessed in
    let before = seen g.W.World c.args.world.now in
    let now = seen g.W.World c.put_copies.new.world in
    let put = c.put_copies.ensures in
    disk_kept (λ (x : Seated) (e : Accessed). FillsTo before now x.disk e c.args.draft c.args.plan.now c.args.cursor.now Altered) _ c.args.letter s.0 s.1 (c.requires.unread s.0 s.1)
    (altered_so before now s.0.disk c.args.draft c.put_copies.new.draft c.args.plan.now c.args.cursor.now c.put_copies.result
    (c.in-Err-Altered.is ∙ ap (λ (e : CopyFault). Err e) c.in-Err-Altered.field-0-is) put.puts put.changes)

-- ---- on which unit a call failed

pub returns-in-Ok-clause-unit : goal.returns-in-Ok-clause-unit
returns-in-Ok-clause-unit g c = λ s at start m change stamp records from.
    let told = g.W.World.told in
    let first = c.args.cursor.now in
    let read = c.put_copies.new.cursor in
    let plan = c.args.plan.now in
    let well = subst (λ (r : Result ⊤ CopyFault). FailsOn start (told c.put_copies.new.world) s.disk m c.put_copies.new.draft change stamp plan first read records r) c.in-Ok.is
    (c.put_copies.ensures.unit start s.disk m change stamp records from) in
    well_so start (told c.finish.new.world) s.disk m change stamp plan first read records c.finish.result c.finish.ensures.read well

pub returns-in-Err-Read-clause-unit : goal.returns-in-Err-Read-clause-unit
returns-in-Err-Read-clause-unit g c = λ s at start m change stamp records from.
    let now = g.W.World.told c.put_copies.new.world in
    let draft = c.put_copies.new.draft in
    let first = c.args.cursor.now in
    let read = c.put_copies.new.cursor in
    let plan = c.args.plan.now in
    still_goes start now s.disk m draft change stamp plan first read records
    (subst (λ (r : Result ⊤ CopyFault). FailsOn start now s.disk m draft change stamp plan first read records r)
    (c.in-Err-Read.is ∙ ap (λ (e : CopyFault). Err e) c.in-Err-Read.field-0-is) (c.put_copies.ensures.unit start s.disk m change stamp records from))

pub returns-in-Err-Write-clause-unit : goal.returns-in-Err-Write-clause-unit
returns-in-Err-Write-clause-unit g c = λ s at start m change stamp records from.
    let now = g.W.World.told c.put_copies.new.world in
    let first = c.args.cursor.now in
    let read = c.put_copies.new.cursor in
    let plan = c.args.plan.now in
    subst (λ (r : Result ⊤ CopyFault). FailsOn start now s.disk m c.put_copies.new.draft change stamp plan first read records r)
    (c.in-Err-Write.is ∙ ap (λ (e : CopyFault). Err e) c.in-Err-Write.field-0-is) (c.put_copies.ensures.unit start s.disk m change stamp records from)

pub returns-in-Err-Altered-clause-unit : goal.returns-in-Err-Altered-clause-unit
returns-in-Err-Altered-clause-unit g c = λ s at start m change stamp records from. tt
