use Rattle.cms_world.specs.Seen.{seen}
use Rattle.cms_disk.specs.Disks.{Accessed}
use Rattle.cms_search.specs.Drafts.{CommitsTo}
use Rattle.cms_search.specs.Tables.{Seated}
use Rattle.cms_copyfile.specs.Drafts.{FinishesTo}
use Rattle.cms_copyfile.specs.declared.draft.Written.TheVariants.{Altered, Came}
use Rattle.cms_copyfile.proofs.Writes.{disk_kept, disk_so, finished, no_bytes, none_left, some_seat, unfinished}
use Rattle.cms_copyfile.proofs.draft.finish.Goals as goal

pub returns-clause-finishes : goal.returns-clause-finishes
returns-clause-finishes g c =
    let s = some_seat _ c.requires.accessed in
    let before = seen g.W.World c.args.world.now in
    let now = seen g.W.World c.commit.new.world in
    disk_so (λ (x : Seated) (e : Accessed). CommitsTo before now x.disk e c.args.draft c.commit.result)
    (λ (x : Seated) (e : Accessed). FinishesTo before now x.disk e c.args.draft (Came c.commit.result)) _ _ c.args.letter s.0 s.1 c.commit.ensures
    (λ e so. finished before now s.0.disk e c.args.draft c.commit.result so)

pub returns-then-records_left-ne0-clause-finishes : goal.returns-then-records_left-ne0-clause-finishes
returns-then-records_left-ne0-clause-finishes g c =
    let s = some_seat _ c.requires.accessed in
    let w = seen g.W.World c.args.world.now in
    disk_kept (λ (x : Seated) (e : Accessed). FinishesTo w w x.disk e c.args.draft Altered) _ c.args.letter s.0 s.1 (c.requires.unread s.0 s.1)
    (unfinished w s.0.disk c.args.draft (λ start m change stamp all goes. c.if-records_left-ne0.true (none_left c.args.draft.writer goes.front all c.records_left.result goes.drafts c.records_left.ensures)))

pub returns-then-bytes_left-ne0-clause-finishes : goal.returns-then-bytes_left-ne0-clause-finishes
returns-then-bytes_left-ne0-clause-finishes g c =
    let s = some_seat _ c.requires.accessed in
    let w = seen g.W.World c.args.world.now in
    disk_kept (λ (x : Seated) (e : Accessed). FinishesTo w w x.disk e c.args.draft Altered) _ c.args.letter s.0 s.1 (c.requires.unread s.0 s.1)
    (unfinished w s.0.disk c.args.draft (λ start m change stamp all goes. c.if-bytes_left-ne0.true (no_bytes c.args.draft.writer goes.front all c.bytes_left.result goes.drafts c.bytes_left.ensures)))
