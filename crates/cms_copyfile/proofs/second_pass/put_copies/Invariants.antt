use Rattle.std.proofs.Common.{◌≡◌, ◌-◌, ◌≤◌, List, ℕ, vec_capacity}
use Rattle.std.specs.Option.{ForSome}
use Rattle.cms_journal.specs.Journal.{HasBlocks}
use Rattle.cms_journal.specs.Told.{Grown, Told}
use Rattle.cms_held.specs.BlockWriters.{CanWrite}
use Rattle.cms_model.specs.Minidisks.{Minidisk}
use Rattle.cms_disk.specs.Cursors.{SameFile}
use Rattle.cms_disk.specs.Disks.{Accessed}
use Rattle.cms_disk.specs.Drafts.{IsSameDraft}
use Rattle.cms_copyfile.specs.Copies.{CopiedTo, CopiesFrom, ReadsWell}
use Rattle.cms_fields.specs.declared.time.Stamp.{Stamp}
use Rattle.cms_model.specs.Changes.{Change}
use Rattle.cms_copyfile.proofs.second_pass.put_copies.Given as goal

abbrev pub invariant-copies : goal.invariant-copies
invariant-copies g l = record {
  to : (start : Told) (d : Accessed) (m : Minidisk) (change : Change) (stamp : Stamp) (records : List (List ℕ)) → CopiesFrom start (g.W.World.told l.fn.world) d m l.fn.draft change stamp l.plan l.fn.cursor records
      → CopiedTo start (g.W.World.told l.world) d m l.draft change stamp l.plan l.fn.cursor l.cursor records l.place;
  well : (start : Told) (d : Accessed) (m : Minidisk) (change : Change) (stamp : Stamp) (records : List (List ℕ)) → CopiesFrom start (g.W.World.told l.fn.world) d m l.fn.draft change stamp l.plan l.fn.cursor records
      → ReadsWell start l.fn.cursor l.cursor records;
  blocks : ForSome (g.W.World.told l.world) (λ j. HasBlocks j.units l.cursor.unit l.cursor.total l.cursor.bsize);
  file : SameFile l.fn.cursor l.cursor;
  same : IsSameDraft l.fn.draft l.draft;
  capacity : vec_capacity l.fn.buffer ≤ vec_capacity l.buffer;
  ready : ForSome (g.W.World.told l.world) (λ j. CanWrite j.units l.draft.writer.writer);
  grown : Grown (g.W.World.told l.fn.world) (g.W.World.told l.world);
  faults : g.W.World.faults l.fn.world ≤ g.W.World.faults l.world;
  edges : g.W.World.edges l.world ≡ g.W.World.edges l.fn.world;
  within : l.place ≤ l.plan.wanted;
}

abbrev pub decreases-copies : goal.decreases-copies
decreases-copies g l = l.plan.wanted - l.place
