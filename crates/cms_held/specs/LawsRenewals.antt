-- An update of a volume as it is held is whole or absent.
use Rattle.std.specs.Prelude.{◌≡◌, ◌⊎◌, ℕ, ◌+◌, ◌≤◌, true, List, [], ◌∷◌, length, All, ⊤}
use Rattle.cms_journal.specs.Journal.{Journal, start_of}
use Rattle.cms_journal.specs.declared.event.Event.{Event}
use Rattle.cms_fields.specs.Entries.{passes}
use Rattle.cms_fields.specs.declared.time.Stamp.{Stamp}
use Rattle.cms_fields.specs.Limits.{most_files}
use Rattle.cms_model.specs.Lists.{In, times}
use Rattle.cms_model.specs.Trees.{Image}
use Rattle.cms_model.specs.Volumes.{Disk}
use Rattle.cms_model.specs.Stands.{Kept, HoldsFile, Layout, Stands, HaveNames, entries_in, mets_in, records_in, file_blocks, layout_blocks, opened}
use Rattle.cms_model.specs.Settled.{Write, IsSettled, Apart, frame, update}
use Rattle.cms_model.specs.LawsSizes.{IsWhole}
use Rattle.cms_model.specs.LawsUpdates.{AreWithin, IsFront, Updates, after, now, to_label}
use Rattle.cms_held.specs.HeldVolumes.{HeldVolume}
use Rattle.cms_held.specs.Written.{ReadsBack}
use Rattle.cms_held.specs.Systems.{Systems, system_writes}
use Rattle.cms_held.specs.HeldAs.{AreHeld, IsHeldAs}
use Rattle.cms_held.specs.Allotments.{IsPlanned}
use Rattle.cms_held.specs.HeldTrees.{TreeComes, TreesStand}
use Rattle.cms_held.specs.Renewals.{Edit, entries_held, renewed}

-- each file is one of the old image whose blocks are the old volume's, or is held by the new image
abbrev pub ComesFrom : Disk → ℕ → Image → Image → List ℕ → List Kept → Type 0
ComesFrom disk total before later blocks [] = ⊤
ComesFrom disk total before later blocks (f ∷ fs) =
    ((HoldsFile disk total before f × ((n : ℕ) → In n f.met.blocks → In n blocks)) ⊎ HoldsFile disk total later f)
    × ComesFrom disk total before later blocks fs

-- the writes before the label's
abbrev pub writes_of : HeldVolume → Systems → List Write
writes_of v s = system_writes v.disk.bsize s

-- the journal after the update
abbrev pub later_of : Journal → HeldVolume → Systems → Journal
later_of j v s = after j (update v.unit (writes_of v s) s.label_bytes)

-- each write has the bytes of a block
abbrev pub AreBlocks : ℕ → List Write → Type 0
AreBlocks bsize [] = ⊤
AreBlocks bsize (w ∷ ws) = (length w.bytes ≡ bsize) × AreBlocks bsize ws

-- a unit is settled at a volume, which is held so, with trees that stand
pub record IsHeldAt (j : Journal) (v : HeldVolume) (old : Layout) : Type 0 where
  pub whole : IsWhole v.disk (now j v.unit)
  pub attached : v.disk.count ≤ length (start_of j.units v.unit)
  pub settled : IsSettled v.disk j v.unit (opened old)
  pub stands : Stands v.disk (now j v.unit) old
  pub held : IsHeldAs v.unit v.disk (now j v.unit) (opened old) v
  pub trees : TreesStand v (now j v.unit)

-- as long as an update's label isn't written, a unit is settled at the old volume, which is held as before
abbrev pub FrontKeepsHeld : Type 0
FrontKeepsHeld =
    (j : Journal) (v : HeldVolume) (old : Layout) (ws : List Write) (p : List Event) → IsHeldAt j v old → AreBlocks v.disk.bsize ws
    → AreWithin (length (start_of j.units v.unit)) ws → Apart ws (frame (opened old)) → IsFront p (to_label v.unit ws)
    → IsHeldAt (after j p) v old

-- an edit leaves these files, whose blocks are the old files', without those that it gives back and with those that it takes, and whose trees
-- stand in the old image or in the new one
pub record LeavesFiles (before later : Image) (v : HeldVolume) (edit : Edit) (old : Layout) (files : List Kept) : Type 0 where
  pub few : length files ≤ most_files
  pub pass : All (λ e. passes v.disk.bsize e ≡ true) (entries_in files)
  pub back : All ReadsBack (entries_held edit.files)
  pub names : HaveNames files
  pub held : AreHeld (entries_in files) (mets_in files) (records_in files) edit.files
  pub come : ComesFrom v.disk v.label.blocks before later (layout_blocks old) files
  pub trees : All (TreeComes v.disk.bsize v.label.blocks before later (layout_blocks old)) edit.files
  pub balance : (n : ℕ) → times n (file_blocks files) + times n edit.given ≡ times n (file_blocks old.files) + times n edit.taken
  pub had : (n : ℕ) → times n edit.given ≤ times n (file_blocks old.files)

-- what an update finds
pub record IsRenewal (j : Journal) (v : HeldVolume) (edit : Edit) (stamp : Stamp) (s : Systems) (old : Layout) (files : List Kept) :
    Type 0 where
  pub at : IsHeldAt j v old
  pub planned : IsPlanned v edit stamp s
  pub leaves : LeavesFiles (now j v.unit) (now (later_of j v s) v.unit) v edit old files

-- what it does: a crash leaves the old volume or the new one at every moment, and in the end the new; this is held as the renewed one, and
-- is the old minidisk with these files
pub record Renews (j : Journal) (v : HeldVolume) (edit : Edit) (s : Systems) (old : Layout) (files : List Kept) : Type 0 where
  pub new : Layout
  pub files_are : new.files ≡ files
  pub volid_is : new.label.volid ≡ old.label.volid
  pub blocks_are : new.label.blocks ≡ old.label.blocks
  pub lost_is : new.lost ≡ old.lost
  pub apart : Apart (writes_of v s) (frame (opened old))
  pub updates : Updates v.disk j v.unit (writes_of v s) s.label_bytes (opened old) (opened new)
  pub at : IsHeldAt (later_of j v s) (renewed v edit s) new

-- so it is
abbrev pub UpdateRenews : Type 0
UpdateRenews =
    (j : Journal) (v : HeldVolume) (edit : Edit) (stamp : Stamp) (s : Systems) (old : Layout) (files : List Kept)
    → IsRenewal j v edit stamp s old files → Renews j v edit s old files
