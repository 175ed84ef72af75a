-- Records that are added to a file of a volume as it is held: what is answered to them, and the update that adds them.
use Rattle.std.specs.Prelude.{◌≡◌, ℕ, ◌+◌, ◌/◌, ◌≤◌, List, ◌++◌, length, slice_get, Some}
use Rattle.cms_journal.specs.Journal.{Journal}
use Rattle.cms_fields.specs.Entries.{pointer_size}
use Rattle.cms_fields.specs.declared.time.Stamp.{Stamp}
use Rattle.cms_model.specs.Changes.{Add, answer_of, changed, need}
use Rattle.cms_model.specs.Growth.{growth_taken}
use Rattle.cms_model.specs.LawsUpdates.{now}
use Rattle.cms_model.specs.Minidisks.{Minidisk}
use Rattle.cms_model.specs.Records.{stored}
use Rattle.cms_model.specs.Settled.{update}
use Rattle.cms_map.specs.Bits.{free_blocks}
use Rattle.cms_tree.specs.declared.types.Mark.{Mark}
use Rattle.cms_held.specs.Drafts.{Front, draft_writes, stored_on}
use Rattle.cms_held.specs.Growths.{GrowsHeld, growing}
use Rattle.cms_held.specs.HeldVolumes.{HeldFile, HeldVolume}
use Rattle.cms_held.specs.LawsRenewals.{writes_of}
use Rattle.cms_held.specs.MinidiskUpdates.{Carries, IsHeldMinidisk, IsReadyFor, written_count}
use Rattle.cms_held.specs.Puts.{answer_put, limit_put}
use Rattle.cms_held.specs.Renewals.{made_at, needed}
use Rattle.cms_held.specs.Systems.{Systems}

-- ---- what is answered

-- the free blocks that the file at a place needs where so many stored bytes are added to it: its own, and those of the new directory and
-- map
abbrev pub need_add : HeldVolume → ℕ → HeldFile → ℕ → ℕ
need_add v place f bytes = growth_taken v.disk.bsize f.entry.format f.size (f.size + bytes) + needed v (length v.files) (made_at place)

-- records that are added are refused exactly where the file passes a limit with them, else where it needs more than is free
abbrev pub AddIsAnswered : Type 0
AddIsAnswered =
    (j : Journal) (v : HeldVolume) (m : Minidisk) (place : ℕ) (f : HeldFile) (more : List (List ℕ)) (stamp : Stamp) → IsHeldMinidisk j v m
    → slice_get v.files place ≡ Some f
    → answer_of m (Add f.entry.name more stamp)
    ≡ answer_put (limit_put (length v.files) (f.entry.count + length more) (f.size + length (stored f.entry.format more)))
    (need_add v place f (length (stored f.entry.format more))) (length (free_blocks v.bits)) (changed m (Add f.entry.name more stamp))

-- ---- the update

-- an addition that was planned for the file at a place, where all that a draft of it writes stands in the contents
pub record IsAddReady (j : Journal) (v : HeldVolume) (stamp : Stamp) (s : Systems) (place : ℕ) (f g : HeldFile) (marks : List Mark)
    (front : Front) (mark : Mark) (more : List (List ℕ)) (added : Stamp) :
    Type 0 where
  pub there : slice_get v.files place ≡ Some f
  pub ready : IsReadyFor v (growing v.disk.bsize v.files place f g) stamp s
  pub grows : GrowsHeld v (now j v.unit) (now j v.unit) f g marks front mark more added

-- carried out, it adds the records
abbrev pub AddIsCarried : Type 0
AddIsCarried =
    (j : Journal) (v : HeldVolume) (stamp : Stamp) (s : Systems) (place : ℕ) (f g : HeldFile) (marks : List Mark) (front : Front)
    (mark : Mark) (more : List (List ℕ)) (added : Stamp) (m : Minidisk) → IsHeldMinidisk j v m
    → IsAddReady j v stamp s place f g marks front mark more added
    → Carries j v (growing v.disk.bsize v.files place f g) s m (Add f.entry.name more added)

-- with the blocks of the file that aren't kept it writes at most two blocks more than it needs: the directory's first and the label
abbrev pub AddIsSmall : Type 0
AddIsSmall =
    (j : Journal) (v : HeldVolume) (stamp : Stamp) (s : Systems) (place : ℕ) (f g : HeldFile) (marks : List Mark) (front : Front)
    (mark : Mark) (more : List (List ℕ)) (added : Stamp) (m : Minidisk) → IsHeldMinidisk j v m
    → IsAddReady j v stamp s place f g marks front mark more added
    → written_count (update v.unit (draft_writes v.disk.bsize (pointer_size g.entry.format) g.tree.leaves marks g.tree.pointers
    (f.size / v.disk.bsize) front.nodes (stored_on g.entry.format front more) (length g.tree.leaves) ++ writes_of v s) s.label_bytes)
    ≤ need m (Add f.entry.name more added) + 2
