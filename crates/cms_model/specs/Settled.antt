-- When every crash leaves the same volume, and the events of an update.
use Rattle.std.specs.Prelude.{◌≡◌, ℕ, List, [], ◌∷◌, ◌++◌, Ok}
use Rattle.cms_journal.specs.declared.event.Event.{Event}
use Rattle.cms_journal.specs.declared.event.Event.TheVariants.{Wrote, Synced}
use Rattle.cms_journal.specs.Journal.{Journal, IsCrashImage, WroteSince, contents_of, start_of}
use Rattle.cms_model.specs.Lists.{In}
use Rattle.cms_model.specs.Trees.{Image, image_of}
use Rattle.cms_model.specs.Minidisks.{State}
use Rattle.cms_model.specs.Volumes.{Disk, Opened, open_of, state_of, all_blocks}

-- the blocks that a volume rests on: its label, its origin and all blocks of its trees
abbrev pub frame : Opened → List ℕ
frame v = 3 ∷ v.label.origin ∷ all_blocks v

-- two images have the same bytes in these blocks
abbrev pub Agree : List ℕ → Image → Image → Type 0
Agree ns before later = (n : ℕ) → In n ns → before n ≡ later n

-- a crash may leave this image of the unit
abbrev pub MayLeave : Journal → ℕ → List (List ℕ) → Type 0
MayLeave j u image = IsCrashImage j.events u (start_of j.units u) image

-- each crash image of the unit has P
abbrev pub EachCrash : Journal → ℕ → (Image → Type 0) → Type 0
EachCrash j u P = (image : List (List ℕ)) → MayLeave j u image → P (image_of image)

-- no block that the volume rests on was written since the last sync, and the contents are the volume
pub record IsSettled (disk : Disk) (j : Journal) (u : ℕ) (v : Opened) : Type 0 where
  pub opens : open_of disk (image_of (contents_of j u)) ≡ Ok v
  pub firm : (n : ℕ) → In n (frame v) → (bytes : List ℕ) → WroteSince j.events u n bytes → ⊥

-- the unit has the same state in every crash image
abbrev pub IsFirm : Disk → Journal → ℕ → State → Type 0
IsFirm disk j u state = EachCrash j u (λ image. state_of disk image ≡ state)

-- the write of a block: its number and its bytes
pub record Write : Type 0 where
  pub block : ℕ
  pub bytes : List ℕ

-- none of the writes is to one of these blocks
abbrev pub Apart : List Write → List ℕ → Type 0
Apart [] ns = Unit {0}
Apart (w ∷ ws) ns = (In w.block ns → ⊥) × Apart ws ns

-- the events of writes, in order
unfoldable pub writes : ℕ → List Write → List Event
writes u [] = []
writes u (w ∷ ws) = Wrote u w.block w.bytes ∷ writes u ws

-- an update: the writes, a sync, the write of the label, a sync
unfoldable pub update : ℕ → List Write → List ℕ → List Event
update u ws label = writes u ws ++ Synced u ∷ Wrote u 3 label ∷ Synced u ∷ []
