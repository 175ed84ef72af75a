-- What an update does to what a crash may leave of its unit, event by event.
use Rattle.std.specs.Prelude.{◌≡◌, ◌≢◌, ◌⊎◌, ◌↔◌, ◌==◌, ℕ, ◌≤◌, if◌then◌else◌, false, List, [], ◌∷◌, ◌++◌, length, replicate, Some, Ok, ⊤}
use Rattle.cms_journal.specs.declared.event.Event.{Event}
use Rattle.cms_journal.specs.declared.event.Event.TheVariants.{Wrote, Synced}
use Rattle.cms_journal.specs.Journal.{Journal, IsUntouched, contents_of, start_of}
use Rattle.cms_journal.specs.Told.{Told, plus, back, syncs}
use Rattle.cms_fields.specs.Labels.{label_of, has_identifier}
use Rattle.cms_fields.specs.declared.label.Label.{Label}
use Rattle.cms_model.specs.Trees.{Image, image_of}
use Rattle.cms_model.specs.Minidisks.{State, Volume, Not}
use Rattle.cms_model.specs.Volumes.{Disk, Opened, open_of, minidisk_of, state_of}
use Rattle.cms_model.specs.Settled.{frame, Agree, MayLeave, EachCrash, IsSettled, IsFirm, Write, Apart, writes, update}

-- the journal with the events of a piece added, the oldest first
abbrev pub after : Journal → List Event → Journal
after j piece = record { units = j.units; events = back piece j.events }

-- adding a piece to a told journal gives it
abbrev pub AfterIsTold : Type 0
AfterIsTold = (j : Journal) (piece : List Event) → plus (Some j) piece ≡ Some (after j piece)

-- the image of a unit's contents
abbrev pub now : Journal → ℕ → Image
now j u = image_of (contents_of j u)

-- a piece is the front of another, or all of it
pub record IsFront (front whole : List Event) : Type 0 where
  pub rest : List Event
  pub is : front ++ rest ≡ whole

-- of these events the first were added, as many as were made
pub record AddsFront (old new : Told) (events : List Event) : Type 0 where
  pub front : List Event
  pub told : new ≡ plus old front
  pub is : IsFront front events

-- ---- a settled unit

-- a settled unit opens as its volume in every crash image, so that it has one state
abbrev pub SettledIsFirm : Type 0
SettledIsFirm =
    (disk : Disk) (j : Journal) (u : ℕ) (v : Opened) → IsSettled disk j u v
    → EachCrash j u (λ image. open_of disk image ≡ Ok v) × IsFirm disk j u (Volume (minidisk_of disk v))

-- a unit to which nothing happened has the state of its starting blocks, and is settled where these open
pub record StartsAs (disk : Disk) (j : Journal) (u : ℕ) : Type 0 where
  pub contents_are : contents_of j u ≡ start_of j.units u
  pub firm : IsFirm disk j u (state_of disk (image_of (start_of j.units u)))
  pub settled : (v : Opened) → open_of disk (image_of (start_of j.units u)) ≡ Ok v → IsSettled disk j u v

-- a unit without a write has its starting blocks in every crash image
abbrev pub UntouchedStarts : Type 0
UntouchedStarts = (disk : Disk) (j : Journal) (u : ℕ) → IsUntouched j.events u → StartsAs disk j u

-- a sync leaves the contents, and nothing else: a unit has their state then, and is settled where they open
pub record SyncedAs (disk : Disk) (j : Journal) (u : ℕ) : Type 0 where
  pub contents_same : contents_of (after j (Synced u ∷ [])) u ≡ contents_of j u
  pub leaves : EachCrash (after j (Synced u ∷ [])) u (λ image. image ≡ now j u)
  pub firm : IsFirm disk (after j (Synced u ∷ [])) u (state_of disk (now j u))
  pub settled : (v : Opened) → open_of disk (now j u) ≡ Ok v → IsSettled disk (after j (Synced u ∷ [])) u v

-- after a sync a volume that opens is settled
abbrev pub SyncSettles : Type 0
SyncSettles = (disk : Disk) (j : Journal) (u : ℕ) → SyncedAs disk j u

-- events that are neither writes to a unit nor syncs of it change nothing for it
pub record AsBefore (j : Journal) (piece : List Event) (u : ℕ) : Type 0 where
  pub contents_same : contents_of (after j piece) u ≡ contents_of j u
  pub crash_same : (image : List (List ℕ)) → MayLeave (after j piece) u image ↔ MayLeave j u image
  pub settled_same : (disk : Disk) (v : Opened) → IsSettled disk j u v → IsSettled disk (after j piece) u v

-- events of other units leave a unit as it was
abbrev pub AsideIsAsBefore : Type 0
AsideIsAsBefore = (j : Journal) (piece : List Event) (u : ℕ) → IsUntouched piece u → AsBefore j piece u

-- ---- an update: writes, a sync, the write of the label, a sync

-- the events before the label's write, and with it
abbrev pub to_label : ℕ → List Write → List Event
to_label u ws = writes u ws ++ Synced u ∷ []

-- an update up to the write of its label
abbrev pub with_label : ℕ → List Write → List ℕ → List Event
with_label u ws label = writes u ws ++ Synced u ∷ Wrote u 3 label ∷ []

-- the fronts of an update, and their syncs
pub record FrontOf (u : ℕ) (ws : List Write) (label : List ℕ) (p : List Event) : Type 0 where
  pub which : IsFront p (to_label u ws) ⊎ (p ≡ with_label u ws label) ⊎ (p ≡ update u ws label)
  pub none : syncs p ≡ 0 → IsFront p (writes u ws)
  pub one : syncs p ≡ 1 → (p ≡ to_label u ws) ⊎ (p ≡ with_label u ws label)
  pub two : syncs p ≡ 2 → p ≡ update u ws label

-- each front of an update is one of its writes, or one with the label's write, or all of it
abbrev pub FrontsOfUpdate : Type 0
FrontsOfUpdate = (u : ℕ) (ws : List Write) (label : List ℕ) (p : List Event) → IsFront p (update u ws label) → FrontOf u ws label p

-- an image with the bytes of a write in its block
abbrev pub put_block : Image → Write → Image
put_block image w n = if n == w.block then w.bytes else image n

-- the same for writes, one after another
abbrev pub put_blocks : Image → List Write → Image
put_blocks image [] = image
put_blocks image (w ∷ ws) = put_blocks (put_block image w) ws

-- each write is to one of so many blocks
abbrev pub AreWithin : ℕ → List Write → Type 0
AreWithin count [] = ⊤
AreWithin count (w ∷ ws) = (1 ≤ w.block) × (w.block ≤ count) × AreWithin count ws

-- the image after an update
abbrev pub updated : Image → List Write → List ℕ → Image
updated image ws label = put_block (put_blocks image ws) (record { block = 3; bytes = label })

-- after an update of a unit's own blocks its contents are so, block by block; then they open as this image does
pub record PutsBlocks (j : Journal) (u : ℕ) (ws : List Write) (label : List ℕ) : Type 0 where
  pub written : (n : ℕ) → 1 ≤ n → now (after j (writes u ws)) u n ≡ put_blocks (now j u) ws n
  pub whole : (n : ℕ) → 1 ≤ n → now (after j (update u ws label)) u n ≡ updated (now j u) ws label n
  pub opens : (disk : Disk) (new : Opened) → open_of disk (updated (now j u) ws label) ≡ Ok new
      → open_of disk (now (after j (update u ws label)) u) ≡ Ok new

-- after an update the contents have its blocks and its label
abbrev pub UpdateIsPut : Type 0
UpdateIsPut =
    (j : Journal) (u : ℕ) (ws : List Write) (label : List ℕ) → AreWithin (length (start_of j.units u)) ws → 3 ≤ length (start_of j.units u)
    → PutsBlocks j u ws label

-- writes apart from some blocks leave these as they are
abbrev pub ApartIsKept : Type 0
ApartIsKept = (image : Image) (ws : List Write) (ns : List ℕ) → Apart ws ns → Agree ns image (put_blocks image ws)

-- as long as its label isn't written, a unit is settled at the old volume
abbrev pub KeepsOld : Type 0
KeepsOld =
    (disk : Disk) (j : Journal) (u : ℕ) (ws : List Write) (p : List Event) (old : Opened) → IsSettled disk j u old → Apart ws (frame old)
    → IsFront p (to_label u ws) → IsSettled disk (after j p) u old

-- each crash image opens as one of two volumes
abbrev pub OpensEither : Disk → Journal → ℕ → Opened → Opened → Type 0
OpensEither disk j u old new = EachCrash j u (λ image. (open_of disk image ≡ Ok old) ⊎ (open_of disk image ≡ Ok new))

-- an update of a settled unit, whose writes are apart from what the old volume rests on, and after which the contents are the
-- new volume: from its label on they are; a crash leaves the old or the new at every moment, and in the end the new
pub record IsUpdate (disk : Disk) (j : Journal) (u : ℕ) (ws : List Write) (label : List ℕ) (old new : Opened) : Type 0 where
  pub settled : IsSettled disk j u old
  pub apart : Apart ws (frame old)
  pub opens : open_of disk (now (after j (update u ws label)) u) ≡ Ok new

-- what a crash leaves at each front of an update: the old volume or the new
pub record Updates (disk : Disk) (j : Journal) (u : ℕ) (ws : List Write) (label : List ℕ) (old new : Opened) : Type 0 where
  pub labelled : open_of disk (now (after j (with_label u ws label)) u) ≡ Ok new
  pub either : (p : List Event) → IsFront p (update u ws label) → OpensEither disk (after j p) u old new
  pub whole : IsSettled disk (after j (update u ws label)) u new

-- an update that is apart from the old volume is whole or absent at every moment
abbrev pub UpdateIsWhole : Type 0
UpdateIsWhole =
    (disk : Disk) (j : Journal) (u : ℕ) (ws : List Write) (label : List ℕ) (old new : Opened) → IsUpdate disk j u ws label old new
    → Updates disk j u ws label old new

-- ---- a relabelling: the write of the label, a sync

-- the events of a relabelling
abbrev pub relabel : ℕ → List ℕ → List Event
relabel u label = Wrote u 3 label ∷ Synced u ∷ []

-- the same volume with another label
abbrev pub relabelled : Opened → Label → Opened
relabelled v label = record v { label = label }

-- a relabelling of a settled unit with a label of the same origin and number of blocks
pub record IsRelabel (disk : Disk) (j : Journal) (u : ℕ) (bytes : List ℕ) (old : Opened) (label : Label) : Type 0 where
  pub settled : IsSettled disk j u old
  pub reads : label_of disk.bsize disk.count bytes ≡ Ok label
  pub same_origin : label.origin ≡ old.label.origin
  pub same_blocks : label.blocks ≡ old.label.blocks

-- what a crash leaves at each front of a relabelling: the old label or the new
pub record Relabels (disk : Disk) (j : Journal) (u : ℕ) (bytes : List ℕ) (old : Opened) (label : Label) : Type 0 where
  pub labelled : open_of disk (now (after j (Wrote u 3 bytes ∷ [])) u) ≡ Ok (relabelled old label)
  pub either : (p : List Event) → IsFront p (relabel u bytes) → OpensEither disk (after j p) u old (relabelled old label)
  pub whole : IsSettled disk (after j (relabel u bytes)) u (relabelled old label)

-- a relabelling is whole or absent at every moment
abbrev pub RelabelIsWhole : Type 0
RelabelIsWhole =
    (disk : Disk) (j : Journal) (u : ℕ) (bytes : List ℕ) (old : Opened) (label : Label) → IsRelabel disk j u bytes old label
    → Relabels disk j u bytes old label

-- ---- a wiping: the write of zeros in place of the label, a sync

-- the events of a wiping: block 3 is written as zeros, and synced
abbrev pub wipe : ℕ → ℕ → List Event
wipe u size = Wrote u 3 (replicate size 0) ∷ Synced u ∷ []

-- a crash leaves no label
abbrev pub IsWiped : Journal → ℕ → Type 0
IsWiped j u = EachCrash j u (λ image. has_identifier (image 3) ≡ false)

-- each crash image has one of two states
abbrev pub HasEither : Disk → Journal → ℕ → State → State → Type 0
HasEither disk j u a b = EachCrash j u (λ image. (state_of disk image ≡ a) ⊎ (state_of disk image ≡ b))

-- a wiped unit is none for the second reason
abbrev pub WipedIsNone : Type 0
WipedIsNone = (disk : Disk) (j : Journal) (u : ℕ) → IsWiped j u → IsFirm disk j u (Not 2)

-- a wiping leaves the state of before or none at every moment, and in the end no label
pub record Wipes (disk : Disk) (j : Journal) (u size : ℕ) (old : State) : Type 0 where
  pub zeroed : state_of disk (now (after j (Wrote u 3 (replicate size 0) ∷ [])) u) ≡ Not 2
  pub either : (p : List Event) → IsFront p (wipe u size) → HasEither disk (after j p) u old (Not 2)
  pub whole : IsWiped (after j (wipe u size)) u

-- at each front of a wiping a crash leaves the old state or no volume
abbrev pub WipeIsWhole : Type 0
WipeIsWhole = (disk : Disk) (j : Journal) (u size : ℕ) (old : State) → IsFirm disk j u old → Wipes disk j u size old

-- ---- a making: an update of a wiped unit

-- as long as its label isn't written, a unit is wiped
abbrev pub KeepsWiped : Type 0
KeepsWiped =
    (j : Journal) (u : ℕ) (ws : List Write) (p : List Event) → IsWiped j u → Apart ws (3 ∷ []) → IsFront p (to_label u ws)
    → IsWiped (after j p) u

-- writes and a label that make a volume on a wiped unit
pub record IsMaking (disk : Disk) (j : Journal) (u : ℕ) (ws : List Write) (label : List ℕ) (new : Opened) : Type 0 where
  pub wiped : IsWiped j u
  pub apart : Apart ws (3 ∷ [])
  pub opens : open_of disk (now (after j (update u ws label)) u) ≡ Ok new

-- a making leaves no volume or the new one at every moment, and in the end the new
pub record Makes (disk : Disk) (j : Journal) (u : ℕ) (ws : List Write) (label : List ℕ) (new : Opened) : Type 0 where
  pub labelled : open_of disk (now (after j (with_label u ws label)) u) ≡ Ok new
  pub either : (p : List Event) → IsFront p (update u ws label) → HasEither disk (after j p) u (Not 2) (Volume (minidisk_of disk new))
  pub whole : IsSettled disk (after j (update u ws label)) u new

-- at each front of a making a crash leaves no volume or the new one
abbrev pub MakeIsWhole : Type 0
MakeIsWhole = (disk : Disk) (j : Journal) (u : ℕ) (ws : List Write) (label : List ℕ) (new : Opened) → IsMaking disk j u ws label new
    → Makes disk j u ws label new

-- ---- units of other numbers

-- the events of an update, a relabelling and a wiping are of their unit alone, and so are those of their fronts
abbrev pub UpdateIsAside : Type 0
UpdateIsAside =
    (u w : ℕ) (ws : List Write) (label : List ℕ) (front : List Event) → u ≢ w
    → IsFront front (update u ws label) ⊎ IsFront front (Wrote u 3 label ∷ Synced u ∷ []) → IsUntouched front w
