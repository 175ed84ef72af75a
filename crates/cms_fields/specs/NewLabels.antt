-- The label of a volume that is made.
use Rattle.std.specs.Prelude.{ℕ, ◌-◌, ◌/◌, List, [], ◌∷◌, ◌++◌, replicate}
use Rattle.byteorder.specs.Endian.{big_bytes}
use Rattle.cms_fields.specs.Stamps.{stamp_bytes}
use Rattle.cms_fields.specs.Entries.{filled_in}
use Rattle.cms_fields.specs.declared.label.Label.{Label}
use Rattle.cms_fields.specs.declared.time.Stamp.{Stamp}

-- its first 80 bytes: CMS1, the volume id, the bytes of a block, the block in which the directory begins, the volume's blocks as usable, as
-- formatted and as its size, those in use, the bytes of an entry, the entries in a block, and the date; zero where no field stands
unfoldable pub first_fields : Label → Stamp → List ℕ
first_fields l stamp =
    filled_in ((0, big_bytes 4 0xC3D4E2F1) ∷ (4, l.volid) ∷ (12, big_bytes 4 l.bsize) ∷ (16, big_bytes 4 l.origin)
    ∷ (20, big_bytes 4 l.blocks) ∷ (24, big_bytes 4 l.blocks) ∷ (28, big_bytes 4 l.blocks) ∷ (32, big_bytes 4 l.in_use)
    ∷ (36, big_bytes 4 64) ∷ (40, big_bytes 4 (l.bsize / 64)) ∷ (44, stamp_bytes stamp) ∷ []) (replicate 80 0)

-- the bytes of its block
abbrev pub first_label : Label → Stamp → List ℕ
first_label l stamp = first_fields l stamp ++ replicate (l.bsize - 80) 0
