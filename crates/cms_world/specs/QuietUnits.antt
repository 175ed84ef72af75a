-- The units of a quiet world, over images that were made before.
use Rattle.std.specs.Prelude.{◌&&◌, ◌==◌, ℕ, ◌+◌, ◌-◌, ◌*◌, ◌/◌, ◌^◌, min, nat_le, true, false, Bool, List, [], ◌++◌, length, take, drop, position, replicate, slice_index_or, slice_set, if◌then◌else◌, Option, None, Some}
use Rattle.std.specs.Str.{bytes_eq}
use Rattle.cms_journal.specs.declared.event.Access.{Access}
use Rattle.cms_journal.specs.declared.event.Access.TheVariants.{ReadOnly, ReadWrite, New}
use Rattle.cms_world.specs.declared.quiet.QuietUnit.{QuietUnit}

-- images: their names and their bytes
abbrev pub Images : Type 0
Images = List (List ℕ × List ℕ)

-- the place of the first image of a name
abbrev pub place_of : Images → List ℕ → Option ℕ
place_of images name = position (λ image. bytes_eq image.0 name) images

-- the bytes of the image at a place; none where there is no image
abbrev pub bytes_at : Images → Option ℕ → List ℕ
bytes_at images None = []
bytes_at images (Some place) = (slice_index_or images place ([], [])).1

-- how many whole blocks an image has, as far as 32 bits count them
abbrev pub blocks_at : Images → Option ℕ → ℕ → ℕ
blocks_at images image bsize = min (length (bytes_at images image) / bsize) (2 ^ 32 - 1)

-- the unit over the image of a name, of 0 blocks where there is none
abbrev pub unit_over : Images → List ℕ → ℕ → Bool → QuietUnit
unit_over images name bsize writable = record {
  image = place_of images name;
  bsize = bsize;
  blocks = blocks_at images (place_of images name) bsize;
  writable = writable;
}

-- the unit that an attach adds; a new one is over no image
abbrev pub unit_for : Images → List ℕ → ℕ → Access → QuietUnit
unit_for images name bsize ReadOnly = unit_over images name bsize false
unit_for images name bsize ReadWrite = unit_over images name bsize true
unit_for images name bsize (New n) = record {
  image = None;
  bsize = bsize;
  blocks = n;
  writable = false;
}

-- a unit has this block of so many bytes
abbrev pub has_block : QuietUnit → ℕ → ℕ → Bool
has_block unit block size = (size == unit.bsize) && (nat_le 1 block && nat_le block unit.blocks)

-- where it begins in the unit's image
abbrev pub start_of : QuietUnit → ℕ → ℕ → Option ℕ
start_of unit block size =
    if has_block unit block size then Some ((block - 1) * size) else None

-- so many bytes from a place on; zeros where there are fewer
abbrev pub part_of : List ℕ → ℕ → ℕ → List ℕ
part_of bytes start n =
    if nat_le (start + n) (length bytes) then take n (drop start bytes) else replicate n 0

-- so many bytes of an image from where a block begins; zeros where there is no image or no block
abbrev pub part_from : Images → Option ℕ → Option ℕ → ℕ → List ℕ
part_from images image None size = replicate size 0
part_from images image (Some start) size = part_of (bytes_at images image) start size

-- what is read of a block of a unit
abbrev pub block_in : Images → QuietUnit → ℕ → ℕ → List ℕ
block_in images unit block size = part_from images unit.image (start_of unit block size) size

-- bytes with others over them from a place on; as they are where not all of those fit
abbrev pub put_over : List ℕ → ℕ → List ℕ → List ℕ
put_over bytes start from =
    let end = start + length from in
    if nat_le end (length bytes) then take start bytes ++ from ++ drop end bytes else bytes

-- the images with bytes over those of one of them; as they are where there is no image or no block
abbrev pub put_in : Images → Option ℕ → Option ℕ → List ℕ → Images
put_in images None start from = images
put_in images (Some place) None from = images
put_in images (Some place) (Some start) from =
    let image = slice_index_or images place ([], []) in
    slice_set images place (image.0, put_over image.1 start from)

-- the images after a write of a block of a unit: it goes to its image, if the unit may be written
abbrev pub written_in : Images → QuietUnit → ℕ → List ℕ → Images
written_in images unit block from =
    if unit.writable then put_in images unit.image (start_of unit block (length from)) from else images
