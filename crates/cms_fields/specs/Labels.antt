-- The label of a volume, in the bytes of its block 3.
use Rattle.std.specs.Prelude.{◌≡◌, ℕ, Bool, ◌==◌, ◌||◌, List, take, drop, Result, Ok}
use Rattle.byteorder.specs.Endian.{big_bytes}
use Rattle.cms_names.specs.Names.{is_between}
use Rattle.cms_fields.specs.Steps.{◌>>◌, want}
use Rattle.cms_text.specs.Bytes.{word, overwritten}
use Rattle.cms_fields.specs.declared.label.Label.{Label}
use Rattle.cms_fields.specs.declared.label.LabelFault.{LabelFault}
use Rattle.cms_fields.specs.declared.label.LabelFault.TheVariants.{Id, BlockSize, Origin, Count, EntrySize}

-- what the bytes say
unfoldable pub label_fields : List ℕ → Label
label_fields bytes = record {
  volid = take 6 (drop 4 bytes);
  bsize = word bytes 12;
  origin = word bytes 16;
  blocks = word bytes 28;
  in_use = word bytes 32;
}

-- CMS1
unfoldable pub has_identifier : List ℕ → Bool
has_identifier bytes = word bytes 0 == 0xC3D4E2F1

-- a block in which a directory can begin
unfoldable pub is_origin : ℕ → Bool
is_origin n = (n == 4) || (n == 5)

-- the label that the bytes spell on a unit of this block size and so many blocks, or the first test that they fail
unfoldable pub label_of : ℕ → ℕ → List ℕ → Result Label LabelFault
label_of bsize blocks bytes = do
  want (has_identifier bytes) Id
  want (word bytes 12 == bsize) BlockSize
  want (is_origin (word bytes 16)) Origin
  want (is_between 6 blocks (word bytes 28)) Count
  want (word bytes 36 == 64) EntrySize
  Ok (label_fields bytes)

-- the bytes with the fields of the label that an update or a relabel changes: volume id, origin and blocks in use
unfoldable pub with_label : Label → List ℕ → List ℕ
with_label label bytes =
    overwritten 32 (big_bytes 4 label.in_use) (overwritten 16 (big_bytes 4 label.origin) (overwritten 4 label.volid bytes))

-- the bytes spell a label with the block size and the count of blocks of this one
abbrev pub SpellsSame : Label → List ℕ → Type 0
SpellsSame label bytes = (old : Label) × (label_of label.bsize label.blocks bytes ≡ Ok old) × (old.blocks ≡ label.blocks)
