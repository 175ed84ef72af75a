-- What is asked of a volume that is held.
use Rattle.std.specs.Prelude.{ℕ, List, length, map}
use Rattle.cms_map.specs.Bits.{free_blocks}
use Rattle.cms_held.specs.HeldVolumes.{HeldFile, HeldVolume}
use Rattle.cms_edf.specs.declared.held.FileInfo.{FileInfo}
use Rattle.cms_edf.specs.declared.held.Space.{Space}

-- what is told of a file
abbrev pub info_of : HeldFile → FileInfo
info_of f = record {
  name = f.entry.name;
  number = f.entry.number;
  format = f.entry.format;
  length = f.length;
  count = f.entry.count;
  blocks = f.entry.blocks;
  stamp = f.entry.stamp;
}

-- what is told of each file, in order
abbrev pub infos_in : HeldVolume → List FileInfo
infos_in v = map info_of v.files

-- the data blocks of each file
abbrev pub leaves_in : HeldVolume → List (List ℕ)
leaves_in v = map (λ f. f.tree.leaves) v.files

-- how many bytes are stored of each file
abbrev pub stored_in : HeldVolume → List ℕ
stored_in v = map (λ f. f.size) v.files

-- the volume's room: the free blocks are those that its map doesn't mark
abbrev pub space_of : HeldVolume → Space
space_of v = record {
  volid = v.label.volid;
  bsize = v.disk.bsize;
  total = v.label.blocks;
  free = length (free_blocks v.bits);
}
