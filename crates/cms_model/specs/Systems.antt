-- The entries of the directory itself (0) and of the allocation map (1).
use Rattle.std.specs.Prelude.{ℕ, ◌+◌, ◌*◌, ◌/◌, Bool, ◌==◌, ◌&&◌, ◌||◌, nat_le, List, Result, Ok}
use Rattle.cms_names.specs.Names.{is_between}
use Rattle.cms_fields.specs.Limits.{most_files}
use Rattle.cms_fields.specs.Steps.{◌>>◌, want}
use Rattle.cms_text.specs.Bytes.{word, byte}
use Rattle.cms_fields.specs.Numbers.{up, is_shape}
use Rattle.cms_model.specs.declared.fault.OpenFault.{OpenFault}
use Rattle.cms_model.specs.declared.fault.OpenFault.TheVariants.{System}

-- where a system file stands
pub record SystemFile : Type 0 where
  pub root : ℕ
  pub blocks : ℕ
  pub count : ℕ
  pub levels : ℕ

-- the fields of an entry of the directory or the map
unfoldable pub system_fields : List ℕ → SystemFile
system_fields bytes = record { root = word bytes 40; blocks = word bytes 44; count = word bytes 48; levels = byte bytes 52 }

-- fixed records of this length, with data blocks and levels by the formulas
unfoldable pub is_system : ℕ → ℕ → List ℕ → Bool
is_system bsize size bytes =
    (byte bytes 30 == 0xC6) && (word bytes 32 == size) && (word bytes 44 == up (word bytes 48 * size) bsize)
    && is_shape (bsize / 4) (word bytes 44) (byte bytes 52)

-- 2 to 16,386 records of 64 bytes, and with one data block the root is the directory's origin
unfoldable pub is_directory : ℕ → ℕ → List ℕ → Bool
is_directory bsize origin bytes =
    is_system bsize 64 bytes && is_between 2 (most_files + 2) (word bytes 48) && (nat_le 1 (byte bytes 52) || (word bytes 40 == origin))

-- the bytes of a map of so many blocks, in records of a block
unfoldable pub is_map : ℕ → ℕ → List ℕ → Bool
is_map bsize total bytes = is_system bsize bsize bytes && (word bytes 48 == up (up total 8) bsize)

-- the directory's own entry, or why it is refused
unfoldable pub directory_of : ℕ → ℕ → List ℕ → Result SystemFile OpenFault
directory_of bsize origin bytes = do
  want (is_directory bsize origin bytes) (System 0)
  Ok (system_fields bytes)

-- the map's entry, or why it is refused
unfoldable pub map_of : ℕ → ℕ → List ℕ → Result SystemFile OpenFault
map_of bsize total bytes = do
  want (is_map bsize total bytes) (System 1)
  Ok (system_fields bytes)
