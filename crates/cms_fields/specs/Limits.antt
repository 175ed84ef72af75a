-- The limits of files.
use Rattle.std.specs.Prelude.{ℕ}

-- the most bytes that a file's records have as they are stored
abbrev pub most_bytes : ℕ
most_bytes = 67108864

-- the most records of a file
abbrev pub most_records : ℕ
most_records = 1048576

-- the most bytes of a record
abbrev pub longest_record : ℕ
longest_record = 65535

-- the most files of a minidisk
abbrev pub most_files : ℕ
most_files = 16384
