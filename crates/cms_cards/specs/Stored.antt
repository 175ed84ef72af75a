-- The records of a file in its stored bytes, by what a header says.
use Rattle.std.specs.Prelude.{ℕ, ◌*◌, ◌==◌, if◌then◌else◌, List, length, Option, Some, None}
use Rattle.std.specs.Option.{option_and_then}
use Rattle.std.specs.Result.{result_ok}
use Rattle.cms_names.specs.declared.name.Format.{Format}
use Rattle.cms_names.specs.declared.name.Format.TheVariants.{F, V}
use Rattle.cms_model.specs.Lists.{cut}
use Rattle.cms_model.specs.Records.{longest, varying}

-- records whose longest has this length
abbrev pub with_longest : ℕ → List (List ℕ) → Option (List (List ℕ))
with_longest size records = if longest records == size then Some records else None

-- so many records of a format and length that fill bytes, with none left: at V the length is that of the longest
unfoldable pub filling : Format → ℕ → ℕ → List ℕ → Option (List (List ℕ))
filling F size count bytes = if count * size == length bytes then Some (cut count size bytes) else None
filling V size count bytes = option_and_then (with_longest size) (result_ok (varying 1 count 0 bytes))
