-- A host file that may be open.
use Rattle.std.specs.Prelude.{ℕ, Option}
use Rattle.std.specs.Option.{option_map_or}
use Rattle.mini_files.specs.declared.source.Source.{Source}

-- how many bytes are left of it
abbrev pub left_of : Option Source → ℕ
left_of source = option_map_or (λ s. s.left) source 0
