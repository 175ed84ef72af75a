-- What a layout says of the records of a host file.
use Rattle.std.specs.Prelude.{ℕ, Option, None, Some}
use Rattle.cms_names.specs.declared.name.Format.{Format}
use Rattle.cms_names.specs.declared.name.Format.TheVariants.{F, V}
use Rattle.mini_forms.specs.declared.form.Layout.{Layout}
use Rattle.mini_forms.specs.declared.form.Layout.TheVariants.{Text, Binary, Records}

-- records of one size, or each with its own
abbrev pub sized : Option ℕ → Format
sized (Some size) = F
sized None = V

-- the format of a file that is made of records in this layout
abbrev pub format_of : Layout → Format
format_of (Text size) = sized size
format_of (Binary size) = F
format_of (Records size) = sized size

-- the size that all records have, where they have one
abbrev pub size_or : Option ℕ → ℕ
size_or (Some size) = size
size_or None = 0

-- the size that the layout gives its records; 0 where each has its own
abbrev pub size_of : Layout → ℕ
size_of (Text size) = size_or size
size_of (Binary size) = size
size_of (Records size) = size_or size
