-- The size of an image's blocks, by its label.
use Rattle.std.specs.Prelude.{◌≡◌, ℕ, ◌+◌, ◌*◌, ◌&&◌, nat_le, Bool, true, false, List, length, take, drop, Option, None, Some, Result, Ok, Err}
use Rattle.std.specs.Option.{ForSome}
use Rattle.cms_journal.specs.Limits.{most_blocks}
use Rattle.cms_fields.specs.Labels.{label_of}
use Rattle.cms_fields.specs.declared.label.Label.{Label}
use Rattle.cms_fields.specs.declared.label.LabelFault.{LabelFault}
use Rattle.cms_fields.specs.declared.label.LabelFault.TheVariants as label
use Rattle.mini_host.specs.Files.{Files, content_of}

-- a label passes the tests of identifier and block size
abbrev pub passes : Result Label LabelFault → Bool
passes (Err label.Id) = false
passes (Err label.BlockSize) = false
passes (Err label.Origin) = true
passes (Err label.Count) = true
passes (Err label.EntrySize) = true
passes (Ok l) = true

-- block 3 of this size, in the front of an image, is such a label
unfoldable pub has_label : List ℕ → ℕ → Bool
has_label front size = nat_le (2 * size + 80) (length front) && passes (label_of size most_blocks (drop (2 * size) front))

-- the one size at which it is
abbrev pub only_size : Bool → Bool → Bool → Bool → Option ℕ
only_size true false false false = Some 512
only_size false true false false = Some 1024
only_size false false true false = Some 2048
only_size false false false true = Some 4096
only_size _ _ _ _ = None

-- the size of blocks that the front of an image shows; none where it shows no one size
unfoldable pub label_size : List ℕ → Option ℕ
label_size front = only_size (has_label front 512) (has_label front 1024) (has_label front 2048) (has_label front 4096)

-- so much of an image is looked at
abbrev pub looked_at : ℕ
looked_at = 8272

-- the size of the image of a name, where the host tells its files: none where there is no such file, and else the one that is given,
-- or that of its label
abbrev pub size_with : Option ℕ → List ℕ → Option ℕ
size_with (Some size) bytes = Some size
size_with None bytes = label_size (take looked_at bytes)

-- the same of what the host tells of the file, which may not be there
abbrev pub size_in : Option ℕ → Option (List ℕ) → Option ℕ
size_in given None = None
size_in given (Some bytes) = size_with given bytes

-- this was found for the image of that name: its size, or none
abbrev pub IsSizeOf : Option Files → List ℕ → Option ℕ → Option ℕ → Type 0
IsSizeOf told name given found = ForSome told (λ f. found ≡ size_in given (content_of name f.files))
