-- Images in memory, and what stands in them.
use Rattle.std.specs.Prelude.{ℕ, zero, suc, ◌+◌, ◌-◌, Bool, List, [], ◌++◌, length, drop, slice_get, replicate, if◌then◌else◌, Option, None, Some}
use Rattle.std.specs.List.{concat, list_any}
use Rattle.std.specs.Option.{option_map_or}
use Rattle.std.specs.Str.{bytes_eq}
use Rattle.cms_journal.specs.Blocks.{cut}
use Rattle.cms_journal.specs.Journal.{Journal, contents_of}
use Rattle.cms_journal.specs.declared.event.Attached.{Attached}
use Rattle.cms_journal.specs.declared.event.Access.{Access}
use Rattle.cms_journal.specs.declared.event.Access.TheVariants.{ReadOnly, ReadWrite, New}
use Rattle.cms_world.specs.declared.images.Image.{Image}

-- bytes with others over their beginning
abbrev pub over : List ℕ → List ℕ → List ℕ
over above below = above ++ drop (length above) below

-- the name of a unit's image
abbrev pub name_of : List Attached → ℕ → List ℕ
name_of units u = option_map_or (λ unit. unit.name) (slice_get units u) []

-- bytes with the contents of unit u over them, if it has this name
abbrev pub with_unit : Journal → ℕ → List ℕ → List ℕ → List ℕ
with_unit j u name bytes = if bytes_eq (name_of j.units u) name then over (concat (contents_of j u)) bytes else bytes

-- the same with n units from unit u on, one after another
abbrev pub written_over : Journal → ℕ → ℕ → List ℕ → List ℕ → List ℕ
written_over j u zero name bytes = bytes
written_over j u (suc n) name bytes = written_over j (u + 1) n name (with_unit j u name bytes)

-- a unit has this name
abbrev pub is_named : List Attached → List ℕ → Bool
is_named units name = list_any (λ unit. bytes_eq unit.name name) units

-- the bytes that stand under a name: those that were given, with the contents of the units that were attached of it since over
-- them. A made image was given none; there is none where none was given and none was made
abbrev pub standing : Journal → Option Image → List ℕ → Option (List ℕ)
standing j (Some image) name = Some (written_over j image.since (length j.units - image.since) name image.bytes)
standing j None name = if is_named j.units name then Some (written_over j 0 (length j.units) name []) else None

-- the blocks with which a unit is attached, by what stands under its name: none where there is no image, and none where one is
-- to be made that is there
abbrev pub starting : Option (List ℕ) → Access → ℕ → Option (List (List ℕ))
starting (Some bytes) ReadOnly size = Some (cut size bytes)
starting (Some bytes) ReadWrite size = Some (cut size bytes)
starting (Some bytes) (New n) size = None
starting None ReadOnly size = None
starting None ReadWrite size = None
starting None (New n) size = Some (replicate n (replicate size 0))
