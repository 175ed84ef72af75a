-- What every volume is that is held.
use Rattle.std.specs.Prelude.{◌≡◌, ℕ, Bool, List}
use Rattle.cms_names.specs.declared.name.Name.{Name}
use Rattle.cms_fields.specs.declared.label.Label.{Label}
use Rattle.cms_held.specs.HeldVolumes.{HeldFile, HeldTree, by_name}
use Rattle.cms_held.specs.Kept.{IsKept}

-- its files stand under their names, in their order; and what is held of it is that of a volume
pub record IsSound (bsize count : ℕ) (label : Label) (long : ℕ) (directory map : HeldTree) (bits : List Bool)
    (entries : List (Name × HeldFile)) (files : List HeldFile) :
    Type 0 where
  pub named : entries ≡ by_name files
  pub kept : IsKept bsize count label long directory map bits files
