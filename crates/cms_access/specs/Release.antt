-- RELEASE vdev or mode
use Rattle.std.specs.Prelude.{ℕ, pos, List, Option, Some, None, Result, Ok}
use Rattle.cms_fields.specs.Steps.{◌>>=◌, ◌>>◌}
use Rattle.cms_model.specs.Acts.{Act, Done}
use Rattle.cms_line.specs.declared.message.Message.TheVariants.{M069}
use Rattle.cms_line.specs.declared.token.Token.{Token}
use Rattle.cms_operands.specs.Choices.{without_options}
use Rattle.cms_search.specs.Machine.{Letter, Machine, Course, Went, letter_at, refusal}
use Rattle.cms_operands.specs.Operands.{device_or_letter, ended, needed, operands_of}
use Rattle.cms_operands.specs.declared.operand.Target.{Target}
use Rattle.cms_operands.specs.declared.operand.Target.TheVariants as target
use Rattle.cms_operands.specs.declared.refusal.Refusal.{Refusal}
use Rattle.cms_search.specs.Refusals.{no_device, no_disk, not_accessed, on_line}
use Rattle.cms_search.specs.Texts.{device_text}
use Rattle.cms_search.specs.Units.{letter_with, released, unit_with}

-- three characters are a device, and one is a letter
unfoldable pub release_operands : List Token → Result Target Refusal
release_operands operands = do
  text ← needed operands 1
  which ← device_or_letter 1 text
  ended operands 2
  Ok which

-- there are no options
abbrev pub release_line : List Token → Result Target Refusal
release_line words = without_options words (release_operands (operands_of words))

-- marks of a released parent stay
abbrev pub releasing : Machine → ℕ → Act Course
releasing s n = Done (Went (released n s) (pos 0))

-- the letter's disk is released; or no disk has the letter
abbrev pub release_letter : Machine → ℕ → Option Letter → Act Course
release_letter s n None = not_accessed s n
release_letter s n (Some disk) = releasing s n

-- where a device isn't accessed, it is shown in place of the letter
abbrev pub release_unit : Machine → ℕ → Option ℕ → Act Course
release_unit s vdev None = refusal s (M069 (device_text vdev)) no_disk
release_unit s vdev (Some n) = releasing s n

-- the disk of the device is released; or no unit has the device
abbrev pub release_device : Machine → ℕ → Option ℕ → Act Course
release_device s vdev None = no_device s vdev
release_device s vdev (Some u) = release_unit s vdev (letter_with u s.letters)

-- the same for what the line names, a device or a letter
abbrev pub release_disk : Machine → Target → Act Course
release_disk s (target.Device vdev) = release_device s vdev (unit_with vdev s.devices)
release_disk s (target.Letter n) = release_letter s n (letter_at s n)

-- the disk of a device or a letter is released: 113, 069
abbrev pub release : Machine → List Token → Act Course
release s words = on_line s words (release_disk s) (release_line words)
