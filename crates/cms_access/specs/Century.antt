-- CENTURY mode [pivot]
use Rattle.std.specs.Prelude.{if◌then◌else◌, List, Option, Some, None, Result, Ok}
use Rattle.cms_fields.specs.Steps.{◌>>=◌, ◌>>◌}
use Rattle.cms_model.specs.Changes as model
use Rattle.cms_model.specs.Acts.{Act, bind}
use Rattle.cms_line.specs.declared.token.Token.{Token}
use Rattle.cms_operands.specs.Choices.{without_options}
use Rattle.cms_operands.specs.Operands.{ended, letter, needed, operands_of}
use Rattle.cms_operands.specs.Optional.{number_or}
use Rattle.cms_operands.specs.declared.refusal.Refusal.{Refusal}
use Rattle.cms_search.specs.ChangeTold.{change_told}
use Rattle.cms_search.specs.DeviceSteps.{changing}
use Rattle.cms_search.specs.Machine.{Letter, Machine, Course, letter_at}
use Rattle.cms_search.specs.Refusals.{not_accessed, on_line, read_only}
use Rattle.cms_access.specs.declared.century.CenturyLine.{CenturyLine}

-- the letter of a disk, and a number from 0 to 100, which is 70 where it is left out
unfoldable pub century_operands : List Token → Result CenturyLine Refusal
century_operands operands = do
  mode_word ← needed operands 1
  n ← letter 1 mode_word
  pivot ← number_or 0 100 operands 2 70
  ended operands 3
  Ok (record { letter = n; pivot = pivot })

-- there are no options
abbrev pub century_line : List Token → Result CenturyLine Refusal
century_line words = without_options words (century_operands (operands_of words))

-- the stamps of the letter's minidisk are moved, and what that came to is typed
abbrev pub moving_stamps : CenturyLine → Machine → Act Course
moving_stamps line s = bind (changing s line.letter (model.Century line.pivot)) (change_told line.letter)

-- 069 where no disk has the letter, 037 where it may only be read
abbrev pub century_disk : Machine → CenturyLine → Option Letter → Act Course
century_disk s line None = not_accessed s line.letter
century_disk s line (Some disk) = if disk.read_only then read_only s line.letter else moving_stamps line s

-- the disk of the line's letter
abbrev pub century_letter : Machine → CenturyLine → Act Course
century_letter s line = century_disk s line (letter_at s line.letter)

-- the stamps of the files of a disk are moved by one update: 069, 037, 107, 105
abbrev pub century : Machine → List Token → Act Course
century s words = on_line s words (century_letter s) (century_line words)
