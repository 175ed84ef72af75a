-- FORMAT vdev mode [(LABEL] [BLKSIZE n]
use Rattle.std.specs.Prelude.{ℕ, pos, ◌==◌, ◌&&◌, ◌||◌, Bool, true, false, nat_lt, if◌then◌else◌, List, [], ◌∷◌, codes, fold, length, map, slice_get, slice_set, Option, Some, None, Result, Ok}
use Rattle.std.specs.List.{list_all}
use Rattle.std.specs.Option.{option_and_then, option_map}
use Rattle.cms_ebcdic.specs.CodePage.{upper_of}
use Rattle.cms_names.specs.Names.{is_between, is_name_character}
use Rattle.cms_fields.specs.Moments.{stamp_of}
use Rattle.cms_fields.specs.Steps.{◌>>=◌, ◌>>◌}
use Rattle.cms_text.specs.Numbers.{decimal_of}
use Rattle.cms_text.specs.Texts.{is_keyword, without_leading_blanks, without_trailing_blanks}
use Rattle.cms_model.specs.Changes.{Relabel, empty_minidisk}
use Rattle.cms_model.specs.Minidisks.{Minidisk, Not}
use Rattle.cms_model.specs.Acts.{Act, Done, Out, Does, bind, typed_line}
use Rattle.cms_model.specs.Slots.{Slot, state_in}
use Rattle.cms_model.specs.Steps.{Step, Wipe, Make, Outcome, is_doubt}
use Rattle.cms_line.specs.Messages.{message_text}
use Rattle.cms_line.specs.declared.message.Message.TheVariants.{M062, M114, M115, M603, M605, M733}
use Rattle.cms_line.specs.declared.token.Token.{Token}
use Rattle.cms_search.specs.Asks.{Asked, Given, Spent, ask}
use Rattle.cms_search.specs.ChangeTold.{change_told}
use Rattle.cms_operands.specs.Choices.{chosen_of, flag, form}
use Rattle.cms_search.specs.Machine.{Letter, Machine, Course, Went, OutOfTurns, after_step, letter_at, refusal}
use Rattle.cms_operands.specs.Operands.{device, ended, largest, letter, needed, operands_of}
use Rattle.cms_search.specs.Tables.{letter_for}
use Rattle.cms_operands.specs.declared.options.ChosenOption.{ChosenOption}
use Rattle.cms_operands.specs.declared.options.OptionForm.{OptionForm}
use Rattle.cms_operands.specs.declared.options.Parameter.{Parameter}
use Rattle.cms_operands.specs.declared.options.Parameter.TheVariants as takes
use Rattle.cms_operands.specs.declared.refusal.Refusal.{Refusal}
use Rattle.cms_search.specs.declared.state.Device.{Device}
use Rattle.cms_access.specs.declared.format.FormatLine.{FormatLine}
use Rattle.cms_access.specs.declared.format.FormatOption.{FormatOption}
use Rattle.cms_access.specs.declared.format.FormatOption.TheVariants as option
use Rattle.cms_access.specs.declared.format.Formatting.{Formatting}
use Rattle.cms_search.specs.DeviceSteps.{changing}
use Rattle.cms_search.specs.Refusals.{no_device, no_disk, not_accessed, on_line, read_only, unless_fault}
use Rattle.cms_search.specs.Texts.{device_text, left_in, letter_text}
use Rattle.cms_search.specs.Units.{left_by, released, unit_with, vdev_of}

-- ---- the line

-- a device, and the letter as which it is accessed then
unfoldable pub format_operands : List Token → Result FormatLine Refusal
format_operands operands = do
  device_word ← needed operands 1
  vdev ← device 1 device_word
  mode_word ← needed operands 2
  n ← letter 2 mode_word
  ended operands 3
  Ok (record { vdev = vdev; letter = n })

-- BLKSIZE takes a number, and where a unit has the device its block size alone
abbrev pub block_size : Option ℕ → Parameter
block_size None = takes.Number 0 largest
block_size (Some bsize) = takes.Number bsize bsize

-- LABEL, and BLKSIZE with the device's block size
abbrev pub options : Option ℕ → List (OptionForm FormatOption)
options bsize = flag option.Label (codes "LABEL   ") 5 ∷ form option.Blksize (codes "BLKSIZE ") 7 (block_size bsize) ∷ []

-- whether only the volume id is changed, by one option more
abbrev pub relabels_by : Bool → FormatOption → Bool
relabels_by relabels option.Label = true
relabels_by relabels option.Blksize = relabels

-- the same, by an option that was chosen
abbrev pub relabels_with : Bool → ChosenOption FormatOption → Bool
relabels_with relabels chosen = relabels_by relabels chosen.option

-- LABEL is among the options
abbrev pub relabels_of : List (ChosenOption FormatOption) → Bool
relabels_of chosen = fold relabels_with false chosen

-- whether only the volume id is changed, where the device has this block size
abbrev pub relabels : Option ℕ → List Token → Result Bool Refusal
relabels bsize words = do
  chosen ← chosen_of (options bsize) words
  Ok (relabels_of chosen)

-- the block size of a device, where a unit has it
abbrev pub size_of : List Device → ℕ → Option ℕ
size_of devices vdev = option_map (λ d. d.bsize) (option_and_then (λ u. slice_get devices u) (unit_with vdev devices))

-- what FORMAT's line says, or the first refusal
abbrev pub format_line : List Device → List Token → Result Formatting Refusal
format_line devices words = do
  line ← format_operands (operands_of words)
  label ← relabels (size_of devices line.vdev) words
  Ok (record { line = line; relabels = label })

-- ---- the two questions

-- a line that was asked for, folded and without the blanks around it
abbrev pub reply : List ℕ → List ℕ
reply line = without_leading_blanks (without_trailing_blanks (map upper_of line))

-- the reply to the first question is YES or 1
unfoldable pub goes_on : List ℕ → Bool
goes_on text = is_keyword (codes "YES") text || is_keyword (codes "1") text

-- 1 to 6 name characters
unfoldable pub is_label : List ℕ → Bool
is_label text = is_between 1 6 (length text) && list_all is_name_character text

-- what the question for the volume id comes to: one of 6 places, with the machine that is left; or the command ends so
pub data Labelling : Type 0 where
  Labelled : Machine → List ℕ → Labelling
  Ended : Course → Labelling

-- the reply to the second question is a label, in six columns; or it is refused, and the command
-- ends
abbrev pub labelled : Machine → List ℕ → Act Labelling
labelled s text =
    if is_label text then Done (Labelled s (left_in 6 text))
    else bind (refusal s (M062 text) 20) (λ course. Done (Ended course))

-- the line that was asked for is taken as the label; or no turn was left for it
abbrev pub on_label : Asked → Act Labelling
on_label (Given s line) = labelled s (reply line)
on_label Spent = Done (Ended OutOfTurns)

-- the volume id is asked for
abbrev pub asking_label : Machine → Act Labelling
asking_label s = Out (typed_line (message_text M605)) (bind (ask s) on_label)

-- goes on with the label, or the command has ended
abbrev pub with_label : (Machine → List ℕ → Act Course) → Labelling → Act Course
with_label next (Labelled s volid) = next s volid
with_label next (Ended course) = Done course

-- goes on where the first reply says so, else the command ends with code 8; or no turn was left
abbrev pub on_reply : (Machine → Act Course) → Asked → Act Course
on_reply next (Given s line) = if goes_on (reply line) then next s else Done (Went s (pos 8))
on_reply next Spent = Done OutOfTurns

-- whether all files are to be erased is asked for
abbrev pub asking_first : Machine → FormatLine → (Machine → Act Course) → Act Course
asking_first s line next =
    Out (typed_line (message_text (M603 (letter_text line.letter) (device_text line.vdev)))) (bind (ask s) (on_reply next))

-- ---- the unit of a device

-- goes on with the unit, its device and what is known of it; or no unit has the device
abbrev pub in_slot : Machine → ℕ → (ℕ → Device → Slot → Act Course) → ℕ → Option Device → Option Slot → Act Course
in_slot s vdev next u (Some d) (Some slot) = next u d slot
in_slot s vdev next u (Some d) None = no_device s vdev
in_slot s vdev next u None slot = no_device s vdev

-- the same by the unit's place
abbrev pub in_place : Machine → ℕ → (ℕ → Device → Slot → Act Course) → Option ℕ → Act Course
in_place s vdev next None = no_device s vdev
in_place s vdev next (Some u) = in_slot s vdev next u (slice_get s.devices u) (slice_get s.units u)

-- goes on with the unit that has a device: its place, its device and what is on it
abbrev pub on_device : Machine → ℕ → (ℕ → Device → Slot → Act Course) → Act Course
on_device s vdev next = in_place s vdev next (unit_with vdev s.devices)

-- ---- an empty volume is made

-- the new disk is accessed as the letter, which has none
abbrev pub accessed : ℕ → ℕ → Machine → Machine
accessed u n s = record s { letters = slice_set s.letters n (Some (letter_for u true n None)) }

-- the volume is accessed as the letter, and its blocks are typed
abbrev pub finished : Machine → ℕ → FormatLine → ℕ → Act Course
finished s u line blocks =
    Out (typed_line (message_text (M733 (decimal_of blocks) (letter_text line.letter) (device_text line.vdev))))
    (Done (Went (accessed u line.letter s) (pos 0)))

-- the making's outcome: the volume is there, or its device failed
abbrev pub made : Machine → ℕ → FormatLine → ℕ → Outcome → Act Course
made s u line blocks o = unless_fault s line.letter line.vdev o (finished s u line blocks)

-- the empty minidisk is made as a step of the unit
abbrev pub making : Machine → ℕ → FormatLine → Minidisk → Step → Act Course
making s u line m step = Does step (λ o. made (after_step s step o) u line m.total o)

-- a wiped unit is no volume for the second reason, its label
abbrev pub wiped : Machine → ℕ → FormatLine → Minidisk → Outcome → Act Course
wiped s u line m o = unless_fault s line.letter line.vdev o (making s u line m (Make u (Not 2) m (stamp_of s.moment)))

-- the unit is wiped as a step, and the making follows
abbrev pub wiping : Machine → ℕ → FormatLine → Minidisk → Step → Act Course
wiping s u line m step = Does step (λ o. wiped (after_step s step o) u line m o)

-- the unit and the letter are released first
abbrev pub vacated : ℕ → ℕ → Machine → Machine
vacated u n s = left_by u (released n s)

-- the unit and the letter are released, and an empty minidisk of all its blocks is made on it
abbrev pub remaking_in : Machine → FormatLine → List ℕ → ℕ → Device → Slot → Act Course
remaking_in s line volid u d slot =
    wiping (vacated u line.letter s) u line (empty_minidisk volid d.bsize d.blocks) (Wipe u (state_in slot))

-- the same for the device of the line
abbrev pub remaking : FormatLine → Machine → List ℕ → Act Course
remaking line s volid = on_device s line.vdev (remaking_in s line volid)

-- the volume id is asked for, and the empty volume is made
abbrev pub erasing : FormatLine → Machine → Act Course
erasing line s = bind (asking_label s) (with_label (remaking line))

-- the unit has fewer than 8 blocks
abbrev pub too_small : Machine → ℕ → Act Course
too_small s vdev = refusal s (M114 (device_text vdev)) no_disk

-- 037 for a unit that may not be written, 114 for one that has fewer than 8 blocks
abbrev pub formatting : Machine → FormatLine → Device → Act Course
formatting s line d =
    if d.writable then (if nat_lt d.blocks 8 then too_small s line.vdev else asking_first s line (erasing line))
    else read_only s line.letter

-- ---- the volume id is changed

-- the volume id of letter n is changed, and what that came to is typed
abbrev pub relabelling : ℕ → Machine → List ℕ → Act Course
relabelling n s volid = bind (changing s n (Relabel volid)) (change_told n)

-- a label is asked for, and the volume id changed
abbrev pub asking_relabel : ℕ → Machine → Act Course
asking_relabel n s = bind (asking_label s) (with_label (relabelling n))

-- the same for the letter of the line, where it may be written
abbrev pub relabel_disk : Machine → FormatLine → Letter → Act Course
relabel_disk s line disk = if disk.read_only then read_only s line.letter else asking_relabel line.letter s

-- 069 where the device isn't accessed as that letter, 037
abbrev pub relabel : Machine → FormatLine → Option Letter → Act Course
relabel s line None = not_accessed s line.letter
relabel s line (Some disk) = if vdev_of s disk.unit == line.vdev then relabel_disk s line disk else not_accessed s line.letter

-- ---- the command

-- the unit is in doubt
abbrev pub in_doubt : Machine → ℕ → Act Course
in_doubt s vdev = refusal s (M115 (device_text vdev)) no_disk

-- a unit in doubt is refused
abbrev pub format_unit : Machine → Formatting → ℕ → Device → Slot → Act Course
format_unit s f u d slot =
    if is_doubt slot then in_doubt s f.line.vdev
    else (if f.relabels then relabel s f.line (letter_at s f.line.letter) else formatting s f.line d)

-- what the line says is done to its device
abbrev pub format_disk : Machine → Formatting → Act Course
format_disk s f = on_device s f.line.vdev (format_unit s f)

-- an empty volume is made on a device, or its volume id is changed
abbrev pub format : Machine → List Token → Act Course
format s words = on_line s words (format_disk s) (format_line s.devices words)
