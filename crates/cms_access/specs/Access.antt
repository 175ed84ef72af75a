-- ACCESS [vdev [mode[/ext]]]
use Rattle.std.specs.Prelude.{ℕ, pos, Bool, List, Result, Ok, if◌then◌else◌}
use Rattle.cms_fields.specs.Steps.{◌>>=◌, ◌>>◌}
use Rattle.cms_text.specs.Numbers.{decimal_of}
use Rattle.cms_model.specs.Acts.{Act, Done, Out, bind, typed_line}
use Rattle.cms_line.specs.Messages.{message_text}
use Rattle.cms_line.specs.declared.message.Message.TheVariants.{M112, M723}
use Rattle.cms_line.specs.declared.token.Token.{Token}
use Rattle.cms_operands.specs.Choices.{without_options}
use Rattle.cms_access.specs.declared.access.AccessLine.{AccessLine}
use Rattle.cms_search.specs.Access.{accessing}
use Rattle.cms_search.specs.Machine.{Machine, Course, Went, refusal}
use Rattle.cms_operands.specs.Operands.{ended, operands_of}
use Rattle.cms_operands.specs.Optional.{access_mode_or_a, device_or}
use Rattle.cms_operands.specs.declared.refusal.Refusal.{Refusal}
use Rattle.cms_search.specs.Refusals.{device_fault, no_device, no_disk, not_accessed, on_line}
use Rattle.cms_search.specs.Texts.{device_text, letter_text}
use Rattle.cms_search.specs.declared.access.AccessEnd.{AccessEnd}
use Rattle.cms_search.specs.declared.access.AccessEnd.TheVariants as ends

-- ---- the line

-- a device, 191 where it isn't given, and the letter as which it is accessed, A where it isn't
unfoldable pub access_operands : List Token → Result AccessLine Refusal
access_operands operands = do
  vdev ← device_or operands 1 0x191
  mode ← access_mode_or_a operands 2
  ended operands 3
  Ok (record { vdev = vdev; mode = mode })

-- there are no options
abbrev pub access_line : List Token → Result AccessLine Refusal
access_line words = without_options words (access_operands (operands_of words))

-- ---- the disk

-- a disk that may only be read is told of
abbrev pub told : Machine → ℕ → ℕ → Bool → Act Course
told s vdev n read_only =
    if read_only then Out (typed_line (message_text (M723 (letter_text n) (device_text vdev)))) (Done (Went s (pos 0)))
    else Done (Went s (pos 0))

-- device vdev was to be accessed as letter n
abbrev pub answered : Machine → ℕ → ℕ → AccessEnd → Act Course
answered s vdev n ends.NoUnit = no_device s vdev
answered s vdev n (ends.NoParent parent) = not_accessed s parent
answered s vdev n ends.Failed = device_fault s vdev
answered s vdev n (ends.NoVolume k) = refusal s (M112 (device_text vdev) (decimal_of k)) no_disk
answered s vdev n (ends.Done read_only) = told s vdev n read_only

-- the volume of the line's device is accessed as its letter, and what that came to is typed
abbrev pub access_disk : Machine → AccessLine → Act Course
access_disk s line = bind (accessing s line.vdev line.mode.letter line.mode.ext) (λ x. answered x.0 line.vdev line.mode.letter x.1)

-- the volume of a device is accessed as a letter: 113, 069 for an ext that isn't accessed, 105, 112
abbrev pub access : Machine → List Token → Act Course
access s words = on_line s words (access_disk s) (access_line words)
