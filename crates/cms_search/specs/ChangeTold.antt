-- What a change of a disk came to, as commands tell it.
use Rattle.std.specs.Prelude.{ℕ, pos, List}
use Rattle.cms_text.specs.Numbers.{decimal_of}
use Rattle.cms_model.specs.Acts.{Act, Done}
use Rattle.cms_model.specs.Slots.{Slot}
use Rattle.cms_line.specs.declared.message.Message.TheVariants.{M107, M120}
use Rattle.cms_search.specs.DeviceSteps.{Changing, IsChanged, IsLimited, IsFull, HasFailed, changing_of}
use Rattle.cms_search.specs.Machine.{Course, Went, refusal}
use Rattle.cms_search.specs.Refusals.{fault}
use Rattle.cms_search.specs.Texts.{letter_text}
use Rattle.cms_search.specs.declared.state.State.{State}
use Rattle.cms_search.specs.declared.device_step.Changed as declared

-- the code of a limit
abbrev pub limited : ℕ
limited = 40

-- it is done; or the limit is typed that it would pass, or of the disk of letter n the blocks that it needs and those that are free
abbrev pub change_told : ℕ → Changing → Act Course
change_told n (IsChanged s) = Done (Went s (pos 0))
change_told n (IsLimited s k) = refusal s (M120 (decimal_of k)) limited
change_told n (IsFull s need free) = refusal s (M107 (letter_text n) (decimal_of need) (decimal_of free)) fault
change_told n (HasFailed course) = Done course

-- what a change came to is typed, on the machine with these units
abbrev pub told_tree : State → ℕ → declared.Changed → List Slot → Act Course
told_tree s n changed units = change_told n (changing_of s units changed)
