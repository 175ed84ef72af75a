-- What the calls' values mean.
use Rattle.std.specs.Prelude.{ℕ, List, Option, Some, None, Result, Ok, Err}
use Rattle.cms_names.specs.declared.name.Format.TheVariants.{V}
use Rattle.cms_model.specs.Acts.{Act}
use Rattle.cms_model.specs.Objects.{Object, Reply}
use Rattle.cms_model.specs.Slots.{Slot}
use Rattle.cms_edf.specs.declared.held.FileInfo.{FileInfo}
use Rattle.cms_search.specs.Calls.{Acts, Meaning, Spot, machine_of}
use Rattle.cms_search.specs.declared.state.Course.{Course}
use Rattle.cms_search.specs.declared.state.Course.TheVariants as course
use Rattle.cms_search.specs.declared.state.End.{End}
use Rattle.cms_search.specs.declared.state.State.{State}
use Rattle.cms_ext.specs.Extensions as spec
use Rattle.cms_ext.specs.Extensions.{Desk, Ended, desk, run_extension}
use Rattle.cms_ext.specs.Replies.{reply_of}
use Rattle.cms_ext.specs.declared.extension.ExtReply.TheVariants as told
use Rattle.cms_ext.specs.declared.wants.Met as declared
use Rattle.cms_ext.specs.declared.wants.Met.TheVariants as met
use Rattle.cms_ext.specs.declared.file_write.Form.{Form}

-- the desk with this state and these objects
abbrev pub desk_of : State → List Object → List Slot → Desk
desk_of s objects units = desk (machine_of s units) objects

-- what a want came to, with the state and the objects that are left
abbrev pub met_of : State → List Object → Meaning declared.Met spec.Met
met_of s objects units (met.Told reply) = spec.Told (desk_of s objects units) (reply_of reply)
met_of s objects units (met.Over code) = spec.Over (desk_of s objects units) code
met_of s objects units met.NoTurns = spec.NoTurns

-- a part of a run that leaves the objects, beside whichever there are
abbrev pub Meets : Spot → Spot → (Desk → Act spec.Met) → Result declared.Met End → Type 0
Meets old new tree result = (objects : List Object)
    → Acts old new (λ units. tree (desk_of old.state objects units)) result (met_of new.state objects)

-- how a run ended, with the state and the objects that are left
abbrev pub ended_of : State → List Object → Meaning Course Ended
ended_of s objects units (course.Went code) = spec.Went (desk_of s objects units) code
ended_of s objects units course.OutOfTurns = spec.OutOfTurns

-- a run of the object in a place, on whichever units the machine holds
abbrev pub run_tree : State → List Object → ℕ → Reply → List Slot → Act Ended
run_tree s objects place reply units = run_extension place (desk_of s objects units) reply

-- a refusal's course is what a want comes to
abbrev pub met_with : Result Course End → Result declared.Met End
met_with (Ok (course.Went code)) = Ok (met.Told (told.Refused code))
met_with (Ok course.OutOfTurns) = Ok met.NoTurns
met_with (Err e) = Err e

-- the form of a file of which this is told; a new one has varying records and mode number 1
abbrev pub form_told : Option FileInfo → Form
form_told None = record { format = V; length = 0; number = 1 }
form_told (Some info) = record { format = info.format; length = info.length; number = info.number }
