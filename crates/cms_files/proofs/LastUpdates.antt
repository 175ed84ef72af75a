-- An update, as the last thing of a command.
use Rattle.std.proofs.Common.{◌≡◌, ℕ, List, Result, Ok, Err, pos, ap, subst}
use Rattle.cms_model.specs.Changes.{Change}
use Rattle.cms_model.specs.Acts.{Act, bind}
use Rattle.cms_model.specs.Slots.{Slot}
use Rattle.cms_files.specs.Updates.{last_update, updated_of, went}
use Rattle.cms_files.specs.declared.update.Updated as declared_updated
use Rattle.cms_files.specs.declared.update.Updated.TheVariants as came
use Rattle.cms_search.specs.Calls.{Acts, Spot, course_of, holds, machine_of}
use Rattle.cms_search.specs.DeviceSteps.{Stepped, unless_failed}
use Rattle.cms_search.specs.Machine.{Course}
use Rattle.cms_search.specs.declared.state.Course as declared
use Rattle.cms_search.specs.declared.state.Course.TheVariants as course
use Rattle.cms_search.specs.declared.state.End.{End}
use Rattle.cms_search.proofs.Acts.{acts_done, acts_same, acts_stop, comes_in}

pub update_over : (old new : Spot) (tree : List Slot → Act Stepped) (x : declared_updated.Updated) → Acts old new tree (Ok x) (updated_of new.state) → x ≡ came.Done
    → Acts old new (λ units. bind (tree units) (unless_failed went)) (Ok (course.Went (pos 0))) (course_of new.state)
update_over old new tree x a is =
    acts_done old new (λ units. bind (tree units) (unless_failed went)) (course.Went (pos 0)) (course_of new.state)
    (comes_in old new tree (unless_failed went) came.Done (updated_of new.state) (subst (λ (y : declared_updated.Updated). Acts old new tree (Ok y) (updated_of new.state)) is a))

pub update_ended : (old new : Spot) (tree : List Slot → Act Stepped) (x : declared_updated.Updated) (c : declared.Course) → Acts old new tree (Ok x) (updated_of new.state) → x ≡ came.Stopped c
    → Acts old new (λ units. bind (tree units) (unless_failed went)) (Ok c) (course_of new.state)
update_ended old new tree x c a is =
    acts_done old new (λ units. bind (tree units) (unless_failed went)) c (course_of new.state)
    (comes_in old new tree (unless_failed went) (came.Stopped c) (updated_of new.state) (subst (λ (y : declared_updated.Updated). Acts old new tree (Ok y) (updated_of new.state)) is a))

pub update_off : (old new : Spot) (tree : List Slot → Act Stepped) (e : End) → Acts {T = declared_updated.Updated} old new tree (Err e) (updated_of new.state)
    → Acts {T = declared.Course} old new (λ units. bind (tree units) (unless_failed went)) (Err e) (course_of new.state)
update_off old new tree e a = acts_stop old new tree (unless_failed went) e (updated_of new.state) (course_of new.state) a

abbrev pub last_tree : Spot → ℕ → (List Slot → Change) → List Slot → Act Course
last_tree old n change units = last_update (machine_of old.state units) n (change units)

-- it is of the same change
pub acts_changed : (old new : Spot) (n : ℕ) (change change' : List Slot → Change) (r : Result declared.Course End) → ((units : List Slot) → holds old units → change units ≡ change' units)
    → Acts old new (last_tree old n change') r (course_of new.state) → Acts old new (last_tree old n change) r (course_of new.state)
acts_changed old new n change change' r same a =
    acts_same old new (last_tree old n change) (last_tree old n change') r (course_of new.state)
    (λ units h. ap (λ (c : Change). last_update (machine_of old.state units) n c) (same units h)) a
