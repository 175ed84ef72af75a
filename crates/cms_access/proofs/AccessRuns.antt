-- ACCESS's tree, as the table says what was done.
use Rattle.std.proofs.Common.{ℕ, Option, Result, Ok, Err}
use Rattle.cms_model.specs.Acts.{Act, bind}
use Rattle.cms_search.specs.Access.{accessing_tree}
use Rattle.cms_search.specs.Calls.{Acts, Spot, beside, course_of, itself, machine_of}
use Rattle.cms_search.specs.Machine.{Course, Machine}
use Rattle.cms_search.specs.declared.access.AccessEnd.{AccessEnd}
use Rattle.cms_search.specs.declared.state.Course as declared
use Rattle.cms_search.specs.declared.state.End.{End}
use Rattle.cms_search.proofs.Acts.{acts_after, acts_stop, comes_in}
use Rattle.cms_access.specs.Access.{answered}

abbrev pub telling : ℕ → ℕ → Machine × AccessEnd → Act Course
telling vdev n x = answered x.0 vdev n x.1

-- the access is done, and then it is told of
pub access_told : (old mid new : Spot) (vdev n : ℕ) (ext : Option ℕ) (e : AccessEnd) (r : Result declared.Course End)
    → Acts old mid (accessing_tree old.state vdev n ext) (Ok e) (beside mid.state itself) → Acts mid new (λ units. answered (machine_of mid.state units) vdev n e) r (course_of new.state)
    → Acts old new (λ units. bind (accessing_tree old.state vdev n ext units) (telling vdev n)) r (course_of new.state)
access_told old mid new vdev n ext e r a b =
    acts_after old mid new (λ units. bind (accessing_tree old.state vdev n ext units) (telling vdev n)) (λ units. answered (machine_of mid.state units) vdev n e) r (course_of new.state)
    (comes_in old mid (accessing_tree old.state vdev n ext) (telling vdev n) e (beside mid.state itself) a) b

-- or cut off in that
pub access_cut : (old mid : Spot) (vdev n : ℕ) (ext : Option ℕ) (e : End) → Acts {T = AccessEnd} old mid (accessing_tree old.state vdev n ext) (Err e) (beside mid.state itself)
    → Acts {T = declared.Course} old mid (λ units. bind (accessing_tree old.state vdev n ext units) (telling vdev n)) (Err e) (course_of mid.state)
access_cut old mid vdev n ext e a = acts_stop {T = AccessEnd} old mid (accessing_tree old.state vdev n ext) (telling vdev n) e (beside mid.state itself) (course_of mid.state) a
