-- A want that is refused: its message is typed, and the extension is told the code.
use Rattle.std.proofs.Common.{◌≡◌, ℤ, List, Result, Ok, Err}
use Rattle.std.specs.Prelude.{IfOk}
use Rattle.cms_model.specs.Acts.{Act, saying, typed_line}
use Rattle.cms_model.specs.Objects.{Object}
use Rattle.cms_model.specs.Slots.{Slot}
use Rattle.cms_line.specs.Messages.{message_text}
use Rattle.cms_line.specs.declared.message.Message.{Message}
use Rattle.cms_search.specs.Calls.{Acts, Does, Spot, course_of, refusal_tree, said}
use Rattle.cms_search.specs.Machine.{Course}
use Rattle.cms_search.specs.declared.state.Course as declared
use Rattle.cms_search.specs.declared.state.Course.TheVariants as course
use Rattle.cms_search.specs.declared.state.End.{End}
use Rattle.cms_search.specs.declared.state.State.{State}
use Rattle.cms_search.proofs.Acts.{acts_done, acts_stop, comes_in, refused}
use Rattle.cms_ext.specs.Calls.{met_of, met_with}
use Rattle.cms_ext.specs.Extensions.{refusing, told_code}
use Rattle.cms_ext.specs.declared.extension.ExtReply.TheVariants as told
use Rattle.cms_ext.specs.declared.wants.Met as declared_met
use Rattle.cms_ext.specs.declared.wants.Met.TheVariants as met

-- it was refused as a tree says
pub refuses : (old new : Spot) (objects : List Object) (tree : List Slot → Act Course) (r : Result declared.Course End) (s : State)
    → Acts old new tree r (course_of s) → Acts old new (λ units. refusing objects (tree units)) (met_with r) (met_of s objects)
refuses old new objects tree (Ok (course.Went code)) s a =
    acts_done old new (λ units. refusing objects (tree units)) (met.Told (told.Refused code)) (met_of s objects)
    (comes_in old new tree (told_code objects) (course.Went code) (course_of s) a)
refuses old new objects tree (Ok course.OutOfTurns) s a =
    acts_done old new (λ units. refusing objects (tree units)) met.NoTurns (met_of s objects)
    (comes_in old new tree (told_code objects) course.OutOfTurns (course_of s) a)
refuses old new objects tree (Err e) s a = acts_stop old new tree (told_code objects) e (course_of s) (met_of s objects) a

-- with a message
pub refused_so : (old new : Spot) (objects : List Object) (message : Message) (code : ℤ) (r : Result declared.Course End)
    (x : Result declared_met.Met End) → Does old.world new.world (saying (typed_line (message_text message))) r said
    → IfOk r (λ c. c ≡ course.Went code) → new.state ≡ old.state → x ≡ met_with r
    → Acts old new (λ units. refusing objects (refusal_tree old.state message code units)) x (met_of new.state objects)
refused_so old new objects message code r x does went same is =
    rw is (refuses old new objects (refusal_tree old.state message code) r new.state (refused old new message code r does went same))
