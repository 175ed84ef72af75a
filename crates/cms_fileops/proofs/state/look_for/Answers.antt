use Rattle.std.proofs.Common.{◌∙◌, refl}
use Rattle.std.specs.Prelude.{pos}
use Rattle.cms_model.specs.Acts.{Done}
use Rattle.cms_search.specs.Calls.{course_of, machine_of, spot}
use Rattle.cms_search.specs.Machine.{Went}
use Rattle.cms_search.specs.Searches.{look_up, shelves_in}
use Rattle.cms_search.specs.declared.state.Course.TheVariants as course
use Rattle.cms_search.proofs.Acts.{acts_done, comes_none}
use Rattle.cms_files.proofs.Found.{acts_found, acts_search_fault, found_held}
use Rattle.cms_fileops.proofs.state.look_for.Goals as goal

pub returns-in-Ok : goal.returns-in-Ok
returns-in-Ok g c =
    let s = c.args.state.now in
    let old = spot g.W.World c.args.world.now s in
    let input = c.args.input.now in
    acts_found old old c.args.words.now 1 (λ m found. Done (Went m (pos 0))) (λ m. look_up (shelves_in m) input.mode input.name) c.in-Ok.field-0 _ _
    (λ units h. found_held old (λ m. look_up (shelves_in m) input.mode input.name) c.find_read.result c.find_read.ensures.machine units h ∙ c.in-Ok.is)
    (acts_done old old (λ units. Done (Went (machine_of s units) (pos 0))) (course.Went (pos 0)) (course_of s) (comes_none old (λ units. Done (Went (machine_of s units) (pos 0)))))

pub returns-in-Err : goal.returns-in-Err
returns-in-Err g c =
    let s = c.args.state.now in
    let old = spot g.W.World c.args.world.now s in
    let new = spot g.W.World c.refuse_unfound.new.world s in
    let input = c.args.input.now in
    acts_search_fault old new c.args.words.now 1 (λ m found. Done (Went m (pos 0))) (λ m. look_up (shelves_in m) input.mode input.name) c.in-Err.fault c.refuse_unfound.result
    (λ other units h. found_held old (λ m. look_up (shelves_in m) input.mode input.name) c.find_read.result c.find_read.ensures.machine units h ∙ c.in-Err.is)
    c.refuse_unfound.ensures refl
