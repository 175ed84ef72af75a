use Rattle.std.proofs.Common.{◌≡◌, ◌∙◌, true, false, rules, refl, sym}
use Rattle.cms_model.specs.Changes.{Drop}
use Rattle.cms_model.specs.Acts.{Done}
use Rattle.cms_search.specs.Calls.{machine_of, spot}
use Rattle.cms_search.proofs.Acts.{acts_done, acts_same, comes_same}
use Rattle.cms_search.proofs.LetterDisks.{holds_shows}
use Rattle.cms_files.specs.ModeThree.{consuming_tree}
use Rattle.cms_files.specs.Updates.{updated_of, updating_tree}
use Rattle.cms_files.specs.declared.update.Updated.TheVariants as came
use Rattle.cms_files.proofs.Consumed.{named_there}
use Rattle.cms_files.proofs.mode_three.consume_told.Goals as goal

-- it stays
pub returns-then-not-is_consumed-clause-acts : goal.returns-then-not-is_consumed-clause-acts
returns-then-not-is_consumed-clause-acts g c =
    let st = c.args.state.now in
    let n = c.args.letter in
    let name = c.args.name.now in
    let old = spot g.W.World c.args.world.now st in
    let no : c.is_consumed.result ≡ false = search rules in
    acts_done old old (consuming_tree st n name) came.Done (updated_of st)
    (comes_same old (consuming_tree st n name) (λ units. Done (updated_of st units came.Done))
    (λ units h. (let e = sym (c.is_consumed.ensures.machine name (machine_of st units) c.requires.told (holds_shows old units h)) ∙ no in rw e refl)))

-- or it goes
pub returns-clause-acts : goal.returns-clause-acts
returns-clause-acts g c =
    let st = c.args.state.now in
    let n = c.args.letter in
    let name = c.args.name.now in
    let old = spot g.W.World c.args.world.now st in
    let new = spot g.W.World c.update_disk.new.world c.update_disk.new.state in
    let yes : c.is_consumed.result ≡ true = search rules in
    acts_same old new (consuming_tree st n name) (updating_tree st n (Drop name)) c.update_disk.result (updated_of c.update_disk.new.state)
    (λ units h. (let e = sym (c.is_consumed.ensures.machine name (machine_of st units) c.requires.told (holds_shows old units h)) ∙ yes in rw e refl)) c.update_disk.ensures.acts

pub update_disk-requires-clause-there : goal.update_disk-requires-clause-there
update_disk-requires-clause-there g c = λ s at. named_there c.args.state.now.table c.args.letter c.args.name.now c.args.info.now (sym c.requires.told) s at
