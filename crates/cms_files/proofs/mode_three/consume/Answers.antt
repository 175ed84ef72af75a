use Rattle.std.proofs.Common.{refl, sym}
use Rattle.cms_model.specs.Acts.{Done}
use Rattle.cms_search.specs.Calls.{machine_of, spot}
use Rattle.cms_search.proofs.Acts.{acts_done, comes_same}
use Rattle.cms_search.proofs.LetterDisks.{holds_shows}
use Rattle.cms_files.specs.ModeThree.{consuming_tree}
use Rattle.cms_files.specs.Updates.{updated_of}
use Rattle.cms_files.specs.declared.update.Updated.TheVariants as came
use Rattle.cms_files.proofs.Consumed.{consumed_none}
use Rattle.cms_files.proofs.mode_three.consume.Goals as goal

-- it isn't there
pub returns-in-None-clause-acts : goal.returns-in-None-clause-acts
returns-in-None-clause-acts g c =
    let st = c.args.state.now in
    let n = c.args.letter in
    let name = c.args.name.now in
    let old = spot g.W.World c.args.world.now st in
    acts_done old old (consuming_tree st n name) came.Done (updated_of st)
    (comes_same old (consuming_tree st n name) (λ units. Done (updated_of st units came.Done))
    (λ units h. (let e = consumed_none st.table n name (machine_of st units) (sym c.in-None.ensures.told) (holds_shows old units h) in rw e refl)))
