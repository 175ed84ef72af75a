use Rattle.std.proofs.Common.{refl}
use Rattle.cms_search.specs.DeviceSteps.{changing_of}
use Rattle.cms_search.proofs.StateCalls.{acts_stayed}
use Rattle.cms_files.specs.Updates.{updated, updated_of}
use Rattle.cms_files.specs.declared.update.Updated.TheVariants as came
use Rattle.cms_files.proofs.Updates.{ends_told}
use Rattle.cms_files.proofs.write.end_writing.Goals as goal

pub returns-in-Done-clause-acts : goal.returns-in-Done-clause-acts
returns-in-Done-clause-acts g c = λ change names.
    let is = c.in-Done.is in
    let places = c.after.ensures in
    acts_stayed _ _ (λ units. updated c.args.letter c.args.vdev change (changing_of c.args.state.now units c.args.changed)) came.Done
    (updated_of (record c.args.state.now { places = c.after.new.self })) refl refl (λ units h. (h, rw (is, names, places) refl)) (λ usable. usable)

pub returns-in_default-clause-acts : goal.returns-in_default-clause-acts
returns-in_default-clause-acts g c = λ change names.
    ends_told _ _ c.args.letter c.args.vdev change c.args.changed c.tell_change.result c.stopped.result c.in_default.not-Done c.tell_change.ensures c.stopped.ensures
