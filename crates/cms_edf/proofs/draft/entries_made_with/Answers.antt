use Rattle.std.proofs.Common.{◌<◌, length, subst, arith}
use Rattle.cms_edf.specs.FileDrafts.{IsPlaceIn}
use Rattle.cms_edf.proofs.draft.entries_made_with.Goals as goal

-- the place is that of a file, of which there are few
pub overflow_add-result : goal.overflow_add-result
overflow_add-result c =
    let there : c.in-Some.place < length c.args.held.now.volume.files = subst (IsPlaceIn c.args.held.now.volume.files) c.in-Some.is c.requires.place in
    omega (arith, c.count-last.ensures.kept.few)
