use Rattle.std.proofs.Common.{◌≡◌, ◌++◌, ◌<◌, ◌+◌, ℕ, Option, Some, length, slice_get, sym, ◌∙◌, ap, subst}
use Rattle.std.proofs.lemmas.Map.Entries.{length-values_of}
use Rattle.cms_held.specs.HeldVolumes.{HeldTree, Held}
use Rattle.cms_held.specs.Puts.{count_with}
use Rattle.cms_edf.specs.FileDrafts.{GivenAt, IsPlaceIn}
use Rattle.cms_edf.proofs.draft.exchange_of.Goals as goal

pub index-requires : goal.index-requires
index-requires c =
    let place = c.in-Some.place in
    subst (λ (n : ℕ). place < n) (length-values_of c.held.inside.files.entries)
    (subst (λ (h : Held). place < length h.volume.files) (sym c.held.view_is) (subst (IsPlaceIn c.args.held.now.volume.files) c.in-Some.is c.requires.place))

pub returns-in-Some-clause-files : goal.returns-in-Some-clause-files
returns-in-Some-clause-files c = c.count.ensures.count ∙ ap (λ (o : Option ℕ). count_with o (length c.args.held.now.volume.files)) (sym c.in-Some.is)

pub returns-in-Some-clause-given : goal.returns-in-Some-clause-given
returns-in-Some-clause-given c = λ given at.
    let files = c.args.held.now.volume.files in
    let place = c.in-Some.place in
    let f = c.index.result.now in
    let there : slice_get files place ≡ Some f = subst (λ (h : Held). slice_get h.volume.files place ≡ Some f) c.held.view_is c.index.ensures in
    let leaves = c.leaves.ensures ∙ ap (λ (t : HeldTree). t.leaves) c.tree-tree.ensures in
    let pointers = c.pointers.ensures ∙ ap (λ (t : HeldTree). t.pointers) c.tree-tree.ensures in
    let blocks = subst (λ (o : Option ℕ). GivenAt files o given) c.in-Some.is at in
    (λ i. leaves i ++ pointers i) ∙ sym (blocks f there)

pub returns-in-None-clause-files : goal.returns-in-None-clause-files
returns-in-None-clause-files c =
    ap (λ (n : ℕ). n + 1) c.count-in-None.ensures.count ∙ ap (λ (o : Option ℕ). count_with o (length c.args.held.now.volume.files)) (sym c.in-None.is)

pub returns-in-None-clause-given : goal.returns-in-None-clause-given
returns-in-None-clause-given c = λ given at. sym (subst (λ (o : Option ℕ). GivenAt c.args.held.now.volume.files o given) c.in-None.is at)
