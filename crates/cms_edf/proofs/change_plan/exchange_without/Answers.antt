use Rattle.std.proofs.Common.{◌≡◌, ◌++◌, ◌<◌, ◌-◌, ℕ, Some, length, slice_get, sym, ◌∙◌, ap, subst}
use Rattle.std.proofs.lemmas.Map.Entries.{length-values_of}
use Rattle.std.proofs.lemmas.Option.{same_Some}
use Rattle.cms_held.specs.HeldVolumes.{HeldFile, HeldTree, Held}
use Rattle.cms_held.specs.Renewals.{blocks_in}
use Rattle.cms_edf.proofs.change_plan.exchange_without.Goals as goal

pub index-requires : goal.index-requires
index-requires c =
    subst (λ (n : ℕ). c.args.place < n) (length-values_of c.held.inside.files.entries)
    (subst (λ (h : Held). c.args.place < length h.volume.files) (sym c.held.view_is) c.requires)

pub returns-clause-files : goal.returns-clause-files
returns-clause-files c = ap (λ (n : ℕ). n - 1) c.count.ensures.count

pub returns-clause-given : goal.returns-clause-given
returns-clause-given c = λ f is.
    let own = c.index.result.now in
    let there : slice_get c.args.held.now.volume.files c.args.place ≡ Some own = subst (λ (h : Held). slice_get h.volume.files c.args.place ≡ Some own) c.held.view_is c.index.ensures in
    let leaves = c.leaves.ensures ∙ ap (λ (t : HeldTree). t.leaves) c.tree-tree.ensures in
    let pointers = c.pointers.ensures ∙ ap (λ (t : HeldTree). t.pointers) c.tree-tree.ensures in
    (λ i. leaves i ++ pointers i) ∙ ap (λ (x : HeldFile). blocks_in x.tree) (same_Some own f (sym there ∙ is))
