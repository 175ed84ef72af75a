use Rattle.std.proofs.Common.{◌∙◌, ◌<◌, ◌≤◌, ⊎_elim, ℕ, List, length, get_or, sym, ap, subst}
use Rattle.std.specs.Prelude.{Err}
use Rattle.std.specs.List.Sorted.{IsBinarySearchResult}
use Rattle.std.specs.Ordering.{nat_cmp}
use Rattle.std.proofs.lemmas.Bool.{cases_lt}
use Rattle.cms_model.specs.Lists.{In}
use Rattle.cms_edf.specs.NewDirectories.{NewDirectory}
use Rattle.cms_edf.proofs.NewLeaves.{leaf_found, not_there}
use Rattle.cms_edf.proofs.new_directory.NewDirectory.leaf.Goals as goal
use Rattle.cms_edf.proofs.new_directory.NewDirectory.leaf.Goals.{In-Err}

-- the place isn't one of those that are written
missing : (c : In-Err) → In c.args.place c.args.self.now.part.leaves → ⊥
missing c there =
    let places = c.deref.ensures.value ∙ ((λ k. (c.self-inside.view_is k).part.leaves) ∙ ap (λ (d : NewDirectory). d.part.leaves) c.self.view_is) in
    not_there c.args.self.now.part.leaves c.args.place c.in-Err.field-0 c.requires.goes.may.ascend
    (subst (λ (l : List ℕ). IsBinarySearchResult (λ y. nat_cmp y c.args.place) l (Err c.in-Err.field-0)) places c.in-Err.ensures.position) there

pub bounds-held-place : goal.bounds-held-place
bounds-held-place c =
    let goes = c.requires.goes in
    ⊎_elim (λ (less : c.args.place < length c.args.held.now). less)
    (λ (past : length c.args.held.now ≤ c.args.place). absurd (missing (goal.at.bounds-held-place c).In-Err (goes.may.grown c.args.place past c.requires.within)))
    (cases_lt c.args.place (length c.args.held.now))

pub returns-in-Err : goal.returns-in-Err
returns-in-Err c = sym (c.requires.goes.same c.args.place c.requires.within (missing (goal.at.returns-in-Err c).In-Err))

pub returns-in-Ok : goal.returns-in-Ok
returns-in-Ok c =
    let i = c.self.inside in
    let places = c.deref.ensures.value ∙ (λ k. (c.self-inside.view_is k).part.leaves) in
    leaf_found i.old.value.items i.count i.part.leaves i.numbers.items c.deref.result.now c.args.place c.in-Ok.at c.index.result.now c.self.invariant.may c.self.invariant.enough places
    c.in-Ok.ensures.position (c.index.ensures ∙ (λ k. get_or (c.self-inside.view_is k).numbers.items c.in-Ok.at c.index.result.now))
    ∙ ap (λ (d : NewDirectory). get_or d.tree.leaves c.args.place 0) c.self.view_is
