use Rattle.std.proofs.Common.{◌≡◌, ◌∙◌, length, map, take, get_or, ap, rules}
use Rattle.cms_edf.specs.NewDirectories.{NewDirectory}
use Rattle.cms_edf.proofs.NewLeaves.{numbers_are}
use Rattle.cms_edf.proofs.new_directory.NewDirectory.written.Goals as goal

pub returns : goal.returns
returns c =
    let i = c.self.inside in
    let long : c.len.result ≡ length i.part.leaves = search rules in
    let all = c.deref.ensures.value in
    c.split_at.ensures.front
    ∙ ((λ k. take (long k) (all k))
    ∙ (numbers_are i.old.value.items i.count i.part.leaves i.numbers.items c.self.invariant.may c.self.invariant.enough ∙ ap (λ (d : NewDirectory). map (λ j. get_or d.tree.leaves j 0) d.part.leaves) c.self.view_is))
