use Rattle.std.proofs.Common.{◌≡◌, ◌⊎◌, ◌+◌, ◌-◌, ◌*◌, ◌≤◌, None, vec_len}
use Rattle.std.specs.Option.{ForSome}
use Rattle.cms_journal.specs.Journal.{contents_of}
use Rattle.cms_model.specs.Trees.{image_of, tree}
use Rattle.cms_tree.specs.Parts.{form_of, Grows, StaysWithin}
use Rattle.cms_tree.proofs.Rest.{Comes, whole_tiers}
use Rattle.cms_tree.proofs.read.+walk_from.Given as goal

abbrev pub decreases-walk_from : goal.decreases-walk_from
decreases-walk_from g l = l.levels

abbrev pub invariant-loop-place : goal.invariant-loop-place
invariant-loop-place g l =
    let told = g.W.World.told in
    let faults = g.W.World.faults in
    let edges = g.W.World.edges in
    let form = form_of l.layout in
    record {
      comes : ForSome (told l.fn.world) (λ j. let image = image_of (contents_of j l.layout.unit) in
          Comes form image (l.levels - 1) l.part.root l.block.items l.place l.left l.first l.fn.into l.into l.initial.below l.below
          (tree form image l.levels l.part.first l.part.holder l.part.root l.part.count) (whole_tiers form image (l.levels - 1) l.part.root l.part.count));
      grows : Grows l.layout.fan l.layout.last (l.part.count - l.left) l.initial.below l.below;
      whole : 1 ≤ l.left → l.part.count ≡ l.place * l.size + l.left;
      count : vec_len l.into.leaves + l.left ≡ vec_len l.fn.into.leaves + l.part.count;
      room : l.left ≤ (l.layout.fan - l.place) * l.size;
      within : StaysWithin l.layout.last l.part.first l.fn.into l.into;
      next : (l.first ≡ None) ⊎ (l.first ≡ l.part.first);
      told : told l.world ≡ told l.fn.world;
      later : faults l.fn.world ≤ faults l.world;
      edges : edges l.world ≡ edges l.fn.world;
    }
