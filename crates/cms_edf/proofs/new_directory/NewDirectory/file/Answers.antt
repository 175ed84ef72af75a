use Rattle.std.proofs.Common.{◌∙◌, ◌/◌, ◌≤◌, ℕ, length, sym, ap, subst, arith}
use Rattle.cms_model.specs.SharedTrees.{MayBeWritten}
use Rattle.cms_model.specs.Sizes.{levels}
use Rattle.cms_tree.specs.Builds.{root_of}
use Rattle.cms_edf.specs.NewDirectories.{NewDirectory}
use Rattle.cms_edf.proofs.NewLeaves.{leaves_long, long_is, root_is}
use Rattle.cms_edf.proofs.Rounded.{four_to_a_pointer}
use Rattle.cms_edf.proofs.new_directory.NewDirectory.file.Goals as goal

pub shape-requires-clause-some : goal.shape-requires-clause-some
shape-requires-clause-some c = subst (λ (n : ℕ). 1 ≤ n) (sym (sym (long_is c.self.inside.old.value.items c.self.inside.count c.self.inside.part c.self.inside.numbers.items c.self.inside.pointers.items c.args.self.now c.self.view_is))) c.requires.some

pub returns : goal.returns
returns c =
    let i = c.self.inside in
    let d = c.args.self.now in
    let fan = c.args.bsize / 4 in
    let size = c.bytes.ensures.value in
    let four = c.from.ensures in
    let count = sym (long_is c.self.inside.old.value.items c.self.inside.count c.self.inside.part c.self.inside.numbers.items c.self.inside.pointers.items c.args.self.now c.self.view_is) in
    let pointers = c.deref.ensures.value ∙ ap (λ (x : NewDirectory). x.tree.pointers) c.self.view_is in
    let may = subst (λ (x : NewDirectory). MayBeWritten (length i.old.value.items) (length x.tree.leaves) x.part.leaves) c.self.view_is
    (subst (λ (n : ℕ). MayBeWritten (length i.old.value.items) n i.part.leaves) (sym (leaves_long i.old.value.items i.count i.part.leaves i.numbers.items)) c.self.invariant.may) in
    let root = root_is fan (length i.old.value.items) d.tree.leaves d.part.leaves d.tree.pointers c.written.result.now (four_to_a_pointer c.args.bsize (omega (arith, size, c.bytes.ensures.least))) c.requires.few c.requires.some
    may c.requires.first c.requires.nodes c.written.ensures in
    (λ k. record {
      root = (c.root.ensures ∙ (ap (root_of c.written.result.now) pointers ∙ root)) k;
      blocks = count k;
      count = c.args.count;
      levels = (c.shape.ensures.levels ∙ ((λ j. levels (size j / four j) (count j)))) k;
    })
