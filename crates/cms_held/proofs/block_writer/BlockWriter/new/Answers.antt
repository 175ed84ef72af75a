use Rattle.std.proofs.Common.{◌≡◌, ℕ, length, List, refl, ◌∙◌, ap, subst}
use Rattle.std.specs.Prelude.{replicate}
use Rattle.cms_tree.specs.Climbs.{IsNew}
use Rattle.cms_held.proofs.BlockWritten.{made_new}
use Rattle.cms_held.proofs.block_writer.BlockWriter.new.Goals as goal

pub returns : goal.returns
returns c =
    let a = c.args in
    let zeros : c.in_ok-vec.field-0.items ≡ replicate a.bsize 0 = c.in_ok-vec.ensures.items_if_clones_equal (λ y is. is) ∙ ap (λ (n : ℕ). replicate n 0) c.bytes.ensures.value in
    let count : length c.leaves.result.now ≡ length a.tree.leaves = ap (λ (l : List ℕ). length l) c.leaves.ensures in
    made_new a.unit a.bsize a.psize a.size a.tree _ c.bytes.ensures.size c.requires.psize c.requires.few c.requires.leaves c.requires.pointers (record {
      start = record {
        unit_is = refl;
        bsize_is = refl;
        psize_is = refl;
        size_is = refl;
        tree_is = c.tree.view_is;
        kept = refl;
        whole = refl;
        filled = refl;
        mark = refl;
      };
      block = zeros;
      climb = subst (λ (n : ℕ). IsNew a.bsize a.psize n c.in_ok-climb.climb) count c.in_ok-climb.ensures;
    })
