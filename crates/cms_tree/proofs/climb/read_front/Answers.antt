use Rattle.std.proofs.Common.{◌-◌, ◌*◌, ◌++◌, ℕ, length, take, sym, ◌∙◌, ap, subst, ◌+◌, ◌≤◌}
use Rattle.std.specs.Prelude.{replicate}
use Rattle.cms_model.proofs.Images.{block_in_image}
use Rattle.cms_tree.proofs.WalkSteps.{front_in}
use Rattle.cms_tree.proofs.Exits.{ok_at_err}
use Rattle.cms_tree.proofs.climb.read_front.Goals as goal

-- what the read left in the slice is the source
pub returns-clause-reads : goal.returns-clause-reads
returns-clause-reads g c =
    let a = c.args in
    let source = c.read_block.new.into in
    record {
      source = source;
      read = λ j told. c.in_ok-read_block.ensures.bytes j told ∙ sym (block_in_image j a.unit a.block (length a.bytes.now) (c.requires.blocks j told));
      len = sym c.clear_behind.auto.bytes;
      front = c.clear_behind.ensures ∙ ap (λ (n : ℕ). take (a.at * n) source ++ replicate (length source - a.at * n) 0) c.from.ensures
          ∙ ap (λ (n : ℕ). take (a.at * a.psize) source ++ replicate (n - a.at * a.psize) 0) (sym c.clear_behind.auto.bytes);
      place_is = c.place_in-place.ensures;
    }

pub read_block-requires : goal.read_block-requires
read_block-requires g c = c.requires.blocks

pub returns-in_err-read_block-clause-reads : goal.returns-in_err-read_block-clause-reads
returns-in_err-read_block-clause-reads g c = ok_at_err _ c.from_residual.result _ c.from_residual.ensures.1

pub returns-in_err-read_block-clause-told : goal.returns-in_err-read_block-clause-told
returns-in_err-read_block-clause-told g c = c.read_block.ensures.told

pub returns-clause-told : goal.returns-clause-told
returns-clause-told g c = c.read_block.ensures.told

pub place_in-place-requires : goal.place_in-place-requires
place_in-place-requires g c = subst (λ (n : ℕ). c.args.at * c.args.psize + c.args.psize ≤ n) (sym c.read_block.auto.into) c.requires.room

pub clear_behind-requires : goal.clear_behind-requires
clear_behind-requires g c =
    front_in c.args.at c.args.psize c.from.result _ c.from.ensures (subst (λ (n : ℕ). c.args.at * c.args.psize + c.args.psize ≤ n) (sym c.read_block.auto.into) c.requires.room)
