use Rattle.std.proofs.Common.{ℕ, ◌∙◌, ap}
use Rattle.cms_fields.specs.Numbers.{up}
use Rattle.cms_tree.proofs.Sums.{ceil_fits, div_ceil_is}
use Rattle.cms_tree.proofs.shared_level.SharedLevel.blocks.Goals as goal

pub div_ceil-requires : goal.div_ceil-requires
div_ceil-requires c = c.requires

pub overflow_cast-result : goal.overflow_cast-result
overflow_cast-result c =
    let size = c.args.self.now.size in
    ceil_fits c.div_ceil.result c.args.leaves size (c.div_ceil.ensures ∙ div_ceil_is c.from.result size c.requires ∙ ap (λ (n : ℕ). up n size) c.from.ensures) c.requires c.ranges.leaves.fits

pub returns : goal.returns
returns c =
    let size = c.args.self.now.size in
    c.div_ceil.ensures ∙ div_ceil_is c.from.result size c.requires ∙ ap (λ (n : ℕ). up n size) c.from.ensures
