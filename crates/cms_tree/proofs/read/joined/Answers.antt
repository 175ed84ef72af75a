use Rattle.std.proofs.Common.{◌++◌, ℕ, List, sym, ◌∙◌, ap, arith}
use Rattle.std.specs.List.{concat}
use Rattle.std.proofs.lemmas.List.{take_all}
use Rattle.cms_tree.specs.declared.read.Tier.{Tier}
use Rattle.cms_tree.specs.Parts.{blocks_in}
use Rattle.cms_tree.proofs.Rest.{concat_next}
use Rattle.cms_tree.proofs.read.joined.Goals as goal

pub loop-tier-preserved : goal.loop-tier-preserved
loop-tier-preserved c =
    let i = c.loop-tier.tier-index in
    c.in_ok-extend_from_slice.ensures.items ∙ ap (λ (l : List ℕ). c.loop-tier.pointers.items ++ l) c.deref.ensures.value
    ∙ ap (λ (l : List ℕ). l ++ c.tier-item.result.blocks.items) c.loop-tier.invariant ∙ sym (concat_next c.args.tiers.now i c.tier-item.result (omega arith) c.tier-item.is)

pub returns : goal.returns
returns c = c.loop-tier.invariant ∙ ap (λ (ts : List Tier). concat (blocks_in ts)) (take_all c.loop-tier.tier-index c.args.tiers.now (omega arith))
