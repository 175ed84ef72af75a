use Rattle.std.proofs.Common.{◌++◌, ◌∷◌, [], ℕ, List, ◌∙◌, ap}
use Rattle.cms_tree.specs.declared.read.Tier.{Tier}
use Rattle.cms_tree.specs.Parts.{blocks_in}
use Rattle.cms_tree.proofs.Rest.{blocks_push, replicate_push}
use Rattle.cms_tree.proofs.Exits.{ok_at_err}
use Rattle.cms_tree.proofs.read.empty_tiers.Goals as goal

pub loop-init : goal.loop-init
loop-init c = ap (λ (ts : List Tier). blocks_in ts) c.in_ok-tiers.ensures.items

pub loop-preserved : goal.loop-preserved
loop-preserved c =
    let tier : Tier = record { blocks = c.new.result } in
    ap (λ (ts : List Tier). blocks_in ts) c.in_ok-push.ensures.items ∙ blocks_push c.loop.tiers.items tier
    ∙ ap (λ (l : List ℕ). blocks_in c.loop.tiers.items ++ l ∷ []) c.new.ensures.items
    ∙ ap (λ (ls : List (List ℕ)). ls ++ [] ∷ []) c.loop.invariant ∙ replicate_push c.loop.counter

pub returns-in_err-tiers : goal.returns-in_err-tiers
returns-in_err-tiers c = ok_at_err _ c.from_residual.result _ c.from_residual.ensures.1

pub returns-in_err-push : goal.returns-in_err-push
returns-in_err-push c = ok_at_err _ c.from_residual-in_err-push.result _ c.from_residual-in_err-push.ensures.1
