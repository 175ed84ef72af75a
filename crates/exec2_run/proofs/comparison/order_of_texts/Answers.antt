use Rattle.std.specs.Ordering.{nat_cmp}
use Rattle.std.proofs.Common.{◌≡◌, ℕ, refl}
use Rattle.std.proofs.lemmas.Iterator.{YieldsList-from_slice}
use Rattle.std.proofs.lemmas.Iterator.Adapters.{YieldsList-from_repeat_n}
use Rattle.std.proofs.lemmas.Iterator.Consumers.{YieldsList-from_chain, YieldsList-from_copied}
use Rattle.std.proofs.lemmas.Iterator.Search.{cmp_from_yields_List}
use Rattle.exec2_run.proofs.comparison.order_of_texts.Goals as goal

pub returns : goal.returns
returns c =
    cmp_from_yields_List (λ x y. y ≡ x) _ nat_cmp _ c.cmp.ensures.ran
    (YieldsList-from_chain (YieldsList-from_copied (YieldsList-from_slice c.args.left.now cc)) (YieldsList-from_repeat_n (λ (x y : ℕ). y ≡ x) _ _ (cc) (cc) (λ y e. e)) (cc) (cc))
    (λ it e. YieldsList-from_chain (YieldsList-from_copied (YieldsList-from_slice c.args.right.now cc)) (YieldsList-from_repeat_n (λ (x y : ℕ). y ≡ x) _ _ (cc) (cc) (λ y e. e)) (cc) (cc))
    (λ x y. refl)
