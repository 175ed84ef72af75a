use Rattle.std.proofs.Common.{◌∙◌, List, ◌∷◌, ◌++◌, ℕ, ap}
use Rattle.std.proofs.lemmas.Result.{on_ok_weaker}
use Rattle.cms_search.specs.Texts.{right_in}
use Rattle.mini_work.proofs.listing.add_number.Goals as goal

pub returns : goal.returns
returns c =
    on_ok_weaker c.add_right.result
    (λ last. last ∙ ap (λ (x : List ℕ). c.args.line.now.items ++ 64 ∷ right_in c.args.width x) (c.bytes-2.ensures.bytes ∙ c.in_ok-decimal.ensures)) c.add_right.ensures
