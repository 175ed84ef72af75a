use Rattle.std.proofs.Common.{◌∙◌, List, ◌∷◌, ◌++◌, ℕ, ap}
use Rattle.cms_search.specs.Texts.{left_in, spaced}
use Rattle.mini_work.specs.Listing.{more_columns}
use Rattle.mini_work.proofs.listing.long_line.Goals as goal

pub returns : goal.returns
returns c =
    c.in_ok-add_columns.ensures ∙ ap (λ (x : List ℕ). x ++ 64 ∷ spaced (more_columns c.args.info.now))
    (c.in_ok-line.ensures ∙ ap (left_in 17) (c.deref.ensures.value ∙ c.in_ok-name_text.ensures))
