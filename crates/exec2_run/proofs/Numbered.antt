-- The arguments, one after another.
use Rattle.std.proofs.Common.{◌≡◌, ◌∙◌, ◌+◌, ◌<◌, ◌≤◌, ℕ, List, length, drop, get_or, refl, ap}
use Rattle.std.specs.FinMap.{insert}
use Rattle.std.proofs.lemmas.List.{drop_all, drop_more}
use Rattle.cms_text.specs.Numbers.{decimal_of}
use Rattle.cms_text.specs.Texts.{Text}
use Rattle.exec2_parse.specs.Variables.{Vars}
use Rattle.exec2_run.specs.Variables.{numbered}

pub numbered_next : (values : List Text) (k n : ℕ) (value : Text) (table new : Vars) → k < length values → value ≡ get_or values k value → new ≡ insert table (decimal_of n) value
    → numbered (n + 1) (drop (k + 1) values) new ≡ numbered n (drop k values) table
unfolding numbered
numbered_next values k n value table new less is more =
    rw (drop_more values k value less) (ap (numbered (n + 1) (drop (k + 1) values)) (more ∙ ap (insert table (decimal_of n)) is))

pub numbered_all : (values : List Text) (k n : ℕ) (table : Vars) → length values ≤ k → numbered n (drop k values) table ≡ table
unfolding numbered
numbered_all values k n table over = rw (drop_all k values over) refl
