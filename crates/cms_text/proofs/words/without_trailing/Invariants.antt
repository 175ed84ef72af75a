use Rattle.std.proofs.Common.{◌≡◌, length}
use Rattle.cms_text.specs.Texts as texts
use Rattle.cms_text.proofs.words.without_trailing.Given as goal

abbrev pub invariant-loop-kept : goal.invariant-loop-kept
invariant-loop-kept l = texts.without_trailing l.last l.kept ≡ texts.without_trailing l.last l.text

abbrev pub decreases-loop-kept : goal.decreases-loop-kept
decreases-loop-kept l = length l.kept
