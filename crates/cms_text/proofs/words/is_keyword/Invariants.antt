use Rattle.std.proofs.Common.{◌≡◌, drop}
use Rattle.cms_text.specs.Texts as texts
use Rattle.cms_text.proofs.words.is_keyword.Given as goal

abbrev pub invariant-loop-letter : goal.invariant-loop-letter
invariant-loop-letter l = texts.is_keyword (drop l.letter-index l.name) l.left ≡ texts.is_keyword l.name l.word
