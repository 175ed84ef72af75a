use Rattle.std.proofs.Common.{◌≡◌, ◌++◌, take}
use Rattle.cms_search.proofs.place_key.append.Given as goal

abbrev pub invariant-loop-character : goal.invariant-loop-character
invariant-loop-character l = l.codes.items ≡ l.initial.codes.items ++ take l.character-index l.text
