use Rattle.std.proofs.Common.{◌≡◌, length, take}
use Rattle.cms_text.specs.Texts.{coded}
use Rattle.cms_text.proofs.words.coded.Given as goal

abbrev pub invariant-loop-place : goal.invariant-loop-place
invariant-loop-place g l = record { long : length l.codes ≡ g.row.N; done : take l.place l.codes ≡ coded (take l.place l.text) }
