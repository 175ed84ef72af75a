use Rattle.std.proofs.Common.{drop}
use Rattle.cms_names.specs.Patterns.{fits, IsRow}
use Rattle.cms_names.proofs.pattern.fits_text.Given as goal

abbrev pub invariant-loop-place : goal.invariant-loop-place
invariant-loop-place l = IsRow (fits (drop l.place l.pattern)) l.text l.rests
