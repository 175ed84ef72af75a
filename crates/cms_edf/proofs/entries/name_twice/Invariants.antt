use Rattle.std.proofs.Common.{drop}
use Rattle.cms_edf.proofs.NamesMet.{Names}
use Rattle.cms_edf.proofs.entries.name_twice.Given as goal

abbrev pub invariant-loop-place : goal.invariant-loop-place
invariant-loop-place l = record { names : Names l.names.keys l.place (drop l.place l.entries) l.entries }
