use Rattle.std.proofs.Common.{◌≡◌, length}
use Rattle.exec2_parse.specs.Kinds.{kind_of}
use Rattle.exec2_run.specs.Steps.{guarded}
use Rattle.exec2_run.specs.Given.{seen}
use Rattle.exec2_run.proofs.exec.ExecState.guarded.Given as goal

abbrev pub invariant-loop-kind : goal.invariant-loop-kind
invariant-loop-kind l = record {
  same : guarded (seen l.self) l.rest ≡ guarded (seen l.self) l.words;
  kind : l.kind ≡ kind_of l.rest;
}

abbrev pub decreases-loop-kind : goal.decreases-loop-kind
decreases-loop-kind l = length l.rest
