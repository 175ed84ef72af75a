-- The open loops.
use Rattle.std.specs.Prelude.{◌-◌, List, [], ◌∷◌}
use Rattle.exec2_run.specs.declared.loops.Loop.{Loop}
use Rattle.exec2_run.specs.declared.loops.Passes.{Passes}
use Rattle.exec2_run.specs.declared.loops.Passes.TheVariants.{Left, Forever, While, Until}

-- what is left of the passes once one more begins
abbrev pub one_less : Passes → Passes
one_less (Left n) = Left (n - 1)
one_less Forever = Forever
one_less (While test) = While test
one_less (Until test) = Until test

-- the loops once another pass of the innermost begins
abbrev pub with_pass : List Loop → List Loop
with_pass [] = []
with_pass (loop ∷ loops) = record loop { passes = one_less loop.passes } ∷ loops
