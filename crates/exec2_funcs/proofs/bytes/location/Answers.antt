use Rattle.std.proofs.Common.{◌∙◌, sym, rules}
use Rattle.std.specs.Prelude.{nat_eq}
use Rattle.std.specs.List.{starts_with}
use Rattle.exec2_funcs.proofs.Places.{further_on, goes_on_here, nowhere, one_shorter}
use Rattle.exec2_funcs.proofs.bytes.location.Goals as goal

pub returns-in_default-clause-place : goal.returns-in_default-clause-place
returns-in_default-clause-place c =
    sym (nowhere (λ rest. starts_with nat_eq rest c.args.part.now) c.loop-rest.rest.now c.loop-rest.place c.in_default.len_below (search rules)) ∙ c.loop-rest.invariant.found

pub loop-rest-preserved : goal.loop-rest-preserved
loop-rest-preserved c = record {
  sum = one_shorter c.loop-rest.place _ c.loop-rest.rest.now c.loop-rest.invariant.sum c.in-len1-up.len_at_least;
  found = further_on
      (λ rest. starts_with nat_eq rest c.args.part.now) c.loop-rest.rest.now c.loop-rest.place c.in-len1-up.len_at_least (search rules) ∙ c.loop-rest.invariant.found;
}

pub returns-clause-place : goal.returns-clause-place
returns-clause-place c =
    sym (goes_on_here (λ rest. starts_with nat_eq rest c.args.part.now) c.loop-rest.rest.now c.loop-rest.place (search rules)) ∙ c.loop-rest.invariant.found
