use Rattle.std.proofs.Common.{ap, refl}
use Rattle.cms_search.specs.declared.state.State.{State}
use Rattle.cms_listfile.proofs.Delivered.{listing_typed}
use Rattle.cms_listfile.proofs.command.deliver.Goals as goal

pub returns-in-Typed-clause-acts : goal.returns-in-Typed-clause-acts
returns-in-Typed-clause-acts g c =
    let is = c.in-Typed.is in
    rw is (listing_typed _ _ c.args.style.now c.args.found.now c.type_listing.result c.type_listing.ensures.does c.type_listing.ensures.went refl)

-- by where the lines go
pub returns-in-Typed-clause-stack : goal.returns-in-Typed-clause-stack
returns-in-Typed-clause-stack g c = let is = c.in-Typed.is in rw is refl

pub returns-in-Stacked-clause-stack : goal.returns-in-Stacked-clause-stack
returns-in-Stacked-clause-stack g c = let is = c.in-Stacked.is in rw is c.stack_listing.ensures.stack

pub returns-in-Written-clause-stack : goal.returns-in-Written-clause-stack
returns-in-Written-clause-stack g c = let is = c.in-Written.is in rw is (ap (λ (s : State). s.stack) c.write_listing.ensures.kept)
