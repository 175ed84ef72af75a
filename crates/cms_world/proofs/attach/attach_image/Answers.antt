use Rattle.std.proofs.Common.{◌≡◌, ◌∙◌, ℕ, List, length, All, Option, None, Some, IfSome, Vec, Global, option_map, refl, sym, ap, subst}
use Rattle.cms_journal.specs.Journal.{IsFresh, IsMade, NoneIsNamed}
use Rattle.cms_journal.specs.declared.event.Access.{Access}
use Rattle.cms_journal.specs.declared.event.Access.TheVariants.{ReadOnly, ReadWrite, New}
use Rattle.cms_journal.specs.declared.event.Attached.{Attached}
use Rattle.cms_world.specs.Images.{starting}
use Rattle.cms_world.proofs.Exits.{ok_at_err, holds_at_err}
use Rattle.cms_world.proofs.attach.attach_image.Goals as goal

-- a unit that is made has a name that no other has
fresh_so : (standing : Option (Vec ℕ Global)) (access : Access) (bsize : ℕ) (start : List (List ℕ)) (units : List Attached) (name : List ℕ)
    → Some start ≡ starting (option_map (λ (v : Vec ℕ Global). v.items) standing) access bsize → (standing ≡ None → NoneIsNamed units name) → IsFresh access units name
fresh_so standing ReadOnly bsize start units name is fresh = tt
fresh_so standing ReadWrite bsize start units name is fresh = tt
fresh_so (Some bytes) (New n) bsize start units name is fresh = absurd (cc)
fresh_so None (New n) bsize start units name is fresh = fresh refl

pub returns-in_err-starting_blocks-clause-start : goal.returns-in_err-starting_blocks-clause-start
returns-in_err-starting_blocks-clause-start c = ok_at_err _ c.from_residual.result _ c.from_residual.ensures.1

pub returns-in_err-starting_blocks-clause-attached : goal.returns-in_err-starting_blocks-clause-attached
returns-in_err-starting_blocks-clause-attached c = ok_at_err _ c.from_residual.result _ c.from_residual.ensures.1

pub returns-in_err-starting_blocks-clause-held : goal.returns-in_err-starting_blocks-clause-held
returns-in_err-starting_blocks-clause-held c = ok_at_err _ c.from_residual.result _ c.from_residual.ensures.1

pub returns-in_err-starting_blocks-clause-writable : goal.returns-in_err-starting_blocks-clause-writable
returns-in_err-starting_blocks-clause-writable c = ok_at_err _ c.from_residual.result _ c.from_residual.ensures.1

pub returns-in_err-starting_blocks-clause-none : goal.returns-in_err-starting_blocks-clause-none
returns-in_err-starting_blocks-clause-none c = ok_at_err _ c.from_residual.result _ c.from_residual.ensures.1

pub returns-in_err-starting_blocks-clause-err : goal.returns-in_err-starting_blocks-clause-err
returns-in_err-starting_blocks-clause-err c = holds_at_err c.from_residual.result refl

pub attach_blocks-requires-clause-room : goal.attach_blocks-requires-clause-room
attach_blocks-requires-clause-room c = c.requires.room

pub attach_blocks-requires-clause-sizes : goal.attach_blocks-requires-clause-sizes
attach_blocks-requires-clause-sizes c = subst (λ (o : Option (List (List ℕ))). IfSome o (All (λ block. length block ≡ c.args.bsize))) c.in-Some.is c.in_ok-starting_blocks.ensures.sizes

pub attach_blocks-requires-clause-made : goal.attach_blocks-requires-clause-made
attach_blocks-requires-clause-made c = subst (λ (o : Option (List (List ℕ))). IfSome o (IsMade c.args.access c.args.bsize)) c.in-Some.is c.in_ok-starting_blocks.ensures.made

pub attach_blocks-requires-clause-fresh : goal.attach_blocks-requires-clause-fresh
attach_blocks-requires-clause-fresh c = fresh_so c.args.standing c.args.access c.args.bsize c.in-Some.start _ _ (sym c.in-Some.is ∙ c.in_ok-starting_blocks.ensures.start) c.requires.fresh

pub returns-in_err-attach_blocks-in-Some-clause-start : goal.returns-in_err-attach_blocks-in-Some-clause-start
returns-in_err-attach_blocks-in-Some-clause-start c = ok_at_err _ c.from_residual-in_err-attach_blocks-in-Some.result _ c.from_residual-in_err-attach_blocks-in-Some.ensures.1

pub returns-in_err-attach_blocks-in-Some-clause-attached : goal.returns-in_err-attach_blocks-in-Some-clause-attached
returns-in_err-attach_blocks-in-Some-clause-attached c = ok_at_err _ c.from_residual-in_err-attach_blocks-in-Some.result _ c.from_residual-in_err-attach_blocks-in-Some.ensures.1

pub returns-in_err-attach_blocks-in-Some-clause-held : goal.returns-in_err-attach_blocks-in-Some-clause-held
returns-in_err-attach_blocks-in-Some-clause-held c = ok_at_err _ c.from_residual-in_err-attach_blocks-in-Some.result _ c.from_residual-in_err-attach_blocks-in-Some.ensures.1

pub returns-in_err-attach_blocks-in-Some-clause-writable : goal.returns-in_err-attach_blocks-in-Some-clause-writable
returns-in_err-attach_blocks-in-Some-clause-writable c = ok_at_err _ c.from_residual-in_err-attach_blocks-in-Some.result _ c.from_residual-in_err-attach_blocks-in-Some.ensures.1

pub returns-in_err-attach_blocks-in-Some-clause-none : goal.returns-in_err-attach_blocks-in-Some-clause-none
returns-in_err-attach_blocks-in-Some-clause-none c = ok_at_err _ c.from_residual-in_err-attach_blocks-in-Some.result _ c.from_residual-in_err-attach_blocks-in-Some.ensures.1

pub returns-in_err-attach_blocks-in-Some-clause-err : goal.returns-in_err-attach_blocks-in-Some-clause-err
returns-in_err-attach_blocks-in-Some-clause-err c = holds_at_err c.from_residual-in_err-attach_blocks-in-Some.result c.in_err-attach_blocks-in-Some.ensures.err

pub returns-in-None-clause-start : goal.returns-in-None-clause-start
returns-in-None-clause-start c = sym c.in-None.is ∙ c.in_ok-starting_blocks.ensures.start

pub returns-in_ok-attach_blocks-in-Some-clause-start : goal.returns-in_ok-attach_blocks-in-Some-clause-start
returns-in_ok-attach_blocks-in-Some-clause-start c = ap Some c.in_ok-attach_blocks-in-Some.ensures.start ∙ (sym c.in-Some.is ∙ c.in_ok-starting_blocks.ensures.start)

pub returns-in_ok-attach_blocks-in-Some-clause-attached : goal.returns-in_ok-attach_blocks-in-Some-clause-attached
returns-in_ok-attach_blocks-in-Some-clause-attached c = c.in_ok-attach_blocks-in-Some.ensures.attached

pub returns-in_ok-attach_blocks-in-Some-clause-held : goal.returns-in_ok-attach_blocks-in-Some-clause-held
returns-in_ok-attach_blocks-in-Some-clause-held c = c.in_ok-attach_blocks-in-Some.ensures.held

pub returns-in_ok-attach_blocks-in-Some-clause-writable : goal.returns-in_ok-attach_blocks-in-Some-clause-writable
returns-in_ok-attach_blocks-in-Some-clause-writable c = c.in_ok-attach_blocks-in-Some.ensures.writable
