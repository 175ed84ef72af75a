use Rattle.std.proofs.Common.{◌∙◌, Some, ap}
use Rattle.cms_journal.specs.Blocks.{cut}
use Rattle.cms_world.proofs.Exits.{ok_at_err}
use Rattle.cms_world.proofs.images.starting_blocks.Goals as goal

pub cut-requires : goal.cut-requires
cut-requires c = c.requires

pub cut-requires-in-Some-ReadWrite : goal.cut-requires-in-Some-ReadWrite
cut-requires-in-Some-ReadWrite c = c.requires

pub returns-in_err-cut-in-Some-ReadOnly-clause-start : goal.returns-in_err-cut-in-Some-ReadOnly-clause-start
returns-in_err-cut-in-Some-ReadOnly-clause-start c = ok_at_err _ c.from_residual.result _ c.from_residual.ensures.1

pub returns-in_err-cut-in-Some-ReadOnly-clause-sizes : goal.returns-in_err-cut-in-Some-ReadOnly-clause-sizes
returns-in_err-cut-in-Some-ReadOnly-clause-sizes c = ok_at_err _ c.from_residual.result _ c.from_residual.ensures.1

pub returns-in_err-cut-in-Some-ReadOnly-clause-made : goal.returns-in_err-cut-in-Some-ReadOnly-clause-made
returns-in_err-cut-in-Some-ReadOnly-clause-made c = ok_at_err _ c.from_residual.result _ c.from_residual.ensures.1

pub returns-in_err-cut-in-Some-ReadWrite-clause-start : goal.returns-in_err-cut-in-Some-ReadWrite-clause-start
returns-in_err-cut-in-Some-ReadWrite-clause-start c = ok_at_err _ c.from_residual-in_err-cut-in-Some-ReadWrite.result _ c.from_residual-in_err-cut-in-Some-ReadWrite.ensures.1

pub returns-in_err-cut-in-Some-ReadWrite-clause-sizes : goal.returns-in_err-cut-in-Some-ReadWrite-clause-sizes
returns-in_err-cut-in-Some-ReadWrite-clause-sizes c = ok_at_err _ c.from_residual-in_err-cut-in-Some-ReadWrite.result _ c.from_residual-in_err-cut-in-Some-ReadWrite.ensures.1

pub returns-in_err-cut-in-Some-ReadWrite-clause-made : goal.returns-in_err-cut-in-Some-ReadWrite-clause-made
returns-in_err-cut-in-Some-ReadWrite-clause-made c = ok_at_err _ c.from_residual-in_err-cut-in-Some-ReadWrite.result _ c.from_residual-in_err-cut-in-Some-ReadWrite.ensures.1

pub returns-in_err-zeros-in-None-New-clause-start : goal.returns-in_err-zeros-in-None-New-clause-start
returns-in_err-zeros-in-None-New-clause-start c = ok_at_err _ c.from_residual-in_err-zeros-in-None-New.result _ c.from_residual-in_err-zeros-in-None-New.ensures.1

pub returns-in_err-zeros-in-None-New-clause-sizes : goal.returns-in_err-zeros-in-None-New-clause-sizes
returns-in_err-zeros-in-None-New-clause-sizes c = ok_at_err _ c.from_residual-in_err-zeros-in-None-New.result _ c.from_residual-in_err-zeros-in-None-New.ensures.1

pub returns-in_err-zeros-in-None-New-clause-made : goal.returns-in_err-zeros-in-None-New-clause-made
returns-in_err-zeros-in-None-New-clause-made c = ok_at_err _ c.from_residual-in_err-zeros-in-None-New.result _ c.from_residual-in_err-zeros-in-None-New.ensures.1

pub returns-in_ok-cut-in-Some-ReadOnly-clause-start : goal.returns-in_ok-cut-in-Some-ReadOnly-clause-start
returns-in_ok-cut-in-Some-ReadOnly-clause-start c =
    rw (c.in-Some-ReadOnly.is-0, c.in-Some-ReadOnly.is-1) (ap Some (c.in_ok-cut-in-Some-ReadOnly.ensures.blocks ∙ ap (cut c.args.bsize) c.deref.ensures.value))

pub returns-in_ok-cut-in-Some-ReadOnly-clause-sizes : goal.returns-in_ok-cut-in-Some-ReadOnly-clause-sizes
returns-in_ok-cut-in-Some-ReadOnly-clause-sizes c = c.in_ok-cut-in-Some-ReadOnly.ensures.sizes

pub returns-in_ok-cut-in-Some-ReadOnly-clause-made : goal.returns-in_ok-cut-in-Some-ReadOnly-clause-made
returns-in_ok-cut-in-Some-ReadOnly-clause-made c = rw c.in-Some-ReadOnly.is-1 tt

pub returns-in_ok-cut-in-Some-ReadWrite-clause-start : goal.returns-in_ok-cut-in-Some-ReadWrite-clause-start
returns-in_ok-cut-in-Some-ReadWrite-clause-start c =
    rw (c.in-Some-ReadWrite.is-0, c.in-Some-ReadWrite.is-1) (ap Some (c.in_ok-cut-in-Some-ReadWrite.ensures.blocks ∙ ap (cut c.args.bsize) c.deref-in-Some-ReadWrite.ensures.value))

pub returns-in_ok-cut-in-Some-ReadWrite-clause-sizes : goal.returns-in_ok-cut-in-Some-ReadWrite-clause-sizes
returns-in_ok-cut-in-Some-ReadWrite-clause-sizes c = c.in_ok-cut-in-Some-ReadWrite.ensures.sizes

pub returns-in_ok-cut-in-Some-ReadWrite-clause-made : goal.returns-in_ok-cut-in-Some-ReadWrite-clause-made
returns-in_ok-cut-in-Some-ReadWrite-clause-made c = rw c.in-Some-ReadWrite.is-1 tt
