use Rattle.std.proofs.Common.{◌≡◌, ◌∙◌, length, refl, sym, ap, arith}
use Rattle.cms_journal.specs.Journal.{may_write}
use Rattle.cms_world.proofs.Exits.{ok_at_err, holds_at_err}
use Rattle.cms_world.proofs.LastUnit.{attached_last, start_last, blocks_last, writable_last}
use Rattle.cms_world.proofs.attach.attach_blocks.Goals as goal
use Rattle.cms_world.proofs.attach.attach_blocks.Goals.{in-ReadOnly, in-ReadWrite, in-New}

pub returns-in_default-clause-err : goal.returns-in_default-clause-err
returns-in_default-clause-err c = refl

pub returns-in_err-of-clause-start : goal.returns-in_err-of-clause-start
returns-in_err-of-clause-start c = ok_at_err _ c.from_residual.result _ c.from_residual.ensures.1

pub returns-in_err-of-clause-attached : goal.returns-in_err-of-clause-attached
returns-in_err-of-clause-attached c = ok_at_err _ c.from_residual.result _ c.from_residual.ensures.1

pub returns-in_err-of-clause-held : goal.returns-in_err-of-clause-held
returns-in_err-of-clause-held c = ok_at_err _ c.from_residual.result _ c.from_residual.ensures.1

pub returns-in_err-of-clause-writable : goal.returns-in_err-of-clause-writable
returns-in_err-of-clause-writable c = ok_at_err _ c.from_residual.result _ c.from_residual.ensures.1

pub returns-in_err-of-clause-err : goal.returns-in_err-of-clause-err
returns-in_err-of-clause-err c = holds_at_err c.from_residual.result refl

pub attach-requires : goal.attach-requires
attach-requires c = c.requires.sizes

pub returns-in_err-attach-clause-start : goal.returns-in_err-attach-clause-start
returns-in_err-attach-clause-start c = ok_at_err _ c.from_residual-in_err-attach.result _ c.from_residual-in_err-attach.ensures.1

pub returns-in_err-attach-clause-attached : goal.returns-in_err-attach-clause-attached
returns-in_err-attach-clause-attached c = ok_at_err _ c.from_residual-in_err-attach.result _ c.from_residual-in_err-attach.ensures.1

pub returns-in_err-attach-clause-held : goal.returns-in_err-attach-clause-held
returns-in_err-attach-clause-held c = ok_at_err _ c.from_residual-in_err-attach.result _ c.from_residual-in_err-attach.ensures.1

pub returns-in_err-attach-clause-writable : goal.returns-in_err-attach-clause-writable
returns-in_err-attach-clause-writable c = ok_at_err _ c.from_residual-in_err-attach.result _ c.from_residual-in_err-attach.ensures.1

pub returns-in_err-attach-clause-err : goal.returns-in_err-attach-clause-err
returns-in_err-attach-clause-err c = holds_at_err c.from_residual-in_err-attach.result c.in_err-attach.ensures.err

pub returns-clause-start : goal.returns-clause-start
returns-clause-start c = start_last c.args.recorder.now c.attach.new.self _ c.units-number.result c.in_ok-attach.ensures.ok c.units-number.ensures

pub returns-clause-attached : goal.returns-clause-attached
returns-clause-attached c =
    let writes : c.match-access.writable ≡ may_write c.args.access = elim c.match-access.branch [
      | in-ReadOnly w ↦ w.writable-is ∙ ap may_write (sym w.in-ReadOnly.is)
      | in-ReadWrite w ↦ w.writable-is ∙ ap may_write (sym w.in-ReadWrite.is)
      | in-New w ↦ w.writable-is ∙ ap may_write (sym w.in-New.is)
    ] in
    let count : c.in-Ok.blocks ≡ length c.args.start = omega (arith, c.in-Ok.ensures, c.len.ensures) in
    attached_last c.args.recorder.now c.attach.new.self _ c.args.name.now c.args.access c.units-number.result c.in-Ok.blocks c.in_ok-attach.ensures.ok c.in_ok-attach.ensures.untouched
    (c.in_ok-of.ensures ∙ c.as_bytes.ensures.value) writes c.units-number.ensures count c.requires.sizes c.requires.made c.requires.fresh

pub returns-clause-held : goal.returns-clause-held
returns-clause-held c =
    let count : c.in-Ok.blocks ≡ length c.args.start = omega (arith, c.in-Ok.ensures, c.len.ensures) in
    blocks_last c.args.recorder.now c.attach.new.self _ c.units-number.result c.in-Ok.blocks c.in_ok-attach.ensures.ok c.units-number.ensures count

pub returns-clause-writable : goal.returns-clause-writable
returns-clause-writable c =
    let writes : c.match-access.writable ≡ may_write c.args.access = elim c.match-access.branch [
      | in-ReadOnly w ↦ w.writable-is ∙ ap may_write (sym w.in-ReadOnly.is)
      | in-ReadWrite w ↦ w.writable-is ∙ ap may_write (sym w.in-ReadWrite.is)
      | in-New w ↦ w.writable-is ∙ ap may_write (sym w.in-New.is)
    ] in
    writable_last c.args.recorder.now c.attach.new.self _ c.args.access c.units-number.result c.in_ok-attach.ensures.ok writes c.units-number.ensures
