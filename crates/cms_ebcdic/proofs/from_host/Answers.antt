use Rattle.std.proofs.Common.{◌∙◌, ◌≡◌, sym, slice_get}
use Rattle.std.specs.Option.{option_copied}
use Rattle.cms_ebcdic.specs.declared.TheConstants.{FROM_HOST}
use Rattle.cms_ebcdic.proofs.Tables.{code_below, code_from, lent_at}
use Rattle.cms_ebcdic.proofs.from_host.Goals as goal

pub returns-in_err-place : goal.returns-in_err-place
returns-in_err-place c = c.from_residual.ensures ∙ sym (code_below c.args.byte c.in_err-place.ensures)

pub returns : goal.returns
returns c =
    let got : option_copied c.get.result ≡ slice_get FROM_HOST c.from.result = lent_at FROM_HOST c.from.result c.get.result c.get.ensures.lookup in
    let place = c.in_ok-place.ensures in
    c.copied.ensures ∙ got ∙ code_from c.from.result c.args.byte place.0 (c.from.ensures ∙ place.1)
