use Rattle.std.proofs.Common.{◌∙◌, sym}
use Rattle.cms_edf.proofs.NamesMet.{same_there}
use Rattle.cms_fileops.proofs.Renames.{no_others, none_other, others_on}
use Rattle.cms_fileops.proofs.rename.is_others.Goals as goal

pub returns-then-eq : goal.returns-then-eq
returns-then-eq c =
    let from = c.args.from.now in
    let to = c.args.to.now in
    none_other c.args.table.now c.args.letter from to (sym (same_there from to) ∙ sym c.eq.ensures ∙ c.if-eq.true)

pub returns-in-Some : goal.returns-in-Some
returns-in-Some c =
    let from = c.args.from.now in
    let to = c.args.to.now in
    others_on c.args.table.now c.args.letter from to c.in-Some.disk.now c.has.result (sym (same_there from to) ∙ sym c.eq.ensures ∙ c.if-eq.false) c.in-Some.ensures c.has.ensures

pub returns-in-None : goal.returns-in-None
returns-in-None c = no_others c.args.table.now c.args.letter c.args.from.now c.args.to.now c.in-None.ensures
