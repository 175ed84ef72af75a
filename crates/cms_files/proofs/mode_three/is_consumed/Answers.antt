use Rattle.std.proofs.Common.{◌∙◌, ap, sym}
use Rattle.std.specs.Prelude.{⊤, Result, is_ok}
use Rattle.std.proofs.lemmas.Bool.{ne_eqb}
use Rattle.cms_search.specs.declared.fault.SearchFault.{SearchFault}
use Rattle.cms_files.specs.ModeThree.{read_once}
use Rattle.cms_files.proofs.Consumed.{consumed_other, consumed_told}
use Rattle.cms_files.proofs.mode_three.is_consumed.Goals as goal

pub returns-then-info-eq-READ_ONCE-clause-machine : goal.returns-then-info-eq-READ_ONCE-clause-machine
returns-then-info-eq-READ_ONCE-clause-machine c = λ name s is shows.
    let three = c.if-info-eq-READ_ONCE.true in
    let told = consumed_told c.args.table.now c.args.letter name s c.args.info.now (sym is) shows in
    c.is_ok.ensures.value ∙ (ap (λ (r : Result ⊤ SearchFault). is_ok r) c.find_write.ensures ∙ (rw three at told))

pub returns-else-info-eq-READ_ONCE-clause-machine : goal.returns-else-info-eq-READ_ONCE-clause-machine
returns-else-info-eq-READ_ONCE-clause-machine c = λ name s is shows.
    let other = c.if-info-eq-READ_ONCE.false in
    ne_eqb c.args.info.now.number read_once other
    ∙ sym (consumed_other c.args.table.now c.args.letter name s c.args.info.now (sym is) other shows)
