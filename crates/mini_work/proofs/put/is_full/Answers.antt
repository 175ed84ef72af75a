use Rattle.std.proofs.Common.{arith}
use Rattle.std.proofs.lemmas.Bool.{eq-eqb, eqb-true}
use Rattle.cms_copyfile.proofs.Writes.{no_bytes, none_left}
use Rattle.mini_work.proofs.put.is_full.Goals as goal

pub returns-then-records_left-ne0-clause-all : goal.returns-then-records_left-ne0-clause-all
returns-then-records_left-ne0-clause-all c = λ front records drafts.
    absurd (c.if-records_left-ne0.true (none_left c.args.draft.now.writer front records c.records_left.result drafts c.records_left.ensures))

pub returns-clause-full : goal.returns-clause-full
returns-clause-full c = λ is.
    let none = c.if-records_left-ne0.false in
    let zero = eqb-true c.bytes_left.result 0 is in
    record { records = omega (arith, c.records_left.ensures, none); bytes = omega (arith, c.bytes_left.ensures, zero) }

pub returns-clause-all : goal.returns-clause-all
returns-clause-all c = λ front records drafts.
    eq-eqb c.bytes_left.result 0 (no_bytes c.args.draft.now.writer front records c.bytes_left.result drafts c.bytes_left.ensures)
