use Rattle.std.proofs.Common.{◌∙◌, length, ap, arith, sym}
use Rattle.exec2_parse.proofs.Procedures.{long_below, long_here, long_nowhere, one_fewer}
use Rattle.exec2_parse.proofs.procedure.number_of_long_line.Goals as goal

pub overflow_add-result : goal.overflow_add-result
overflow_add-result c =
    let here = ap length c.in-Some.ensures.steps in
    omega (arith, here)

pub overflow_add-before : goal.overflow_add-before
overflow_add-before c =
    let here = ap length c.in-Some.ensures.steps in
    omega (arith, here)

pub returns-then-without_trailing_blanks-gt-LONGEST_TEXT : goal.returns-then-without_trailing_blanks-gt-LONGEST_TEXT
returns-then-without_trailing_blanks-gt-LONGEST_TEXT c =
    sym (long_here c.loop-record.before c.loop-record.record-iterator c.next.new.self c.in-Some.record.now c.without_trailing_blanks.result.now c.in-Some.ensures.steps
    c.without_trailing_blanks.ensures c.if-without_trailing_blanks-gt-LONGEST_TEXT.true) ∙ c.loop-record.invariant.4

pub loop-record-preserved : goal.loop-record-preserved
loop-record-preserved c =
    let l = c.loop-record in (
      tt,
      tt,
      one_fewer l.before c.args.file.now.count l.record-iterator c.next.new.self c.in-Some.record.now c.in-Some.ensures.steps l.invariant.2,
      l.invariant.3,
      long_below l.before l.record-iterator c.next.new.self c.in-Some.record.now c.without_trailing_blanks.result.now c.in-Some.ensures.steps c.without_trailing_blanks.ensures
          c.if-without_trailing_blanks-gt-LONGEST_TEXT.false ∙ l.invariant.4,
    )

pub returns : goal.returns
returns c = long_nowhere c.loop-record.before c.loop-record.record-iterator c.in-None.ensures.steps.0 ∙ c.loop-record.invariant.4
