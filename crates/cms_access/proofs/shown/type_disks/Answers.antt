use Rattle.std.proofs.lemmas.Result.{err_from_is_err_and}
use Rattle.cms_access.specs.Shown.{seat_lines}
use Rattle.cms_access.proofs.Queries.{letters_done, letters_none, letters_off, letters_on}
use Rattle.cms_access.proofs.shown.type_disks.Goals as goal

pub loop-letter-init : goal.loop-letter-init
loop-letter-init g c = letters_none (λ n. seat_lines c.args.shown c.args.table.now n) _

pub loop-letter-preserved : goal.loop-letter-preserved
loop-letter-preserved g c =
    letters_on (λ n. seat_lines c.args.shown c.args.table.now n) _ _ _ c.loop-letter.letter c.in_ok-type_disk.field-0 c.loop-letter-test.true
    c.loop-letter.invariant c.in_ok-type_disk.ensures

pub returns-in_err-type_disk : goal.returns-in_err-type_disk
returns-in_err-type_disk g c =
    let p = err_from_is_err_and c.from_residual.result c.from_residual.ensures.1 in
    rw (p.1, p.2) (letters_off (λ n. seat_lines c.args.shown c.args.table.now n) _ _ _ c.loop-letter.letter _ c.loop-letter-test.true
    c.loop-letter.invariant c.in_err-type_disk.ensures)

pub returns : goal.returns
returns g c = letters_done (λ n. seat_lines c.args.shown c.args.table.now n) _ _ c.loop-letter.letter tt c.loop-letter-test.false c.loop-letter.invariant
