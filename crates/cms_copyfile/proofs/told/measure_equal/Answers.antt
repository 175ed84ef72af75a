use Rattle.std.proofs.Common.{rules, ◌≡◌, ◌≤◌, ◌+◌, ◌*◌, ℕ, arith, refl}
use Rattle.cms_copyfile.proofs.ToldLengths.{few_bytes, none_measure, some_measure}
use Rattle.cms_copyfile.proofs.told.measure_equal.Goals as goal

pub returns-then-count-eq0-clause-measured : goal.returns-then-count-eq0-clause-measured
returns-then-count-eq0-clause-measured c = λ records each many.
    none_measure c.args.format c.args.size c.args.count c.head_bytes.result _ records each many c.head_bytes.ensures.stored (rw (c.from.ensures, c.from-2.ensures, c.from-3.ensures) refl)
    (search rules)

pub returns-else-count-eq0-clause-measured : goal.returns-else-count-eq0-clause-measured
returns-else-count-eq0-clause-measured c = λ records each many.
    let other = c.if-count-eq0.false in
    some_measure c.args.format c.args.size c.args.count c.head_bytes.result _ records each many c.head_bytes.ensures.stored (rw (c.from.ensures, c.from-2.ensures, c.from-3.ensures) refl)
    (omega (arith, other))

pub returns-then-count-eq0-clause-bytes : goal.returns-then-count-eq0-clause-bytes
returns-then-count-eq0-clause-bytes c =
    few_bytes c.args.count c.args.size c.head_bytes.result _ c.requires (omega arith) c.head_bytes.ensures.few (rw (c.from.ensures, c.from-2.ensures, c.from-3.ensures) refl)

pub returns-else-count-eq0-clause-bytes : goal.returns-else-count-eq0-clause-bytes
returns-else-count-eq0-clause-bytes c =
    few_bytes c.args.count c.args.size c.head_bytes.result _ c.requires (omega arith) c.head_bytes.ensures.few (rw (c.from.ensures, c.from-2.ensures, c.from-3.ensures) refl)
