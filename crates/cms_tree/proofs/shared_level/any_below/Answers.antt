use Rattle.std.proofs.Common.{⊎_elim, ◌<◌, ◌≤◌, length, sym, ◌∙◌, arith}
use Rattle.std.proofs.lemmas.Bool.{cases_lt, eqb-true, eqb-false}
use Rattle.cms_tree.proofs.Paths.{first_decides, none_below}
use Rattle.cms_tree.proofs.shared_level.any_below.Goals as goal

pub returns-then-is_empty : goal.returns-then-is_empty
returns-then-is_empty c from low =
    let xs = c.args.numbers.now in
    none_below from c.args.end xs (eqb-true (length xs) 0 (sym c.is_empty.ensures ∙ c.if-is_empty.true))

pub returns : goal.returns
returns c from low =
    let xs = c.args.numbers.now in
    let some : 1 ≤ length xs = ⊎_elim (λ (none : length xs < 1). absurd (eqb-false (length xs) 0 (sym c.is_empty.ensures ∙ c.if-is_empty.false) (omega arith)))
    (λ (some : 1 ≤ length xs). some) (cases_lt (length xs) 1) in
    rw c.from.ensures (first_decides from c.args.end xs c.requires low some)
