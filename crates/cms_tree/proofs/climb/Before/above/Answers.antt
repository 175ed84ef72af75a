use Rattle.std.proofs.Common.{◌<◌, ◌≤◌, ⊎_elim, ◌∙◌, arith, refl}
use Rattle.std.proofs.lemmas.Bool.{cases_lt}
use Rattle.cms_tree.proofs.Sums.{div_ceil_is}
use Rattle.cms_tree.proofs.Resumes.{over_first}
use Rattle.cms_tree.proofs.climb.Before.above.Goals as goal

pub split_at-requires : goal.split_at-requires
split_at-requires c =
    let b = c.args.self.now in
    ⊎_elim
    (λ (none : b.levels < 1). let is = c.next_blocks.ensures.none (omega arith) in omega arith)
    (λ (some : 1 ≤ b.levels). let is = c.next_blocks.ensures.some some in let first = over_first c.args.fan b.levels b.count some in omega arith)
    (cases_lt b.levels 1)

pub returns-clause-count : goal.returns-clause-count
returns-clause-count c = c.div_ceil.ensures ∙ div_ceil_is c.args.self.now.count c.args.fan c.requires.wide

pub next_blocks-requires : goal.next_blocks-requires
next_blocks-requires c = c.requires.wide

pub div_ceil-requires : goal.div_ceil-requires
div_ceil-requires c = c.requires.wide

pub nonzero_div-result : goal.nonzero_div-result
nonzero_div-result c = c.requires.wide

pub partly_above-requires : goal.partly_above-requires
partly_above-requires c = c.requires.wide

pub returns-clause-kept : goal.returns-clause-kept
returns-clause-kept c = refl

pub returns-clause-root : goal.returns-clause-root
returns-clause-root c = (refl, refl)

pub returns-clause-partly : goal.returns-clause-partly
returns-clause-partly c = c.partly_above.ensures

pub returns-clause-levels : goal.returns-clause-levels
returns-clause-levels c = c.saturating_sub.ensures
