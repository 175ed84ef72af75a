use Rattle.std.proofs.Common.{sym, ◌∙◌, ap, length, arith, rules}
use Rattle.cms_model.proofs.Cuts.{cut_none, cut_next}
use Rattle.cms_records.proofs.fixed_records.FixedViewIterator.next.Goals as goal

pub returns-then-self-eq0-clause-steps : goal.returns-then-self-eq0-clause-steps
returns-then-self-eq0-clause-steps c =
    let v = c.self.inside in
    let none = sym c.self.view_is ∙ cut_none v.count v.size v.bytes.now c.if-self-eq0.true in
    (none, none)

pub returns-clause-steps : goal.returns-clause-steps
returns-clause-steps c =
    let v = c.self.inside in
    let next = cut_next v.count v.size v.bytes.now (omega arith) in
    rw (c.split_at.ensures.front, c.split_at.ensures.back) (sym c.self.view_is ∙ next)

pub returns-clause-goes : goal.returns-clause-goes
returns-clause-goes c =
    let v = c.self.inside in
    let next = cut_next v.count v.size v.bytes.now (omega arith) in
    let fewer = ap length (sym c.self.view_is ∙ next) in
    rw c.split_at.ensures.back (search (rules, fewer))
