use Rattle.std.proofs.Common.{sym, ◌∙◌, ap, length, arith, rules}
use Rattle.cms_records.proofs.Lengths.{begin_next, begin_none}
use Rattle.cms_records.proofs.var_records.VarViewIterator.next.Goals as goal

pub returns-then-self-eq0-clause-steps : goal.returns-then-self-eq0-clause-steps
returns-then-self-eq0-clause-steps c =
    let none = sym c.self.view_is ∙ begin_none c.self.inside.left c.self.inside.bytes.now c.if-self-eq0.true in
    (none, none)

pub split_first-requires : goal.split_first-requires
split_first-requires c =
    let v = c.self.inside in
    let next = begin_next v.left v.bytes.now c.self.invariant (omega arith) in
    record { length = next.0; within = next.1 }

pub invariant_of-self : goal.invariant_of-self
invariant_of-self c =
    let v = c.self.inside in
    let next = begin_next v.left v.bytes.now c.self.invariant (omega arith) in
    rw c.split_first.ensures.rest next.2

pub returns-clause-steps : goal.returns-clause-steps
returns-clause-steps c =
    let v = c.self.inside in
    let next = begin_next v.left v.bytes.now c.self.invariant (omega arith) in
    rw (c.split_first.ensures.first, c.split_first.ensures.rest) (sym c.self.view_is ∙ next.3)

pub returns-clause-goes : goal.returns-clause-goes
returns-clause-goes c =
    let v = c.self.inside in
    let next = begin_next v.left v.bytes.now c.self.invariant (omega arith) in
    let fewer = ap length (sym c.self.view_is ∙ next.3) in
    search (rules, fewer)
