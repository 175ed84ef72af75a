use Rattle.std.proofs.Common.{◌≡◌, ◌∙◌, List, ℕ, ap, refl, sym}
use Rattle.cms_session.proofs.Rounds.{taken_so, not_taken}
use Rattle.cms_session.proofs.round.take.Goals as goal

pub returns-in-Ok-clause-acts : goal.returns-in-Ok-clause-acts
returns-in-Ok-clause-acts g c =
    let s = c.args.state.now in
    let none = c.in_default.ensures in
    let popped : c.pop.new.self ≡ s.stack = none.1 ∙ sym none.0 in
    taken_so _ _ c.in-Ok.line c.from_console.result none.0 c.in-Ok.ensures.ok c.in-Ok.ensures.faults c.in-Ok.ensures.cause.later
    (ap (λ (st : List (List ℕ)). record s { stack = st; console = c.next.new.self }) popped) c.from_console.ensures

pub returns-in-Err-World-clause-acts : goal.returns-in-Err-World-clause-acts
returns-in-Err-World-clause-acts g c =
    let s = c.args.state.now in
    let none = c.in_default.ensures in
    let popped : c.pop.new.self ≡ s.stack = none.1 ∙ sym none.0 in
    let got = c.in-Err-World.ensures in
    not_taken _ _ _ none.0 got.err got.faults got.cause.later (ap (λ (st : List (List ℕ)). record s { stack = st; console = c.next.new.self }) popped)
    (λ edge. got.cause.rose (let is = c.in-Err-World.field-0-is in rw is refl))

pub returns-in-Err-Memory-clause-acts : goal.returns-in-Err-Memory-clause-acts
returns-in-Err-Memory-clause-acts g c =
    let s = c.args.state.now in
    let none = c.in_default.ensures in
    let popped : c.pop.new.self ≡ s.stack = none.1 ∙ sym none.0 in
    let got = c.in-Err-Memory.ensures in
    not_taken _ _ _ none.0 got.err got.faults got.cause.later (ap (λ (st : List (List ℕ)). record s { stack = st; console = c.next.new.self }) popped) (λ edge. absurd (cc))
