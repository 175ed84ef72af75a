use Rattle.std.proofs.Common.{List, ℕ, ap, sym}
use Rattle.cms_line.specs.ConsoleState.{state}
use Rattle.cms_line.proofs.ConsoleViews.{moved, moved_within}
use Rattle.cms_line.proofs.console.Console.advance.Goals as goal

pub returns : goal.returns
returns c =
    let i = c.self.inside in
    let within = rw (sym c.self.view_is) at c.requires in
    rw (sym c.self.view_is) (ap (λ (z : List ℕ). state c.args.within z i.ended) (moved i.buffer.items i.start i.end c.args.count c.self.invariant.ordered within))

pub invariant_of-self : goal.invariant_of-self
invariant_of-self c =
    let i = c.self.inside in
    let within = rw (sym c.self.view_is) at c.requires in
    record { ordered = moved_within i.buffer.items i.start i.end c.args.count c.self.invariant.ordered within; inside = c.self.invariant.inside; room = c.self.invariant.room }
