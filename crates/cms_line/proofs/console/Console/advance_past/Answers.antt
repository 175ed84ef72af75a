use Rattle.std.proofs.Common.{◌≡◌, ◌∙◌, ◌+◌, ◌-◌, ◌<◌, List, ℕ, length, take, drop, ap, sym, arith}
use Rattle.cms_line.specs.ConsoleState.{state}
use Rattle.cms_line.proofs.ConsoleViews.{moved, moved_past}
use Rattle.cms_line.proofs.console.Console.advance_past.Goals as goal

pub returns : goal.returns
returns c =
    let i = c.self.inside in
    let within : c.args.place < length (take (i.end - i.start) (drop i.start i.buffer.items)) = rw (sym c.self.view_is) at c.requires in
    let sum : i.start + c.args.place + 1 ≡ i.start + (c.args.place + 1) = omega arith in
    rw (sym c.self.view_is)
    (ap (λ (n : ℕ). state c.args.within (take (i.end - n) (drop n i.buffer.items)) i.ended) sum
    ∙ ap (λ (z : List ℕ). state c.args.within z i.ended) (moved i.buffer.items i.start i.end (c.args.place + 1) c.self.invariant.ordered (omega arith)))

pub invariant_of-self : goal.invariant_of-self
invariant_of-self c =
    let i = c.self.inside in
    let within = rw (sym c.self.view_is) at c.requires in
    record { ordered = moved_past i.buffer.items i.start i.end c.args.place c.self.invariant.ordered within; inside = c.self.invariant.inside; room = c.self.invariant.room }
