use Rattle.std.proofs.Common.{arith}
use Rattle.cms_ext.specs.Objects.{object_in}
use Rattle.cms_ext.proofs.Lists.{few_pushed, pushed}
use Rattle.cms_ext.proofs.list.ExtList.push.Goals as goal

pub invariant_of-self : goal.invariant_of-self
invariant_of-self g c = record {
  few = few_pushed c.args.self.now.seats.items _ _ _ c.push.ensures.items
      (omega (arith, c.args.self.now.seats.ok, c.len.ensures, c.if-len.false));
  differ = pushed (λ s. object_in (λ k. (g.dyn-1.0.entry k).1) s.word s.object) c.args.self.now.seats.items _ _ _ c.find.result
      c.push.ensures.items c.find.ensures c.if-is_some.ensures c.args.self.now.differ;
}
