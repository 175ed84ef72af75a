use Rattle.std.proofs.Common.{◌∙◌, ℕ, ◌<◌, ap, map, subst, sym}
use Rattle.std.specs.List.{IsDistinct}
use Rattle.std.specs.Str.{bytes_eq}
use Rattle.std.proofs.lemmas.List.{length-map}
use Rattle.cms_ext.proofs.Lists.{differ_remove, few_removed, map-remove}
use Rattle.cms_ext.proofs.list.ExtList.drop_at.Goals as goal

pub invariant_of-self : goal.invariant_of-self
invariant_of-self g c = record {
  few = few_removed c.args.self.now.seats.items _ c.args.place c.remove.ensures.items
      (subst (λ (n : ℕ). c.args.place < n) (length-map c.args.self.now.seats.items _) c.requires) c.args.self.now.few;
  differ = subst (IsDistinct bytes_eq)
      (sym (ap (map _) c.remove.ensures.items ∙ map-remove (λ s. s.word) c.args.place c.args.self.now.seats.items))
      (differ_remove (map (λ s. s.word) c.args.self.now.seats.items) c.args.place c.args.self.now.differ);
}

pub returns : goal.returns
returns g c = ap (map _) c.remove.ensures.items ∙ map-remove _ c.args.place _
