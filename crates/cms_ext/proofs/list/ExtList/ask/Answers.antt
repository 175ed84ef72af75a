use Rattle.std.proofs.Common.{ℕ, ◌<◌, refl, subst, sym}
use Rattle.std.specs.List.{IsDistinct}
use Rattle.std.specs.Str.{bytes_eq}
use Rattle.std.proofs.lemmas.List.{length-set}
use Rattle.cms_ext.proofs.Lists.{asked, words_set}
use Rattle.cms_ext.proofs.list.ExtList.ask.Goals as goal

pub invariant_of-self : goal.invariant_of-self
invariant_of-self g c = record {
  few = subst (λ (n : ℕ). n < 4294967296) (sym (length-set c.args.self.now.seats.items c.args.place _)) c.args.self.now.few;
  differ = subst (IsDistinct bytes_eq)
      (sym (words_set (λ s. s.word) c.args.self.now.seats.items c.args.place c.index_mut.result.now _ c.index_mut.ensures.value refl))
      c.args.self.now.differ;
}

pub returns : goal.returns
returns g c =
    asked _ c.args.self.now.seats.items c.args.place c.index_mut.result.now _ c.requires c.index_mut.ensures.value refl
    c.ask.ensures.same c.ask.ensures.answers
