use Rattle.std.proofs.Common.{◌<◌, ℕ, Option, ap, subst, sym, slice_set}
use Rattle.cms_search.specs.Tables.{Seated}
use Rattle.cms_search.proofs.seated.clear.Goals as goal

pub index_mut-requires : goal.index_mut-requires
index_mut-requires c = subst (λ (l : ℕ). c.args.letter < l) (sym c.args.seats.now.ok.0) c.requires

pub returns : goal.returns
returns c = ap (λ (x : Option Seated). slice_set c.args.seats.now.items c.args.letter x) c.take.ensures.after
