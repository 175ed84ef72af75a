use Rattle.cms_ext.proofs.Lists.{found}
use Rattle.cms_ext.proofs.list.ExtList.find.Goals as goal

pub returns-in-Some : goal.returns-in-Some
returns-in-Some g c = found _ c.args.self.now.seats.items _ c.args.word.now _ _ c.place_of.ensures c.deref.ensures.value c.in-Some.is

pub returns-in-None : goal.returns-in-None
returns-in-None g c = found _ c.args.self.now.seats.items _ c.args.word.now _ _ c.place_of.ensures c.deref.ensures.value c.in-None.is
