use Rattle.cms_ext.proofs.Lists.{word_there}
use Rattle.cms_ext.proofs.list.ExtList.word.Goals as goal

pub returns : goal.returns
returns g c = word_there _ c.args.self.now.seats.items c.args.place c.index.result.now c.requires c.index.ensures
