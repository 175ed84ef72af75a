use Rattle.std.proofs.Common.{sym}
use Rattle.exec2_parse.proofs.Cuts.{uncut}
use Rattle.exec2_parse.proofs.words.cut.Goals as goal

pub returns-in-None-clause-words : goal.returns-in-None-clause-words
returns-in-None-clause-words c = uncut c.args.text.now (sym c.in-None.ensures.place)
