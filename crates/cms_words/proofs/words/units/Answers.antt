use Rattle.clap.specs.Words.{found_of, rows_of}
use Rattle.cms_words.specs.Command.{units_in}
use Rattle.cms_words.proofs.CommandLemmas.{units_none}
use Rattle.cms_words.proofs.UnitLists.{no_unit_words}
use Rattle.cms_words.proofs.words.units.Goals as goal

pub returns-in-None : goal.returns-in-None
returns-in-None c = no_unit_words c.new.result (units_in (rows_of (found_of c.args.matches.now))) c.new.ensures (units_none (found_of c.args.matches.now) c.in-None.ensures)
