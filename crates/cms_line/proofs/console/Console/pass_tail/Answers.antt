use Rattle.cms_line.proofs.ConsoleTaken.{passed_tail}
use Rattle.cms_line.proofs.console.Console.pass_tail.Goals as goal

pub returns : goal.returns
returns c = passed_tail c.args.self.now c.advance_past.new.self c.args.length c.requires.inside c.requires.ends c.advance_past.ensures
