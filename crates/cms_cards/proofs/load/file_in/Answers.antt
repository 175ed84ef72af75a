use Rattle.std.proofs.lemmas.List.{take_rest}
use Rattle.cms_cards.proofs.Loaded.{in_so}
use Rattle.cms_cards.proofs.load.file_in.Goals as goal

pub returns-in-Some : goal.returns-in-Some
returns-in-Some c = in_so c.args.text.now _ c.in-Some.header c.file_behind.result c.in-Some.ensures (take_rest c.args.text.now 37) c.file_behind.ensures
