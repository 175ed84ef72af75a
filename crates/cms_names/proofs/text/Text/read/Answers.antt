use Rattle.std.proofs.Common.{rules, ◌≡◌}
use Rattle.std.specs.Prelude.{Ok}
use Rattle.cms_names.specs.Names.{text_of}
use Rattle.cms_names.specs.Alphabets.{is_of}
use Rattle.cms_names.proofs.Words.{allowed}
use Rattle.cms_names.proofs.text.Text.read.Goals as goal

pub returns-in-None-clause-allowed : goal.returns-in-None-clause-allowed
unfolding text_of
returns-in-None-clause-allowed c =
    let is : text_of (is_of c.args.alphabet) c.args.word.now ≡ Ok c.of.result = search rules in
    allowed (is_of c.args.alphabet) c.args.word.now c.of.result is
