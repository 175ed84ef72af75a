use Rattle.std.proofs.Common.{◌∙◌}
use Rattle.clap.specs.Words.{found_of}
use Rattle.mini_words.proofs.Found.{value_found}
use Rattle.mini_words.proofs.values.value.Goals as goal

pub returns : goal.returns
returns c = c.get_str.ensures ∙ value_found (found_of c.args.matches.now) c.args.id.now
