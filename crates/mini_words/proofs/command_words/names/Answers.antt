use Rattle.mini_words.specs.Requests.{names_of}
use Rattle.mini_words.proofs.command_words.names.Goals as goal

pub returns : goal.returns
unfolding names_of
returns c = rw (← c.texts.ensures) c.name_patterns.ensures
