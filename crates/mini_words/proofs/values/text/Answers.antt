use Rattle.std.proofs.Common.{◌∙◌, ap, Bor}
use Rattle.std.specs.Prelude.{Option, [], unwrap_or}
use Rattle.clap.specs.Words.{Text}
use Rattle.mini_words.proofs.Found.{text_found}
use Rattle.mini_words.proofs.values.text.Goals as goal

pub returns : goal.returns
returns c = ap (λ (s : Bor Text). s.now) c.unwrap_or.ensures ∙ text_found c.value.result _ ∙ ap (λ (o : Option Text). unwrap_or o []) c.value.ensures
