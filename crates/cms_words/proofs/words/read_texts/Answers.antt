use Rattle.std.proofs.Common.{map}
use Rattle.clap.specs.Words.{found_of, rows_of}
use Rattle.cms_words.proofs.ReadingLemmas.{words_taken}
use Rattle.cms_words.proofs.words.read_texts.Goals as goal

pub returns-in-Ok-clause-answer : goal.returns-in-Ok-clause-answer
returns-in-Ok-clause-answer c = words_taken c.values.result (map (λ s. s.now) c.args.words.now) (rows_of (found_of c.in-Ok.matches)) c.values.ensures.answer c.in-Ok.ensures.taken c.in-Ok.ensures.found
