use Rattle.std.proofs.Common.{◌∙◌, inr, map}
use Rattle.mini_words.proofs.Answers.{refused_so, said_so}
use Rattle.mini_words.proofs.Parsed.{asked_below, nothing_below}
use Rattle.mini_words.proofs.command_words.read_texts.Goals as goal

pub returns-in_default-clause-reading : goal.returns-in_default-clause-reading
returns-in_default-clause-reading c =
    inr (c.in-Ok.ensures.taken, nothing_below (map (λ s. s.now) c.args.words.now) c.in-Ok.matches c.in-Ok.ensures.found c.in_default.ensures.rows)

pub returns-in-Ok-all_asked_by-clause-reading : goal.returns-in-Ok-all_asked_by-clause-reading
returns-in-Ok-all_asked_by-clause-reading c =
    let asked = asked_below (map (λ s. s.now) c.args.words.now) c.in-Ok.matches _ _ c.in-Ok.ensures.found c.in-Some.ensures.name c.in-Some.ensures.rows in
    (c.in-Ok.ensures.taken, asked ∙ said_so _ _ c.in-Ok-all_asked_by.ensures.answer)

pub returns-clause-reading : goal.returns-clause-reading
returns-clause-reading c =
    let asked = asked_below (map (λ s. s.now) c.args.words.now) c.in-Ok.matches _ _ c.in-Ok.ensures.found c.in-Some.ensures.name c.in-Some.ensures.rows in
    refused_so _ _ _ _ c.in-Ok.ensures.taken asked c.in-Err-all_asked_by.ensures.answer
