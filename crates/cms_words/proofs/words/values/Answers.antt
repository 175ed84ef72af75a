use Rattle.std.specs.Prelude.{option_map}
use Rattle.clap.specs.Words.{found_of, rows_of}
use Rattle.cms_words.proofs.ReadingLemmas.{units_fail, turns_fail, zone_fails, seed_fails}
use Rattle.cms_words.proofs.words.values.Goals as goal

pub returns-in-Err-clause-answer : goal.returns-in-Err-clause-answer
returns-in-Err-clause-answer c = units_fail c.in-Err.fault (rows_of (found_of c.args.matches.now)) c.in-Err.ensures

pub returns-in-Err-turns-clause-answer : goal.returns-in-Err-turns-clause-answer
returns-in-Err-turns-clause-answer c = turns_fail c.in-Err-turns.fault (rows_of (found_of c.args.matches.now)) c.in-Ok.units
    (option_map (λ s. s.now) c.turns_word.result) c.turns_word.ensures c.in-Ok.ensures c.in-Err-turns.ensures

pub returns-in-Err-zone-clause-answer : goal.returns-in-Err-zone-clause-answer
returns-in-Err-zone-clause-answer c = zone_fails c.in-Err-zone.fault (rows_of (found_of c.args.matches.now)) c.in-Ok.units (option_map (λ s. s.now) c.turns_word.result)
    (option_map (λ s. s.now) c.zone_word.result) c.in-Ok-turns.turns
    c.turns_word.ensures c.zone_word.ensures c.in-Ok.ensures c.in-Ok-turns.ensures c.in-Err-zone.ensures.value

pub returns-in-Err-seed-clause-answer : goal.returns-in-Err-seed-clause-answer
returns-in-Err-seed-clause-answer c = seed_fails c.in-Err-seed.fault (rows_of (found_of c.args.matches.now)) c.in-Ok.units (option_map (λ s. s.now) c.turns_word.result)
    (option_map (λ s. s.now) c.zone_word.result) (option_map (λ s. s.now) c.seed_word.result)
    c.in-Ok-turns.turns c.in-Ok-zone.offset c.in-Ok-without_repeat.field-0
    c.turns_word.ensures c.zone_word.ensures c.seed_word.ensures c.in-Ok.ensures c.in-Ok-turns.ensures c.in-Ok-zone.ensures.value c.in-Ok-without_repeat.ensures c.in-Err-seed.ensures
