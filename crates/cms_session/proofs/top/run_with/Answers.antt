use Rattle.cms_world.specs.Seen.{seen}
use Rattle.cms_session.proofs.ReadWords.{refused_fits, no_usage_of_memory, taken_fits, taken_none, taken_spec, taken_units, unbegun}
use Rattle.cms_session.proofs.top.run_with.Goals as goal

pub run_words-requires-clause-units : goal.run_words-requires-clause-units
run_words-requires-clause-units g c = taken_units c.args.words.now c.in-Ok.words c.in-Ok.ensures.answer

pub returns-in-Ok-clause-words : goal.returns-in-Ok-clause-words
returns-in-Ok-clause-words g c = taken_fits c.args.words.now c.in-Ok.words _ c.in-Ok.ensures.answer c.run_words.ensures.no_usage

pub returns-in-Ok-clause-refused : goal.returns-in-Ok-clause-refused
returns-in-Ok-clause-refused g c = λ none. absurd (taken_none c.args.words.now c.in-Ok.words c.in-Ok.ensures.answer none)

pub returns-in-Ok-clause-headline : goal.returns-in-Ok-clause-headline
returns-in-Ok-clause-headline g c = λ spec runs told.
    taken_spec c.args.words.now c.in-Ok.words spec _ (seen g.W.World c.args.world.now) (seen g.W.World c.run_words.new.world) _ c.in-Ok.ensures.answer runs (c.run_words.ensures.headline told)

pub returns-in-Err-clause-words : goal.returns-in-Err-clause-words
returns-in-Err-clause-words g c = rw c.refusal.ensures (refused_fits c.args.words.now c.in-Err.fault c.in-Err.ensures.answer)

pub returns-in-Err-clause-no_memory : goal.returns-in-Err-clause-no_memory
returns-in-Err-clause-no_memory g c = rw c.refusal.ensures (no_usage_of_memory c.in-Err.fault)

pub returns-in-Err-clause-headline : goal.returns-in-Err-clause-headline
returns-in-Err-clause-headline g c = λ spec runs told.
    rw c.refusal.ensures (unbegun c.args.words.now c.in-Err.fault spec _ (seen g.W.World c.args.world.now) c.in-Err.ensures.answer runs)
