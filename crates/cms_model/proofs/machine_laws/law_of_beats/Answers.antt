use Rattle.cms_model.proofs.LawOfBeats.{law, at_of_within, chain_sound}
use Rattle.cms_model.proofs.Whole.{adds_up}
use Rattle.cms_model.proofs.machine_laws.law_of_beats.Goals as goal

pub returns-clause-within : goal.returns-clause-within
returns-clause-within c = law

pub returns-clause-at : goal.returns-clause-at
returns-clause-at c = at_of_within

pub returns-clause-sound : goal.returns-clause-sound
returns-clause-sound c = chain_sound

pub returns-clause-sums : goal.returns-clause-sums
returns-clause-sums c = adds_up
