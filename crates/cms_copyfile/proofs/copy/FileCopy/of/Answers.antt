use Rattle.std.proofs.Common.{◌∙◌}
use Rattle.cms_copyfile.proofs.FilesCopied.{copy_missing}
use Rattle.cms_copyfile.proofs.copy.FileCopy.of.Goals as goal

pub returns-in_err-input-clause-none : goal.returns-in_err-input-clause-none
returns-in_err-input-clause-none c = λ is s shows. copy_missing c.args.table.now s c.args.found.now c.in_err-input.ensures.told shows

pub returns-clause-copy : goal.returns-clause-copy
returns-clause-copy c = record {
  place = c.in_ok-input.ensures.place;
  input = c.in_ok-input.ensures.told;
  letter = c.letter_for-letter.ensures;
  name = c.equal_signs-name.ensures;
  there_place = c.place_in.ensures ∙ c.told_named-there.ensures.place;
  there = c.info_in.ensures.told ∙ c.told_named-there.ensures.told;
  sound = c.in_ok-input.ensures.sound;
  sound_there = c.info_in.ensures.sound c.told_named-there.ensures.sound;
}
