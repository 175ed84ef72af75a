use Rattle.std.proofs.Common.{rules, ◌≡◌, ◌≤◌, ℕ, arith, refl}
use Rattle.cms_copyfile.proofs.SoundMeasures.{equal_sound}
use Rattle.cms_copyfile.proofs.ToldLengths.{equal_told, if_some}
use Rattle.cms_copyfile.proofs.told.measure_told.Goals as goal

pub returns-in-Some-clause-measured : goal.returns-in-Some-clause-measured
returns-in-Some-clause-measured c = λ s x shows found.
    equal_told s c.args.file.now c.args.plan.now c.in-Some.length c.count_of.result c.measure_equal.result x c.in-Some.ensures c.count_of.ensures.copies c.measure_equal.ensures.measured found

pub returns-in-Some-clause-sound : goal.returns-in-Some-clause-sound
returns-in-Some-clause-sound c = λ form p.
    equal_sound form c.args.file.now c.args.plan.now c.in-Some.length c.count_of.result c.measure_equal.result c.requires.sound c.in-Some.ensures c.count_of.ensures.copies
    c.measure_equal.ensures.measured p
