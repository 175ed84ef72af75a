use Rattle.std.proofs.Common.{◌≡◌, List, ℕ, All, take, refl, sym, subst}
use Rattle.std.proofs.lemmas.List.Elements.{All-take}
use Rattle.cms_fields.specs.Limits.{longest_record}
use Rattle.cms_names.specs.declared.name.Format.TheVariants.{V}
use Rattle.cms_model.specs.Records.{Fits}
use Rattle.cms_disk.proofs.FilesFound.{ok_maps}
use Rattle.cms_copyfile.specs.Outputs.{IsPlan}
use Rattle.cms_copyfile.proofs.ToldLengths.{each_told, on_ok_maps}
use Rattle.cms_copyfile.proofs.first_pass.measure_input.Goals as goal

pub returns-in-Some-clause-measured : goal.returns-in-Some-clause-measured
returns-in-Some-clause-measured g c = λ j is x left. c.in-Some.ensures.measured left.machine x left.shows left.found

pub returns-in-Some-clause-records : goal.returns-in-Some-clause-records
returns-in-Some-clause-records g c = λ j is x left.
    All-take (Fits V longest_record) c.args.plan.now.wanted x.file.records (each_told left.machine c.args.file.now x c.requires.sound.some c.requires.sound.short left.found)

pub returns-in-None-clause-measured : goal.returns-in-None-clause-measured
returns-in-None-clause-measured g c = ok_maps _ _ c.measure_copies.result (λ m measures j is x left. measures j is x.file.records left.left) c.measure_copies.ensures.measured

pub returns-in-None-clause-records : goal.returns-in-None-clause-records
returns-in-None-clause-records g c = on_ok_maps c.measure_copies.result _ _ (λ each j is x left. each j is x.file.records left.left) c.measure_copies.ensures.records

pub returns-in-Some-clause-sound : goal.returns-in-Some-clause-sound
returns-in-Some-clause-sound g c = λ form p. c.in-Some.ensures.sound form p

pub returns-in-None-clause-sound : goal.returns-in-None-clause-sound
returns-in-None-clause-sound g c = λ form p. c.measure_copies.ensures.sound form (subst (λ (n : ℕ). IsPlan form n c.args.plan.now) (sym c.requires.left) p)
