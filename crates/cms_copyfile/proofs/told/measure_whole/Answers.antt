use Rattle.std.proofs.Common.{◌≡◌, ◌∙◌, Option, Some, ap, refl, subst, sym}
use Rattle.std.specs.Prelude.{IfSome}
use Rattle.cms_held.specs.Kept.{IsSized}
use Rattle.cms_edf.specs.declared.held.FileInfo.{FileInfo}
use Rattle.cms_search.specs.Machine.{letter_at}
use Rattle.cms_search.specs.declared.search.Found.{Found}
use Rattle.cms_files.specs.Files.{file_on}
use Rattle.cms_files.specs.Told.{HasStored, IsFoundAt, info_found}
use Rattle.cms_files.proofs.FoundTold.{placed_named, same_info}
use Rattle.cms_copyfile.specs.FileCopies.{input_at}
use Rattle.cms_copyfile.proofs.SoundMeasures.{whole_sound}
use Rattle.cms_copyfile.proofs.ToldLengths.{whole_told}
use Rattle.cms_copyfile.proofs.told.measure_whole.Goals as goal

pub returns-clause-measured : goal.returns-clause-measured
returns-clause-measured c = λ s x shows found.
    let t = c.args.table.now in
    let f = c.args.file.now in
    let name = f.found.name in
    let bytes = c.in_ok-bytes.bytes in
    let here = placed_named t f.found.letter name f.place (sym c.requires.place) in
    let stored = subst (λ (y : Found). IsFoundAt t y name → HasStored bytes (file_on s name (letter_at s y.letter))) c.at.ensures (λ at. c.in_ok-bytes.ensures.stored name s at shows) here in
    rw c.from.ensures
    (whole_told s f c.args.plan.now bytes x (c.if-not-stays_varying.ensures refl) (c.if-not-copies_all.ensures.copies refl) (c.if-not-keeps_lengths.ensures refl) stored found)

pub returns-clause-sound : goal.returns-clause-sound
returns-clause-sound c = λ form p.
    let t = c.args.table.now in
    let f = c.args.file.now in
    let bytes = c.in_ok-bytes.bytes in
    let here = placed_named t f.found.letter f.found.name f.place (sym c.requires.place) in
    let told : info_found t c.at.result ≡ Some f.input = ap (λ (y : Found). info_found t y) c.at.ensures ∙ (same_info t (input_at f) f.found.name here ∙ sym c.requires.told) in
    rw c.from.ensures
    (whole_sound form f c.args.plan.now bytes c.requires.sound (c.if-not-stays_varying.ensures refl)
    (subst (λ (o : Option FileInfo). IfSome o (λ info. IsSized info.format info.length info.count bytes)) told c.in_ok-bytes.ensures.sized) p)
