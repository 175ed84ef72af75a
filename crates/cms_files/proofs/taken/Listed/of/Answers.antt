use Rattle.std.proofs.Common.{◌≡◌, ◌∙◌, ap, refl}
use Rattle.std.specs.Prelude.{Option}
use Rattle.std.specs.Option.{option_map}
use Rattle.cms_edf.specs.declared.held.FileInfo.{FileInfo}
use Rattle.cms_search.specs.Tables.{told_of}
use Rattle.cms_search.proofs.Shown.{told_listed}
use Rattle.cms_files.proofs.taken.Listed.of.Goals as goal

pub returns-clause-told : goal.returns-clause-told
returns-clause-told c =
    let files = c.args.disk.now.volume.files in
    let at = c.info.ensures.info in
    let same : c.mode_number.result ≡ c.info.result.number = rw at at c.mode_number.ensures.told in
    told_listed files c.args.place ∙ ap (λ (x : Option FileInfo). option_map told_of x) at ∙ rw same refl
