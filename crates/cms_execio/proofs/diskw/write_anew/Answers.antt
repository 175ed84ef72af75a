use Rattle.std.proofs.Common.{Option, refl, sym, ◌∙◌, ap, arith}
use Rattle.std.specs.Option.{option_and_then}
use Rattle.std.proofs.lemmas.Result.{err_from_is_err_and}
use Rattle.cms_disk.specs.Disks.{place_of}
use Rattle.cms_search.specs.Tables.{Seated}
use Rattle.cms_search.proofs.Acts.{cut_off}
use Rattle.cms_names.specs.declared.name.Format.TheVariants.{V}
use Rattle.cms_execio.specs.Records.{records_of}
use Rattle.cms_execio.proofs.Written.{acts_anew}
use Rattle.cms_execio.proofs.diskw.write_anew.Goals as goal

pub returns-in_err-file-clause-acts : goal.returns-in_err-file-clause-acts
returns-in_err-file-clause-acts g c =
    let p = err_from_is_err_and c.from_residual.result c.from_residual.ensures.1 in
    rw (p.1, p.2) (cut_off _ _ _ _ refl (omega arith) (omega arith) refl)

pub returns-clause-acts : goal.returns-clause-acts
returns-clause-acts g c =
    acts_anew _ _ c.args.target.now.mode.letter c.args.target.now.name (records_of V 0 c.args.lines.now) c.of-stamp.result c.in_ok-file.file _ c.of-stamp.ensures.value c.in_ok-file.ensures
    (c.write_last.ensures.acts _ c.in_ok-file.ensures.stands)

pub write_last-requires-clause-fits : goal.write_last-requires-clause-fits
write_last-requires-clause-fits g c = λ s at.
    sym (ap (λ (x : Option Seated). option_and_then (λ (s : Seated). place_of c.args.target.now.name s.disk.volume) x) at) ∙ c.requires.absent
