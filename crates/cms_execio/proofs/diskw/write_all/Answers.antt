use Rattle.std.proofs.Common.{ℕ, ◌∙◌, Option, Some, None, ap, sym}
use Rattle.std.specs.Option.{option_map}
use Rattle.cms_edf.specs.declared.held.FileInfo.{FileInfo}
use Rattle.cms_files.specs.declared.told.ToldFile.{ToldFile}
use Rattle.cms_execio.proofs.Written.{writes_told}
use Rattle.cms_execio.proofs.diskw.write_all.Goals as goal

abbrev infos : Option ToldFile → Option FileInfo
infos x = option_map (λ (f : ToldFile). f.info) x

abbrev place : Option ToldFile → Option ℕ
place x = option_map (λ (f : ToldFile). f.place) x

pub write_anew-requires-clause-absent : goal.write_anew-requires-clause-absent
write_anew-requires-clause-absent g c = sym c.told_named.ensures.place ∙ ap place c.in-None.is

pub returns-in-Some-clause-acts : goal.returns-in-Some-clause-acts
returns-in-Some-clause-acts g c =
    writes_told _ _ c.args.target.now c.args.lines.now (Some c.in-Some.there.info) _ (sym c.told_named.ensures.told ∙ ap infos c.in-Some.is) c.write_more.ensures.acts

pub returns-in-None-clause-acts : goal.returns-in-None-clause-acts
returns-in-None-clause-acts g c = writes_told _ _ c.args.target.now c.args.lines.now None _ (sym c.told_named.ensures.told ∙ ap infos c.in-None.is) c.write_anew.ensures.acts
