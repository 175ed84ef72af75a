use Rattle.std.proofs.Common.{◌≡◌, ◌∙◌, true, false, Option, Some, None, ap, sym, rules}
use Rattle.std.specs.Option.{option_map}
use Rattle.cms_edf.specs.declared.held.FileInfo.{FileInfo}
use Rattle.cms_files.specs.declared.told.ToldFile.{ToldFile}
use Rattle.cms_names.specs.declared.name.Name.{Name}
use Rattle.cms_listfile.specs.Listfile.{disk_a}
use Rattle.cms_files.specs.Told.{info_named}
use Rattle.cms_listfile.proofs.Written.{writes_anew, writes_told}
use Rattle.cms_listfile.proofs.procedure.write_listing.Goals as goal

abbrev infos : Option ToldFile → Option FileInfo
infos x = option_map (λ (f : ToldFile). f.info) x

pub returns-then-not-append-clause-acts : goal.returns-then-not-append-clause-acts
returns-then-not-append-clause-acts g c =
    let off : c.args.append ≡ false = search rules in
    writes_anew _ _ c.args.append c.args.last c.args.found.now _ off c.write_anew.ensures.acts

pub returns-in-Some-clause-acts : goal.returns-in-Some-clause-acts
returns-in-Some-clause-acts g c =
    let on : c.args.append ≡ true = search rules in
    writes_told _ _ c.args.append c.args.last c.args.found.now (Some c.in-Some.there.info) _ on
    (ap (λ (n : Name). info_named c.args.state.now.table disk_a n) (sym c.written_name.ensures) ∙ sym c.told_named.ensures.told ∙ ap infos c.in-Some.is) c.write_more.ensures.acts

pub returns-in-None-clause-acts : goal.returns-in-None-clause-acts
returns-in-None-clause-acts g c =
    let on : c.args.append ≡ true = search rules in
    writes_told _ _ c.args.append c.args.last c.args.found.now None _ on
    (ap (λ (n : Name). info_named c.args.state.now.table disk_a n) (sym c.written_name.ensures) ∙ sym c.told_named.ensures.told ∙ ap infos c.in-None.is) c.write_anew-in-None.ensures.acts
