use Rattle.std.proofs.Common.{◌∙◌, ◌++◌, List, ℕ, codes, ap, sym}
use Rattle.cms_text.specs.Texts.{coded}
use Rattle.cms_held.proofs.Fronts.{on_ok}
use Rattle.cms_listfile.proofs.Delivered.{told_line}
use Rattle.cms_listfile.proofs.Procedures.{none_gathered, one_gathered}
use Rattle.cms_listfile.proofs.procedure.gather_file.Goals as goal

pub returns-in_default : goal.returns-in_default
returns-in_default c = λ format size some is.
    none_gathered format size some c.args.last c.args.table.now c.args.found _ (sym c.listed_at.ensures ∙ c.in_default.is) is

pub returns : goal.returns
returns c = λ format size some is.
    let line = c.in_ok-line.line.items in
    let text = c.deref-2.result.now in
    let told = told_line c.args.last c.args.table.now c.args.found c.in-Some.file line (sym c.in-Some.ensures) c.in_ok-line.ensures.text in
    on_ok c.push.result _ _
    (λ more. one_gathered format size some c.args.last c.args.table.now c.args.found line text _ told
    (c.deref-2.ensures.value ∙ c.in_ok-text.ensures ∙ ap (λ (l : List ℕ). coded (codes "&1 &2 ") ++ l) c.deref.ensures.value) more) (c.push.ensures format size some is)
