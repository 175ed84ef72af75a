use Rattle.std.proofs.Common.{◌≡◌, ◌∙◌, ℕ, refl, sym, subst}
use Rattle.std.proofs.lemmas.Result.{err_from_is_err_and}
use Rattle.cms_journal.specs.Journal.{contents_of}
use Rattle.cms_model.specs.Trees.{image_of}
use Rattle.cms_disk.specs.Cursors.{HasLeft}
use Rattle.cms_disk.proofs.Gotten.{data_stands, fixed_is, fixed_length, gets_err, gets_not_altered, gets_ok, gets_starved}
use Rattle.cms_edf.proofs.Exits.{ok_at_err}
use Rattle.cms_disk.proofs.minidisk.Minidisk.get_at.Goals as goal

pub gather-requires-clause-fixed : goal.gather-requires-clause-fixed
gather-requires-clause-fixed g c = fixed_is c.args.self.now.volume c.args.place c.info-info.result c.in_ok-cursor.cursor c.info-info.ensures.info c.in_ok-cursor.ensures.first

pub returns-in_err-cursor-clause-file : goal.returns-in_err-cursor-clause-file
returns-in_err-cursor-clause-file g c = λ name at.
    let p = err_from_is_err_and c.from_residual.result c.from_residual.ensures.1 in
    rw (p.1, p.2) (λ j told m stands. gets_starved name m c.in_err-cursor.field-0.0 c.in_err-cursor.ensures.fault)

pub returns-in_err-gathered-clause-file : goal.returns-in_err-gathered-clause-file
returns-in_err-gathered-clause-file g c = λ name here.
    let p = err_from_is_err_and c.from_residual-in_err-gathered.result c.from_residual-in_err-gathered.ensures.1 in
    let d = c.args.self.now in
    let cursor = c.in_ok-cursor.cursor in
    let first = c.in_ok-cursor.ensures.first in
    let at : cursor.unit ≡ d.volume.unit = first.2.unit in
    rw (p.1, p.2) (λ j told m stands.
    gets_err name m c.in_err-gathered.field-0.0 c.in_err-gathered.ensures.fault
    (λ altered. gets_not_altered (image_of (contents_of j d.volume.unit)) name d m c.args.place cursor stands here c.in_ok-cursor.ensures.kept first
    (λ all has. c.in_err-gathered.ensures.altered altered j told all (subst (λ (u : ℕ). HasLeft (image_of (contents_of j u)) cursor all) (sym at) has))))

pub returns-clause-valid : goal.returns-clause-valid
returns-clause-valid g c =
    let read = c.in_ok-gathered.ensures.gathered in
    let info = c.info-info.result in
    let bytes = c.in_ok-gathered.gathered.bytes.items in
    let most = c.in_ok-gathered.gathered.longest in
    rw (c.length_of.ensures, c.take.ensures) (record {
      records = read.0;
      stands = data_stands c.args.self.now.volume c.args.place info c.in_ok-cursor.cursor bytes most read.0
          (record { keeps = c.in_ok-cursor.ensures.kept; info_is = c.info-info.ensures.info; first = c.in_ok-cursor.ensures.first; gathers = read.1 });
    })

pub returns-clause-file : goal.returns-clause-file
returns-clause-file g c = λ name here j told m stands.
    let d = c.args.self.now in
    let cursor = c.in_ok-cursor.cursor in
    let first = c.in_ok-cursor.ensures.first in
    let read = c.in_ok-gathered.ensures.gathered in
    let info = c.info-info.result in
    let bytes = c.in_ok-gathered.gathered.bytes.items in
    let most = c.in_ok-gathered.gathered.longest in
    let at : cursor.unit ≡ d.volume.unit = first.2.unit in
    rw (c.length_of.ensures, c.take.ensures)
    (gets_ok (image_of (contents_of j d.volume.unit)) name d m c.args.place info cursor bytes most read.0 stands here
    (record { keeps = c.in_ok-cursor.ensures.kept; info_is = c.info-info.ensures.info; first = first; gathers = read.1 })
    (λ all has. read.2 j told all (subst (λ (u : ℕ). HasLeft (image_of (contents_of j u)) cursor all) (sym at) has)))

pub returns-clause-like : goal.returns-clause-like
returns-clause-like g c = λ name here.
    let info = c.info-info.result in
    record {
      place = c.args.place;
      place_is = here;
      info = info;
      info_is = c.info-info.ensures.info;
      format = refl;
      fixed = λ at. c.length_of.ensures ∙ fixed_length info.format info.length c.in_ok-gathered.gathered.longest at;
    }

pub returns-in_err-cursor-clause-valid : goal.returns-in_err-cursor-clause-valid
returns-in_err-cursor-clause-valid g c = ok_at_err _ c.from_residual.result _ c.from_residual.ensures.1

pub returns-in_err-cursor-clause-like : goal.returns-in_err-cursor-clause-like
returns-in_err-cursor-clause-like g c = ok_at_err _ c.from_residual.result _ c.from_residual.ensures.1

pub returns-in_err-gathered-clause-valid : goal.returns-in_err-gathered-clause-valid
returns-in_err-gathered-clause-valid g c = ok_at_err _ c.from_residual-in_err-gathered.result _ c.from_residual-in_err-gathered.ensures.1

pub returns-in_err-gathered-clause-like : goal.returns-in_err-gathered-clause-like
returns-in_err-gathered-clause-like g c = ok_at_err _ c.from_residual-in_err-gathered.result _ c.from_residual-in_err-gathered.ensures.1
