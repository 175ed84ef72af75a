use Rattle.mini_work.proofs.Caused.{never_missing, cause_fails, later_same}
use Rattle.mini_work.specs.Faults.{fault_of}
use Rattle.cms_model.specs.LawsUpdates.{now}
use Rattle.cms_disk.specs.Cursors.{HasLeft}
use Rattle.std.proofs.Common.{◌≡◌, ℕ, Some, IfOk, subst, sym}
use Rattle.cms_model.specs.Changes.{file_named}
use Rattle.cms_model.specs.Minidisks.{File, Minidisk}
use Rattle.mini_forms.specs.declared.form.Form.{Form}
use Rattle.mini_work.specs.HandedFiles.{can_show}
use Rattle.mini_work.specs.Stands.{Stands}
use Rattle.mini_work.proofs.HandedOut.{opened_blocks, shows_lines, opened_left}
use Rattle.mini_work.proofs.handed_file.can_show.Goals as goal

pub are_lines-lines-requires : goal.are_lines-lines-requires
are_lines-lines-requires g c =
    record {
      blocks = opened_blocks (g.W.World.told c.args.world.now) c.args.disk.now c.args.name.now c.in_ok-cursor-in-Text.cursor
          c.in_ok-cursor-in-Text.ensures.start c.requires.blocks;
    }

pub returns-in_ok-cursor-in-Text-clause-shows : goal.returns-in_ok-cursor-in-Text-clause-shows
returns-in_ok-cursor-in-Text-clause-shows g c =
    let told = g.W.World.told c.args.world.now in
    subst (λ (form : Form). IfOk c.are_lines-lines.result (λ shown. (m : Minidisk) (f : File) → Stands told c.args.disk.now m
    → file_named c.args.name.now m.files ≡ Some f → shown ≡ can_show form f.records)) (sym c.in-Text.is)
    (shows_lines told c.args.disk.now c.args.name.now c.in_ok-cursor-in-Text.cursor c.are_lines-lines.result c.are_lines-lines.ensures.lines c.in_ok-cursor-in-Text.ensures.records
    c.in_ok-cursor-in-Text.ensures.start.first.unit)

pub returns-in_err-cursor-in-Text-clause-cause : goal.returns-in_err-cursor-in-Text-clause-cause
returns-in_err-cursor-in-Text-clause-cause g c = λ m f s named n. let e = c.in_err-cursor-in-Text.ensures in cause_fails _ _ _ (fault_of c.in_err-cursor-in-Text.field-0.0) c.from_residual.result (later_same _) c.from_residual.ensures.1 (later_same _) (λ is. absurd (never_missing c.in_err-cursor-in-Text.field-0.0 (file_named c.args.name.now m.files) f e.fault (λ none. e.absent none (now s.at c.args.disk.now.volume.unit) m s.minidisk.stands) named is))

pub returns-in_ok-cursor-in-Text-clause-cause : goal.returns-in_ok-cursor-in-Text-clause-cause
returns-in_ok-cursor-in-Text-clause-cause g c = λ m f s named n. c.are_lines-lines.ensures.cause s.at f.records s.told_is (subst (λ (u : ℕ). HasLeft (now s.at u) c.in_ok-cursor-in-Text.cursor f.records) (sym c.in_ok-cursor-in-Text.ensures.start.first.unit) (opened_left (g.W.World.told c.args.world.now) c.args.disk.now m c.args.name.now f c.in_ok-cursor-in-Text.cursor s c.in_ok-cursor-in-Text.ensures.records named)) n
