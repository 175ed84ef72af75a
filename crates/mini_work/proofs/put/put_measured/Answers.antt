use Rattle.mini_work.proofs.Caused.{draft_whole, end_fails, end_refuse, end_then, later_same}
use Rattle.mini_work.specs.Causes.{counts}
use Rattle.std.proofs.Common.{◌≡◌, ◌∙◌, Some, true, false, refl, ap, subst, sym}
use Rattle.std.specs.Prelude.{is_some}
use Rattle.std.proofs.lemmas.Result.{err_from_is_err_and}
use Rattle.cms_journal.proofs.Pieces.{grown_same}
use Rattle.cms_model.specs.Changes.{Put}
use Rattle.cms_edf.specs.FileDrafts.{Draft, IsSomeDraft}
use Rattle.cms_held.specs.HeldVolumes.{HeldVolume}
use Rattle.cms_disk.specs.Drafts.{file_with}
use Rattle.mini_host.specs.Files.{content_of}
use Rattle.mini_work.specs.Changes.{IsChange}
use Rattle.mini_work.specs.Output.{name_line}
use Rattle.mini_work.specs.Puts.{IsPut}
use Rattle.mini_work.proofs.Hosted.{bytes_there, open_there, opened_bytes, told_of}
use Rattle.mini_work.proofs.MeasuredFile.{can_draft, has_shape, long_same}
use Rattle.mini_work.proofs.PartsJoined.{change_refused, ended_any}
use Rattle.mini_work.proofs.PutOn.{begins_put, continues_from, draft_refused, file_for, none_over, put_as, same_spare, volume_spare}
use Rattle.mini_work.proofs.UnitStands.{may_still}
use Rattle.mini_work.proofs.put.put_measured.Goals as goal

pub draft-requires-clause-shape : goal.draft-requires-clause-shape
draft-requires-clause-shape g c =
    let m = c.requires.measured in
    let s = c.shape_for-shape.ensures in
    can_draft c.args.put.now.layout m.records c.args.stamp.now c.shape_for-shape.result c.requires.size m.each m.some (s.fits m.records m.measure) c.requires.stamp
    (s.shape m.records m.measure)

pub put_draft-requires-clause-may : goal.put_draft-requires-clause-may
put_draft-requires-clause-may g c =
    may_still _ _ c.args.disk.now c.draft.new.self (grown_same _ _ refl) (same_spare c.args.disk.now c.draft.new.self c.in-Ok.ensures.kept) c.requires.may

pub put_draft-requires-clause-writable : goal.put_draft-requires-clause-writable
put_draft-requires-clause-writable g c = (same_spare c.args.disk.now c.draft.new.self c.in-Ok.ensures.kept).writable ∙ c.in-Ok.ensures.writable

pub put_draft-requires-clause-planned : goal.put_draft-requires-clause-planned
put_draft-requires-clause-planned g c =
    subst (λ (v : HeldVolume). IsSomeDraft v c.in-Ok.draft) (sym (volume_spare c.args.disk.now c.draft.new.self c.in-Ok.ensures.kept))
    c.in-Ok.ensures.some

pub put_draft-requires-clause-opened : goal.put_draft-requires-clause-opened
put_draft-requires-clause-opened g c =
    open_there (g.H.Host.told c.args.host.now) (g.H.Host.told c.open_file.new.host) c.args.file.now c.requires.there c.in_ok-there.ensures.opened

pub returns-in_err-there : goal.returns-in_err-there
returns-in_err-there g c = record {
  goes = λ files is.
      let p = err_from_is_err_and c.from_residual.result c.from_residual.ensures.1 in
      ended_any (IsPut files c.args.put.now c.args.stamp.now c.args.file.now) _ c.args.disk.now p.0 _ p.1;
  may = c.requires.may;
  files = c.in_err-there.ensures.files;
  writable = refl;
  cause = λ may. let at = counts g.W.World g.H.Host in let x = c.in_err-there.ensures.cause (at c.args.world.now c.args.host.now) in end_fails _ _ _ c.in_err-there.field-0.0 c.from_residual.result (later_same _) c.from_residual.ensures.1 x.later x.failed;
}

-- it was there before
pub returns-then-not-there : goal.returns-then-not-there
returns-then-not-there g c = record {
  goes = λ files is.
      let host = g.H.Host.told in
      let h = told_of (host c.args.host.now) files is in
      let b = bytes_there (host c.args.host.now) c.args.file.now files c.requires.there is in
      let no : c.in_ok-there.there ≡ false = c.if-not-there.true in
      let here : content_of c.args.file.now h.0.files ≡ Some b.0 = ap (content_of c.args.file.now) h.2 ∙ b.1 in
      let yes : c.in_ok-there.there ≡ true = c.in_ok-there.ensures.there h.0 h.1 ∙ ap is_some here in
      absurd (let e : true ≡ false = sym yes ∙ no in cc e);
  may = c.requires.may;
  files = c.refuse.ensures.files ∙ c.in_ok-there.ensures.files;
  writable = refl;
  cause = λ may. let at = counts g.W.World g.H.Host in end_then _ _ _ _ (c.in_ok-there.ensures.cause (at c.args.world.now c.args.host.now)).later (end_refuse _ _ c.refuse.result (c.refuse.ensures.cause (at c.args.world.now c.open_file.new.host)) c.refuse.ensures.status);
}

pub returns-in-Ok : goal.returns-in-Ok
returns-in-Ok g c = record {
  goes = λ files is.
      let told = g.W.World.told in
      let host = g.H.Host.told in
      let old = told c.args.world.now in
      let d = c.args.disk.now in
      let e = c.draft.new.self in
      let put = c.args.put.now in
      let stamp = c.args.stamp.now in
      let file = c.args.file.now in
      let name = c.args.name.now in
      let measured = c.requires.measured in
      let records = measured.records in
      let shape = c.shape_for-shape.result in
      let s = c.shape_for-shape.ensures.shape records measured.measure in
      let h = told_of (host c.args.host.now) files is in
      let b = bytes_there (host c.args.host.now) file files c.requires.there is in
      let o = opened_bytes (host c.args.host.now) (host c.open_file.new.host) file b.0 files is b.1 c.in_ok-there.ensures.opened in
      let are = measured.are h.0 b.0 h.1 (ap (content_of file) h.2 ∙ b.1) in
      let volume = volume_spare d e c.in-Ok.ensures.kept in
      let f = file_with name shape records in
      put_as files put stamp file old (told c.put_draft.new.world) d c.put_draft.new.disk f c.put_draft.result
      (continues_from (IsChange (Put f) stamp put.says (name_line name)) old (told c.put_draft.new.world) d e c.put_draft.new.disk c.put_draft.result volume
      (c.put_draft.ensures.goes o.0 b.0 (Put f) stamp records o.1 o.2 are
      (begins_put old d e name shape stamp c.in-Ok.draft records volume c.in-Ok.ensures.begins (has_shape put.layout records stamp shape measured.each s)
      (long_same put.layout records stamp shape s))))
      (λ m st. file_for files put file b.0 stamp m name shape records c.requires.named s (c.shape_for-shape.ensures.number records measured.measure old m st) b.1 are
      (none_over old d m name put.replaces c.requires.over st));
  may = c.put_draft.ensures.may;
  files = c.put_draft.ensures.files ∙ c.in_ok-there.ensures.files;
  writable = c.put_draft.ensures.writable ∙ (same_spare c.args.disk.now c.draft.new.self c.in-Ok.ensures.kept).writable;
  cause = λ may. let at = counts g.W.World g.H.Host in end_then _ _ _ _ (c.in_ok-there.ensures.cause (at c.args.world.now c.args.host.now)).later c.put_draft.ensures.cause;
}

pub returns-in-Err : goal.returns-in-Err
returns-in-Err g c = record {
  goes = λ files is.
      let told = g.W.World.told in
      let host = g.H.Host.told in
      let old = told c.args.world.now in
      let d = c.args.disk.now in
      let e = c.draft.new.self in
      let put = c.args.put.now in
      let stamp = c.args.stamp.now in
      let file = c.args.file.now in
      let name = c.args.name.now in
      let measured = c.requires.measured in
      let records = measured.records in
      let shape = c.shape_for-shape.result in
      let s = c.shape_for-shape.ensures.shape records measured.measure in
      let h = told_of (host c.args.host.now) files is in
      let b = bytes_there (host c.args.host.now) file files c.requires.there is in
      let are = measured.are h.0 b.0 h.1 (ap (content_of file) h.2 ∙ b.1) in
      let f = file_with name shape records in
      put_as files put stamp file old old d e f c.refuse_change.result
      (change_refused (Put f) stamp put.says (name_line name) old old d e c.in-Err.why c.refuse_change.result c.refuse_change.ensures.refused
      (draft_refused Draft old d e name shape stamp records c.in-Err.why c.requires.may s.counts c.in-Err.ensures.fault c.in-Err.ensures.answers)
      (λ sure. c.in-Err.ensures.kept) (same_spare d e c.in-Err.ensures.kept))
      (λ m st. file_for files put file b.0 stamp m name shape records c.requires.named s (c.shape_for-shape.ensures.number records measured.measure old m st) b.1 are
      (none_over old d m name put.replaces c.requires.over st));
  may = may_still _ _ c.args.disk.now c.draft.new.self (grown_same _ _ refl) (same_spare c.args.disk.now c.draft.new.self c.in-Err.ensures.kept) c.requires.may;
  files = c.refuse_change.ensures.files ∙ c.in_ok-there.ensures.files;
  writable = (same_spare c.args.disk.now c.draft.new.self c.in-Err.ensures.kept).writable;
  cause = λ may. let at = counts g.W.World g.H.Host in c.refuse_change.ensures.cause (at c.args.world.now c.args.host.now) _ _ (c.in_ok-there.ensures.cause (at c.args.world.now c.args.host.now)).later (λ is. absurd (draft_whole c.args.disk.now c.args.name.now c.shape_for-shape.result c.in-Err.why c.in-Err.ensures.fault may is));
}
