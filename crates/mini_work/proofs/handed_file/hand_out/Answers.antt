use Rattle.cms_model.specs.LawsUpdates.{now}
use Rattle.cms_disk.specs.Cursors.{HasLeft}
use Rattle.mini_work.proofs.Caused.{never_missing, cause_done, cause_fails, later_same, later_then}
use Rattle.mini_work.specs.Faults.{fault_of}
use Rattle.std.proofs.Common.{◌≡◌, ◌∙◌, true, false, Ok, Err, refl, sym, subst, ℕ}
use Rattle.std.specs.Option.{ForSome}
use Rattle.std.proofs.lemmas.Result.{IfOk-from_err, err_from_is_err_and}
use Rattle.cms_journal.specs.Journal.{HasBlocks}
use Rattle.cms_journal.specs.Told.{Grown, Told}
use Rattle.cms_journal.proofs.Pieces.{grown_same}
use Rattle.mini_forms.specs.Output.{written}
use Rattle.mini_work.specs.HandedFiles.{Puts, PutsPart, shown_in}
use Rattle.mini_work.proofs.HandedOut.{can_so, cannot_so, file_of, front_none, front_of, hands_all, hands_failed, hands_none, opened_blocks, puts_file, shown_is, opened_left}
use Rattle.mini_work.proofs.handed_file.hand_out.Goals as goal

pub hand_records-handed-requires-clause-blocks : goal.hand_records-handed-requires-clause-blocks
hand_records-handed-requires-clause-blocks g c =
    let cursor = c.in_ok-cursor.cursor in
    subst (λ (t : Told). ForSome t (λ j. HasBlocks j.units cursor.unit cursor.total cursor.bsize)) (sym c.in_ok-can.ensures.told)
    (opened_blocks (g.W.World.told c.args.world.now) c.args.disk.now c.args.name.now cursor c.in_ok-cursor.ensures.start c.requires.blocks)

pub returns-in_err-can : goal.returns-in_err-can
returns-in_err-can g c = record {
  hands = λ m s.
      let p = err_from_is_err_and c.from_residual.result c.from_residual.ensures.1 in
      hands_failed c.args.way _ _ _ _ _ _ p.0 p.1 (front_none c.args.way _ _ _ c.in_err-can.ensures.told);
  grown = grown_same _ _ c.in_err-can.ensures.told;
  files = IfOk-from_err c.from_residual.result _ c.from_residual.ensures.0;
  begun = IfOk-from_err c.from_residual.result _ c.from_residual.ensures.0;
  cause = λ m s. let x = c.in_err-can.ensures.cause m (file_of (g.W.World.told c.args.world.now) c.args.disk.now m c.args.name.now c.args.info.now c.requires.info s).file s (file_of (g.W.World.told c.args.world.now) c.args.disk.now m c.args.name.now c.args.info.now c.requires.info s).named (g.H.Host.faults c.args.host.now) in cause_fails _ _ _ c.in_err-can.field-0.0 c.from_residual.result (later_same _) c.from_residual.ensures.1 x.later x.failed;
}

pub returns-then-not-can : goal.returns-then-not-can
returns-then-not-can g c = record {
  hands = λ m s.
      let told = g.W.World.told in
      let no : c.in_ok-can.can ≡ false = c.if-not-can.true in
      let f = file_of (told c.args.world.now) c.args.disk.now m c.args.name.now c.args.info.now c.requires.info s in
      hands_none c.args.way (told c.args.world.now) (told c.can_show.new.world) (g.H.Host.told c.args.host.now) (shown_in c.args.form m c.args.name.now)
      (shown_is c.args.form m c.args.name.now f.file f.named ∙ cannot_so c.args.form f.file (sym (c.in_ok-can.ensures.shows m f.file s f.named) ∙ no))
      c.in_ok-can.ensures.told;
  grown = grown_same _ _ c.in_ok-can.ensures.told;
  files = refl;
  begun = c.requires.begun;
  cause = λ m s. cause_done _ _ _ (c.in_ok-can.ensures.cause m (file_of (g.W.World.told c.args.world.now) c.args.disk.now m c.args.name.now c.args.info.now c.requires.info s).file s (file_of (g.W.World.told c.args.world.now) c.args.disk.now m c.args.name.now c.args.info.now c.requires.info s).named (g.H.Host.faults c.args.host.now)).later;
}

pub returns-in_err-cursor : goal.returns-in_err-cursor
returns-in_err-cursor g c = record {
  hands = λ m s.
      let p = err_from_is_err_and c.from_residual-in_err-cursor.result c.from_residual-in_err-cursor.ensures.1 in
      hands_failed c.args.way _ _ _ _ _ _ p.0 p.1 (front_none c.args.way _ _ _ c.in_ok-can.ensures.told);
  grown = grown_same _ _ c.in_ok-can.ensures.told;
  files = IfOk-from_err c.from_residual-in_err-cursor.result _ c.from_residual-in_err-cursor.ensures.0;
  begun = IfOk-from_err c.from_residual-in_err-cursor.result _ c.from_residual-in_err-cursor.ensures.0;
  cause = λ m s. let e = c.in_err-cursor.ensures in cause_fails _ _ _ (fault_of c.in_err-cursor.field-0.0) c.from_residual-in_err-cursor.result (c.in_ok-can.ensures.cause m (file_of (g.W.World.told c.args.world.now) c.args.disk.now m c.args.name.now c.args.info.now c.requires.info s).file s (file_of (g.W.World.told c.args.world.now) c.args.disk.now m c.args.name.now c.args.info.now c.requires.info s).named (g.H.Host.faults c.args.host.now)).later c.from_residual-in_err-cursor.ensures.1 (later_same _) (λ is. absurd (never_missing c.in_err-cursor.field-0.0 _ c.requires.info.0 e.fault e.missing c.requires.info.1 is));
}

pub returns-in-Ok : goal.returns-in-Ok
returns-in-Ok g c = record {
  hands = λ m s.
      let told = g.W.World.told in
      let host = g.H.Host.told in
      let old = told c.args.world.now in
      let new = told c.hand_records-handed.new.world in
      let yes : c.in_ok-can.can ≡ true = c.if-not-can.false in
      let f = file_of old c.args.disk.now m c.args.name.now c.args.info.now c.requires.info s in
      let cursor = c.in_ok-cursor.cursor in
      let puts = puts_file {A = Unit {0}} c.args.way c.args.form old new (host c.args.host.now) (host c.hand_records-handed.new.host) c.args.disk.now m c.args.name.now c.args.info.now f cursor
      (Ok (tt {0})) s c.in_ok-cursor.ensures.records c.in_ok-cursor.ensures.start.first.unit
      (λ j records at has. subst (λ (t : Told). Puts {A = Unit {0}} c.args.way t new (host c.args.host.now) (host c.hand_records-handed.new.host) (written c.args.form c.args.info.now.format records) (Ok (tt {0})))
      c.in_ok-can.ensures.told (c.in-Ok.ensures.puts j records (c.in_ok-can.ensures.told ∙ at) has)) in
      hands_all c.args.way old new (host c.args.host.now) (host c.hand_records-handed.new.host) (shown_in c.args.form m c.args.name.now)
      (written c.args.form f.file.format f.file.records)
      (shown_is c.args.form m c.args.name.now f.file f.named ∙ can_so c.args.form f.file (sym (c.in_ok-can.ensures.shows m f.file s f.named) ∙ yes)) puts;
  grown = subst (λ (t : Told). Grown t (g.W.World.told c.hand_records-handed.new.world)) c.in_ok-can.ensures.told c.in-Ok.ensures.grown;
  files = c.in-Ok.ensures.files;
  begun = c.in-Ok.ensures.begun;
  cause = λ m s. cause_done _ _ _ (later_then _ _ _ (c.in_ok-can.ensures.cause m (file_of (g.W.World.told c.args.world.now) c.args.disk.now m c.args.name.now c.args.info.now c.requires.info s).file s (file_of (g.W.World.told c.args.world.now) c.args.disk.now m c.args.name.now c.args.info.now c.requires.info s).named (g.H.Host.faults c.args.host.now)).later (c.in-Ok.ensures.cause s.at (file_of (g.W.World.told c.args.world.now) c.args.disk.now m c.args.name.now c.args.info.now c.requires.info s).file.records (c.in_ok-can.ensures.told ∙ s.told_is) (subst (λ (u : ℕ). HasLeft (now s.at u) c.in_ok-cursor.cursor (file_of (g.W.World.told c.args.world.now) c.args.disk.now m c.args.name.now c.args.info.now c.requires.info s).file.records) (sym c.in_ok-cursor.ensures.start.first.unit) (opened_left (g.W.World.told c.args.world.now) c.args.disk.now m c.args.name.now (file_of (g.W.World.told c.args.world.now) c.args.disk.now m c.args.name.now c.args.info.now c.requires.info s).file c.in_ok-cursor.cursor s c.in_ok-cursor.ensures.records (file_of (g.W.World.told c.args.world.now) c.args.disk.now m c.args.name.now c.args.info.now c.requires.info s).named))).later);
}

pub returns-in-Err : goal.returns-in-Err
returns-in-Err g c = record {
  hands = λ m s.
      let told = g.W.World.told in
      let host = g.H.Host.told in
      let old = told c.args.world.now in
      let new = told c.hand_records-handed.new.world in
      let yes : c.in_ok-can.can ≡ true = c.if-not-can.false in
      let f = file_of old c.args.disk.now m c.args.name.now c.args.info.now c.requires.info s in
      let cursor = c.in_ok-cursor.cursor in
      let puts = puts_file {A = Unit {0}} c.args.way c.args.form old new (host c.args.host.now) (host c.hand_records-handed.new.host) c.args.disk.now m c.args.name.now c.args.info.now f cursor
      (Err c.in-Err.fault) s c.in_ok-cursor.ensures.records c.in_ok-cursor.ensures.start.first.unit
      (λ j records at has. subst (λ (t : Told). PutsPart c.args.way t new (written c.args.form c.args.info.now.format records)) c.in_ok-can.ensures.told
      (c.in-Err.ensures.puts j records (c.in_ok-can.ensures.told ∙ at) has)) in
      front_of c.args.way old new (shown_in c.args.form m c.args.name.now) (written c.args.form f.file.format f.file.records)
      (shown_is c.args.form m c.args.name.now f.file f.named ∙ can_so c.args.form f.file (sym (c.in_ok-can.ensures.shows m f.file s f.named) ∙ yes)) puts;
  grown = subst (λ (t : Told). Grown t (g.W.World.told c.hand_records-handed.new.world)) c.in_ok-can.ensures.told c.in-Err.ensures.grown;
  files = tt;
  begun = tt;
  cause = λ m s. let x = c.in-Err.ensures.cause s.at (file_of (g.W.World.told c.args.world.now) c.args.disk.now m c.args.name.now c.args.info.now c.requires.info s).file.records (c.in_ok-can.ensures.told ∙ s.told_is) (subst (λ (u : ℕ). HasLeft (now s.at u) c.in_ok-cursor.cursor (file_of (g.W.World.told c.args.world.now) c.args.disk.now m c.args.name.now c.args.info.now c.requires.info s).file.records) (sym c.in_ok-cursor.ensures.start.first.unit) (opened_left (g.W.World.told c.args.world.now) c.args.disk.now m c.args.name.now (file_of (g.W.World.told c.args.world.now) c.args.disk.now m c.args.name.now c.args.info.now c.requires.info s).file c.in_ok-cursor.cursor s c.in_ok-cursor.ensures.records (file_of (g.W.World.told c.args.world.now) c.args.disk.now m c.args.name.now c.args.info.now c.requires.info s).named)) in cause_fails _ _ _ c.in-Err.fault (Err c.in-Err.fault) (c.in_ok-can.ensures.cause m (file_of (g.W.World.told c.args.world.now) c.args.disk.now m c.args.name.now c.args.info.now c.requires.info s).file s (file_of (g.W.World.told c.args.world.now) c.args.disk.now m c.args.name.now c.args.info.now c.requires.info s).named (g.H.Host.faults c.args.host.now)).later refl x.later x.failed;
}
