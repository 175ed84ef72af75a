use Rattle.cms_model.specs.Trees.{Image}
use Rattle.mini_work.proofs.Caused.{cause_done, cause_fails, cause_memory, later_same, later_then, read_failed, reads_later}
use Rattle.mini_work.specs.Faults.{fault_of}
use Rattle.std.proofs.Common.{◌≡◌, ◌∙◌, ◌++◌, true, false, List, ℕ, Ok, Err, length, rules, ap, refl, sym, subst, arith}
use Rattle.std.proofs.lemmas.Result.{err_from_is_err_and}
use Rattle.cms_journal.specs.Told.{Grown, Told}
use Rattle.cms_journal.proofs.Pieces.{grown_same, grown_then}
use Rattle.cms_disk.specs.Cursors.{text_of, HasLeft}
use Rattle.mini_forms.specs.Output.{one_written, written}
use Rattle.cms_search.proofs.HandedRecords.{same_then}
use Rattle.mini_work.specs.HandedFiles.{PutsOut, PutsPart}
use Rattle.mini_work.proofs.Handed.{grown_put, puts_all, puts_broken, puts_first, puts_next, puts_stopped}
use Rattle.mini_work.proofs.HandedOut.{blocks_grown, blocks_same, files_put, puts_failed}
use Rattle.mini_work.proofs.Hosted.{same_then as files_then}
use Rattle.mini_work.proofs.ReadOn.{reads_next, same_file, read_sound}
use Rattle.mini_work.proofs.handed_file.hand_records.Goals as goal

pub records-init : goal.records-init
records-init g c = record {
  to = puts_first c.args.way c.args.form c.args.format (g.W.World.told c.args.world.now) (g.H.Host.told c.args.host.now) c.args.cursor.now;
  file = same_file c.args.cursor.now;
  blocks = c.requires.blocks;
  begun = c.requires.begun;
  grown = grown_same _ _ refl;
  files = refl;
  later = later_same _;
}

pub write_record-requires-clause-short : goal.write_record-requires-clause-short
write_record-requires-clause-short g c =
    let yes : c.in_ok-next.field-0 ≡ true = search rules in
    let fits = c.in_ok-next.ensures.text yes in
    let a = c.records.invariant.file.longest in
    let b = c.in_ok-next.ensures.file.longest in
    omega (arith, fits.short, a, b, c.requires.short, ap (λ (t : List ℕ). length t) c.text.ensures)

pub records-preserved : goal.records-preserved
records-preserved g c =
    let told = g.W.World.told in
    let host = g.H.Host.told in
    let l = c.records in
    let inv = l.invariant in
    let n = c.in_ok-next.ensures in
    let first = c.args.cursor.now in
    let next = c.next.new.self in
    let way = c.args.way in
    let yes : c.in_ok-next.field-0 ≡ true = search rules in
    let put = c.in_ok-put_out.ensures in
    let new = told c.put_out.new.world in
    let bytes = c.deref.result.now in
    let is : bytes ≡ one_written c.args.form c.args.format (text_of next) =
    c.deref.ensures.value ∙ c.in_ok-write_record.ensures.ok
    ∙ ap (λ (x : List ℕ). x ++ one_written c.args.form c.args.format c.text.result.now) c.clear.ensures.items
    ∙ ap (one_written c.args.form c.args.format) c.text.ensures in
    let out : PutsOut way (told l.world) new (host l.host) (host c.put_out.new.host) bytes =
    subst (λ (t : Told). PutsOut way t new (host l.host) (host c.put_out.new.host) bytes) n.reads.told put.puts in
    let grown = grown_put {A = Unit {0}} way (told l.world) new (host l.host) (host c.put_out.new.host) bytes (Ok tt) out in
    record {
      to = puts_next way c.args.form c.args.format (told c.args.world.now) (told l.world) new (host c.args.host.now) (host l.host) (host c.put_out.new.host)
          first l.cursor next bytes inv.to
          (reads_next (told l.world) (told l.world) first l.cursor next c.in_ok-next.field-0 true refl inv.file yes n.records) is out;
      file = same_then first l.cursor next inv.file n.file;
      blocks = blocks_grown (told l.world) new next.unit next.total next.bsize grown (blocks_same (told l.world) l.cursor next n.file inv.blocks);
      begun = put.begun;
      grown = grown_then (told c.args.world.now) (told l.world) new inv.grown grown;
      files = files_then (host c.args.host.now) (host l.host) (host c.put_out.new.host) inv.files
          (files_put way (told l.world) new (host l.host) (host c.put_out.new.host) bytes out);
      later = later_then _ _ _ (later_then _ _ _ inv.later (reads_later _ _ _ _ (g.H.Host.faults l.host) n.reads)) put.cause.later;
    }

pub returns-in_err-next-clause-puts : goal.returns-in_err-next-clause-puts
returns-in_err-next-clause-puts g c = λ j records at has.
    let p = err_from_is_err_and c.from_residual.result c.from_residual.ensures.1 in
    let told = g.W.World.told in
    let host = g.H.Host.told in
    let l = c.records in
    let way = c.args.way in
    let part = puts_stopped way c.args.form c.args.format (told c.args.world.now) (told l.world) (host c.args.host.now) (host l.host) c.args.cursor.now l.cursor
    l.invariant.to j records at has in
    puts_failed way _ _ _ _ _ _ p.0 p.1
    (subst (λ (t : Told). PutsPart way (told c.args.world.now) t (written c.args.form c.args.format records)) (sym c.in_err-next.ensures.reads.told) part)

pub returns-in_err-next-clause-grown : goal.returns-in_err-next-clause-grown
returns-in_err-next-clause-grown g c =
    subst (λ (t : Told). Grown (g.W.World.told c.args.world.now) t) (sym c.in_err-next.ensures.reads.told) c.records.invariant.grown

pub returns-in_err-write_record-clause-puts : goal.returns-in_err-write_record-clause-puts
returns-in_err-write_record-clause-puts g c = λ j records at has.
    let p = err_from_is_err_and c.from_residual-in_err-write_record.result c.from_residual-in_err-write_record.ensures.1 in
    let told = g.W.World.told in
    let host = g.H.Host.told in
    let l = c.records in
    let way = c.args.way in
    let part = puts_stopped way c.args.form c.args.format (told c.args.world.now) (told l.world) (host c.args.host.now) (host l.host) c.args.cursor.now l.cursor
    l.invariant.to j records at has in
    puts_failed way _ _ _ _ _ _ p.0 p.1
    (subst (λ (t : Told). PutsPart way (told c.args.world.now) t (written c.args.form c.args.format records)) (sym c.in_ok-next.ensures.reads.told) part)

pub returns-in_err-write_record-clause-grown : goal.returns-in_err-write_record-clause-grown
returns-in_err-write_record-clause-grown g c =
    subst (λ (t : Told). Grown (g.W.World.told c.args.world.now) t) (sym c.in_ok-next.ensures.reads.told) c.records.invariant.grown

pub returns-in_err-put_out-clause-puts : goal.returns-in_err-put_out-clause-puts
returns-in_err-put_out-clause-puts g c = λ j records at has.
    let p = err_from_is_err_and c.from_residual-in_err-put_out.result c.from_residual-in_err-put_out.ensures.1 in
    let told = g.W.World.told in
    let host = g.H.Host.told in
    let l = c.records in
    let inv = l.invariant in
    let n = c.in_ok-next.ensures in
    let next = c.next.new.self in
    let way = c.args.way in
    let yes : c.in_ok-next.field-0 ≡ true = search rules in
    let bytes = c.deref.result.now in
    let is : bytes ≡ one_written c.args.form c.args.format (text_of next) =
    c.deref.ensures.value ∙ c.in_ok-write_record.ensures.ok
    ∙ ap (λ (x : List ℕ). x ++ one_written c.args.form c.args.format c.text.result.now) c.clear.ensures.items
    ∙ ap (one_written c.args.form c.args.format) c.text.ensures in
    puts_failed way _ _ _ _ _ _ p.0 p.1
    (puts_broken way c.args.form c.args.format (told c.args.world.now) (told l.world) (told c.put_out.new.world) (host c.args.host.now) (host l.host)
    c.args.cursor.now l.cursor next bytes inv.to
    (reads_next (told l.world) (told l.world) c.args.cursor.now l.cursor next c.in_ok-next.field-0 true refl inv.file yes n.records) is
    (subst (λ (t : Told). PutsPart way t (told c.put_out.new.world) bytes) n.reads.told c.in_err-put_out.ensures.puts) j records at has)

pub returns-in_err-put_out-clause-grown : goal.returns-in_err-put_out-clause-grown
returns-in_err-put_out-clause-grown g c =
    let told = g.W.World.told in
    let host = g.H.Host.told in
    let n = c.in_ok-next.ensures in
    grown_then (told c.args.world.now) (told c.records.world) (told c.put_out.new.world) c.records.invariant.grown
    (subst (λ (t : Told). Grown t (told c.put_out.new.world)) n.reads.told
    (grown_put {A = Unit {0}} c.args.way (told c.next.new.world) (told c.put_out.new.world) (host c.records.host) (host c.put_out.new.host) c.deref.result.now
    (Err c.in_err-put_out.field-0.0) c.in_err-put_out.ensures.puts))

pub returns-clause-puts : goal.returns-clause-puts
returns-clause-puts g c = λ j records at has.
    let told = g.W.World.told in
    let host = g.H.Host.told in
    let l = c.records in
    let n = c.in_ok-next.ensures in
    let next = c.next.new.self in
    let way = c.args.way in
    let no : c.in_ok-next.field-0 ≡ false = search rules in
    subst (λ (t : Told). PutsOut way (told c.args.world.now) t (host c.args.host.now) (host l.host) (written c.args.form c.args.format records)) (sym n.reads.told)
    (puts_all way c.args.form c.args.format (told c.args.world.now) (told l.world) (host c.args.host.now) (host l.host) c.args.cursor.now l.cursor next l.invariant.to
    (reads_next (told l.world) (told l.world) c.args.cursor.now l.cursor next c.in_ok-next.field-0 false refl l.invariant.file no n.records) j records at has)

pub returns-clause-grown : goal.returns-clause-grown
returns-clause-grown g c =
    subst (λ (t : Told). Grown (g.W.World.told c.args.world.now) t) (sym c.in_ok-next.ensures.reads.told) c.records.invariant.grown

pub returns-in_err-next-clause-cause : goal.returns-in_err-next-clause-cause
returns-in_err-next-clause-cause g c = λ j records at has. let i = c.records.invariant.to j records at has in let e = c.in_err-next.ensures in cause_fails _ _ _ (fault_of c.in_err-next.field-0.0) c.from_residual.result c.records.invariant.later c.from_residual.ensures.1 (reads_later _ _ _ _ (g.H.Host.faults c.records.host) e.reads) (read_failed _ _ c.in_err-next.field-0.0 (g.H.Host.faults c.records.host) e.reads e.fault (read_sound (g.W.World.told c.records.world) (g.W.World.told c.records.world) c.args.cursor.now c.records.cursor c.next.new.self c.in_err-next.field-0.0 refl c.records.invariant.file e.records i.3 i.1 i.4 (subst (λ (im : Image). HasLeft im c.records.cursor i.1) (sym i.5) i.6)))

pub returns-clause-cause : goal.returns-clause-cause
returns-clause-cause g c = λ j records at has. cause_done _ _ _ (later_then _ _ _ c.records.invariant.later (reads_later _ _ _ _ (g.H.Host.faults c.records.host) c.in_ok-next.ensures.reads))

pub returns-in_err-write_record-clause-cause : goal.returns-in_err-write_record-clause-cause
returns-in_err-write_record-clause-cause g c = λ j records at has. cause_memory _ _ c.from_residual-in_err-write_record.result c.from_residual-in_err-write_record.ensures.1 (later_then _ _ _ c.records.invariant.later (reads_later _ _ _ _ (g.H.Host.faults c.records.host) c.in_ok-next.ensures.reads))

pub returns-in_err-put_out-clause-cause : goal.returns-in_err-put_out-clause-cause
returns-in_err-put_out-clause-cause g c = λ j records at has. let x = c.in_err-put_out.ensures.cause in cause_fails _ _ _ c.in_err-put_out.field-0.0 c.from_residual-in_err-put_out.result (later_then _ _ _ c.records.invariant.later (reads_later _ _ _ _ (g.H.Host.faults c.records.host) c.in_ok-next.ensures.reads)) c.from_residual-in_err-put_out.ensures.1 x.later x.failed
