use Rattle.mini_work.specs.Causes.{counts}
use Rattle.mini_work.proofs.Caused.{file_fails, file_then, later_same, later_then}
use Rattle.std.proofs.Common.{◌≡◌, Ok, Err, refl, arith}
use Rattle.std.proofs.lemmas.Result.{err_from_is_err_and}
use Rattle.cms_journal.proofs.Pieces.{grown_same, grown_then}
use Rattle.cms_disk.proofs.RecordsPut.{same_none, same_then as drafts_then}
use Rattle.mini_work.proofs.Hosted.{same_then}
use Rattle.mini_work.proofs.PutAll.{on_first, on_given, on_last, on_more, on_stopped}
use Rattle.mini_work.specs.declared.host_records.FileFault.TheVariants as file
use Rattle.mini_work.proofs.host_records.put_open.Goals as goal

pub reads-init : goal.reads-init
reads-init g c = record {
  to = λ start d m change stamp records h bytes goes told left are.
      on_first start (g.W.World.told c.args.world.now) d m c.args.draft.now change stamp records c.args.reader.now h (g.H.Host.told c.args.host.now) bytes goes told left are;
  same = same_none c.args.draft.now;
  ready = c.requires.ready;
  grown = grown_same _ _ refl;
  files = refl;
  opened = c.requires.opened;
  later = later_same _;
}

pub reads-preserved : goal.reads-preserved
reads-preserved g c =
    let told = g.W.World.told in
    let host = g.H.Host.told in
    let l = c.reads in
    let inv = l.invariant in
    let more = c.in_ok-count.ensures in
    let put = c.in_ok-put_bytes.ensures in
    record {
      to = λ start d m change stamp records h bytes goes at left are.
          on_more start (told l.world) (told c.put_bytes.new.world) d m l.draft c.put_bytes.new.draft change stamp records l.reader c.put_bytes.new.reader h (host l.host)
          (host c.read_more.new.host) c.in_ok-count.count c.read_more.new.into c.front.result.now (Ok (tt {0})) (inv.to start d m change stamp records h bytes goes at left are)
          more.reads c.front.ensures
          (λ done behind rest before from. put.puts start d m change stamp done behind rest before from);
      same = drafts_then c.args.draft.now l.draft c.put_bytes.new.draft inv.same put.same;
      ready = put.still;
      grown = grown_then (told c.args.world.now) (told l.world) (told c.put_bytes.new.world) inv.grown put.grown;
      files = same_then (host c.args.host.now) (host l.host) (host c.read_more.new.host) inv.files more.files;
      opened = more.opened;
      later = later_then _ _ _ (later_then _ _ _ inv.later (more.cause (counts g.W.World g.H.Host l.world l.host)).later) (put.cause (g.H.Host.faults c.read_more.new.host)).later;
    }

pub returns-in_err-count-clause-puts : goal.returns-in_err-count-clause-puts
returns-in_err-count-clause-puts g c =
    let p = err_from_is_err_and c.from_residual.result c.from_residual.ensures.1 in
    let l = c.reads in
    rw (p.1, p.2) (λ start d m change stamp records h bytes goes at left are.
    on_given start (g.W.World.told l.world) d m l.draft change stamp records l.reader h (g.H.Host.told l.host) (l.invariant.to start d m change stamp records h bytes goes at left are))

pub returns-in_err-count-clause-files : goal.returns-in_err-count-clause-files
returns-in_err-count-clause-files g c = same_then _ _ _ c.reads.invariant.files c.in_err-count.ensures.files

pub returns-in_err-put_bytes-clause-puts : goal.returns-in_err-put_bytes-clause-puts
returns-in_err-put_bytes-clause-puts g c =
    let p = err_from_is_err_and c.from_residual-in_err-put_bytes.result c.from_residual-in_err-put_bytes.ensures.1 in
    let told = g.W.World.told in
    let host = g.H.Host.told in
    let l = c.reads in
    let inv = l.invariant in
    let why = c.in_err-put_bytes.field-0.0 in
    rw (p.1, p.2) (λ start d m change stamp records h bytes goes at left are.
    on_stopped start (told c.put_bytes.new.world) d m c.put_bytes.new.draft change stamp records c.put_bytes.new.reader h (host c.read_more.new.host) why
    (on_more start (told l.world) (told c.put_bytes.new.world) d m l.draft c.put_bytes.new.draft change stamp records l.reader c.put_bytes.new.reader h (host l.host)
    (host c.read_more.new.host) c.in_ok-count.count c.read_more.new.into c.front.result.now (Err why) (inv.to start d m change stamp records h bytes goes at left are)
    c.in_ok-count.ensures.reads c.front.ensures
    (λ done behind rest before from.
    c.in_err-put_bytes.ensures.puts start d m change stamp done behind rest before from)))

pub returns-in_err-put_bytes-clause-same : goal.returns-in_err-put_bytes-clause-same
returns-in_err-put_bytes-clause-same g c = drafts_then c.args.draft.now c.reads.draft c.put_bytes.new.draft c.reads.invariant.same c.in_err-put_bytes.ensures.same

pub returns-in_err-put_bytes-clause-grown : goal.returns-in_err-put_bytes-clause-grown
returns-in_err-put_bytes-clause-grown g c = grown_then _ _ _ c.reads.invariant.grown c.in_err-put_bytes.ensures.grown

pub returns-in_err-put_bytes-clause-files : goal.returns-in_err-put_bytes-clause-files
returns-in_err-put_bytes-clause-files g c = same_then _ _ _ c.reads.invariant.files c.in_ok-count.ensures.files

pub returns-clause-puts : goal.returns-clause-puts
returns-clause-puts g c = λ start d m change stamp records h bytes goes at left are.
    let told = g.W.World.told in
    let host = g.H.Host.told in
    let l = c.reads in
    let inv = l.invariant in
    let none : c.in_ok-count.count ≡ 0 = omega arith in
    on_last start (told l.world) (told c.put_last.new.world) d m l.draft c.put_last.new.draft change stamp records l.reader h (host l.host) (host c.read_more.new.host)
    c.in_ok-count.count c.read_more.new.into c.put_last.result (inv.to start d m change stamp records h bytes goes at left are) c.in_ok-count.ensures.reads none
    (λ done behind before from. c.put_last.ensures.puts start d m change stamp done behind before from)

pub returns-clause-same : goal.returns-clause-same
returns-clause-same g c = drafts_then c.args.draft.now c.reads.draft c.put_last.new.draft c.reads.invariant.same c.put_last.ensures.same

pub returns-clause-grown : goal.returns-clause-grown
returns-clause-grown g c = grown_then _ _ _ c.reads.invariant.grown c.put_last.ensures.grown

pub returns-clause-files : goal.returns-clause-files
returns-clause-files g c = same_then _ _ _ c.reads.invariant.files c.in_ok-count.ensures.files

pub returns-in_err-count-clause-cause : goal.returns-in_err-count-clause-cause
returns-in_err-count-clause-cause g c = let at = counts g.W.World g.H.Host in let x = c.in_err-count.ensures.cause (at c.reads.world c.reads.host) in file_fails _ _ _ (file.Fault c.in_err-count.field-0.0) c.from_residual.result c.reads.invariant.later c.from_residual.ensures.1 x.later x.failed

pub returns-clause-cause : goal.returns-clause-cause
returns-clause-cause g c = let at = counts g.W.World g.H.Host in file_then _ _ _ _ (later_then _ _ _ c.reads.invariant.later (c.in_ok-count.ensures.cause (at c.reads.world c.reads.host)).later) (c.put_last.ensures.cause (g.H.Host.faults c.read_more.new.host))

pub returns-in_err-put_bytes-clause-cause : goal.returns-in_err-put_bytes-clause-cause
returns-in_err-put_bytes-clause-cause g c = let at = counts g.W.World g.H.Host in let x = c.in_err-put_bytes.ensures.cause (g.H.Host.faults c.read_more.new.host) in file_fails _ _ _ c.in_err-put_bytes.field-0.0 c.from_residual-in_err-put_bytes.result (later_then _ _ _ c.reads.invariant.later (c.in_ok-count.ensures.cause (at c.reads.world c.reads.host)).later) c.from_residual-in_err-put_bytes.ensures.1 x.later x.failed
