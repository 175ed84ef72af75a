use Rattle.mini_work.proofs.Caused.{file_done, file_fails, later_same, later_then}
use Rattle.std.proofs.Common.{ℕ, ◌+◌, List, ◌++◌, drop, get_or, Ok, Err, ap, refl, subst}
use Rattle.std.proofs.lemmas.List.{drop_all}
use Rattle.std.proofs.lemmas.Result.{err_from_is_err_and}
use Rattle.cms_journal.proofs.Pieces.{grown_same, grown_then}
use Rattle.cms_disk.proofs.RecordsPut.{same_none, same_then}
use Rattle.mini_work.specs.HostRecords.{PutsTo}
use Rattle.mini_work.proofs.Fed.{drop_next}
use Rattle.mini_work.proofs.PutAll.{puts_first, puts_more, puts_skip, puts_stopped}
use Rattle.mini_work.proofs.host_records.put_bytes.Goals as goal

pub loop-place-init : goal.loop-place-init
loop-place-init g c = record {
  to = λ start d m change stamp done more rest goes reads. puts_first start (g.W.World.told c.args.world.now) d m c.args.draft.now change stamp done more c.args.reader.now
      (c.args.bytes.now ++ rest) goes reads;
  same = same_none c.args.draft.now;
  ready = c.requires.ready;
  grown = grown_same _ _ refl;
  later = λ n. later_same _;
}

pub loop-place-preserved : goal.loop-place-preserved
loop-place-preserved g c =
    let told = g.W.World.told in
    let l = c.loop-place in
    let inv = l.invariant in
    let put = c.in_ok-put_next.ensures in
    let bytes = c.args.bytes.now in
    let i = c.skip-place.result in
    record {
      to = λ start d m change stamp done more rest goes reads.
          puts_more start (told l.world) (told c.put_next.new.world) d m c.args.draft.now l.draft c.put_next.new.draft change stamp done more c.skip-place.new.self
          c.put_next.new.reader (drop i bytes ++ rest) (drop (i + 1) bytes ++ rest) (get_or bytes i 0) (Ok tt)
          (puts_skip start (told l.world) d m l.draft change stamp done more l.reader c.skip-place.new.self (drop l.place bytes ++ rest) (drop i bytes ++ rest)
          (inv.to start d m change stamp done more rest goes reads) (c.skip-place.ensures.reads rest))
          (ap (λ (x : List ℕ). x ++ rest) (drop_next bytes i c.skip-place.ensures.few))
          (λ front behind before from.
          put.puts start d m change stamp front behind (drop (i + 1) bytes ++ rest) before from);
      same = same_then c.args.draft.now l.draft c.put_next.new.draft inv.same put.same;
      ready = put.still;
      grown = grown_then (told c.args.world.now) (told l.world) (told c.put_next.new.world) inv.grown put.grown;
      later = λ n. later_then _ _ _ (inv.later n) (put.cause n).later;
    }

pub returns-in_err-put_next-clause-puts : goal.returns-in_err-put_next-clause-puts
returns-in_err-put_next-clause-puts g c =
    let p = err_from_is_err_and c.from_residual.result c.from_residual.ensures.1 in
    let told = g.W.World.told in
    let l = c.loop-place in
    let inv = l.invariant in
    let put = c.in_err-put_next.ensures in
    let bytes = c.args.bytes.now in
    let i = c.skip-place.result in
    let why = c.in_err-put_next.field-0.0 in
    rw (p.1, p.2) (λ start d m change stamp done more rest goes reads.
    puts_stopped start (told c.put_next.new.world) d m c.put_next.new.draft change stamp done more c.put_next.new.reader c.put_next.new.reader
    (drop (i + 1) bytes ++ rest) rest why
    (puts_more start (told l.world) (told c.put_next.new.world) d m c.args.draft.now l.draft c.put_next.new.draft change stamp done more c.skip-place.new.self
    c.put_next.new.reader (drop i bytes ++ rest) (drop (i + 1) bytes ++ rest) (get_or bytes i 0) (Err why)
    (puts_skip start (told l.world) d m l.draft change stamp done more l.reader c.skip-place.new.self (drop l.place bytes ++ rest) (drop i bytes ++ rest)
    (inv.to start d m change stamp done more rest goes reads) (c.skip-place.ensures.reads rest))
    (ap (λ (x : List ℕ). x ++ rest) (drop_next bytes i c.skip-place.ensures.few))
    (λ front behind before from.
    put.puts start d m change stamp front behind (drop (i + 1) bytes ++ rest) before from)))

pub returns-in_err-put_next-clause-same : goal.returns-in_err-put_next-clause-same
returns-in_err-put_next-clause-same g c = same_then c.args.draft.now c.loop-place.draft c.put_next.new.draft c.loop-place.invariant.same c.in_err-put_next.ensures.same

pub returns-in_err-put_next-clause-grown : goal.returns-in_err-put_next-clause-grown
returns-in_err-put_next-clause-grown g c = grown_then _ _ _ c.loop-place.invariant.grown c.in_err-put_next.ensures.grown

pub returns-clause-puts : goal.returns-clause-puts
returns-clause-puts g c = λ start d m change stamp done more rest goes reads.
    let l = c.loop-place in
    let bytes = c.args.bytes.now in
    subst (λ (x : List ℕ). PutsTo start (g.W.World.told l.world) d m l.draft change stamp done more l.reader (x ++ rest)) (drop_all l.place bytes c.loop-place-test.false)
    (l.invariant.to start d m change stamp done more rest goes reads)

pub returns-clause-cause : goal.returns-clause-cause
returns-clause-cause g c = λ n. file_done _ _ _ (c.loop-place.invariant.later n)

pub returns-in_err-put_next-clause-cause : goal.returns-in_err-put_next-clause-cause
returns-in_err-put_next-clause-cause g c = λ n. let x = c.in_err-put_next.ensures.cause n in file_fails _ _ _ c.in_err-put_next.field-0.0 c.from_residual.result (c.loop-place.invariant.later n) c.from_residual.ensures.1 x.later x.failed
