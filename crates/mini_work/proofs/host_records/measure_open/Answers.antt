use Rattle.mini_work.proofs.Caused.{file_done, file_fails, file_stops, host_later, later_then, no_counts}
use Rattle.std.proofs.Common.{◌≡◌, ◌∙◌, ap, refl, sym, subst, arith}
use Rattle.std.proofs.lemmas.Result.{err_from_is_err_and}
use Rattle.mini_forms.specs.RecordReads.{Reader}
use Rattle.mini_work.specs.Layouts.{sized}
use Rattle.mini_work.proofs.Hosted.{same_then}
use Rattle.mini_work.proofs.MeasuredFile.{MeasuredTo, ended_fault, format_is, measured_all, measured_fault, measured_first, measured_more}
use Rattle.mini_work.specs.declared.host_records.FileFault.TheVariants as file
use Rattle.mini_work.proofs.host_records.measure_open.Goals as goal

pub reads-init : goal.reads-init
reads-init g c = record {
  to = subst (λ (s : Reader). MeasuredTo (g.H.Host.told c.args.host.now) (g.H.Host.told c.args.host.now) c.args.layout s c.new-measure.result) (sym c.requires.fresh)
      (measured_first (g.H.Host.told c.args.host.now) c.args.layout c.new-measure.result (c.new-measure.ensures.measured _) c.new-measure.ensures.none);
  files = refl;
  opened = c.requires.opened;
  later = omega arith;
}

pub measure_bytes-requires-clause-format : goal.measure_bytes-requires-clause-format
measure_bytes-requires-clause-format g c =
    c.form_of-format.ensures.format ∙ (format_is c.args.layout ∙ ap sized (sym c.reads.invariant.to.size))

pub measure_bytes-requires-clause-counted : goal.measure_bytes-requires-clause-counted
measure_bytes-requires-clause-counted g c = c.reads.invariant.to.counted

pub measure_last-requires-clause-format : goal.measure_last-requires-clause-format
measure_last-requires-clause-format g c =
    c.form_of-format.ensures.format ∙ (format_is c.args.layout ∙ ap sized (sym c.reads.invariant.to.size))

pub measure_last-requires-clause-counted : goal.measure_last-requires-clause-counted
measure_last-requires-clause-counted g c = c.reads.invariant.to.counted

pub reads-preserved : goal.reads-preserved
reads-preserved g c =
    let host = g.H.Host.told in
    let inv = c.reads.invariant in
    let more = c.in_ok-count.ensures in
    record {
      to = measured_more (host c.args.host.now) (host c.reads.host) (host c.read_more.new.host) c.args.layout c.reads.reader c.measure_bytes.new.reader
          c.reads.measure c.measure_bytes.new.measure c.in_ok-count.count c.read_more.new.into c.front.result.now inv.to more.reads c.front.ensures
          c.in_ok-measure_bytes.ensures.measures;
      files = same_then (host c.args.host.now) (host c.reads.host) (host c.read_more.new.host) inv.files more.files;
      opened = more.opened;
      later = omega (arith, inv.later, (more.cause no_counts).later.host);
    }

pub returns-in_err-count-clause-files : goal.returns-in_err-count-clause-files
returns-in_err-count-clause-files g c = same_then _ _ _ c.reads.invariant.files c.in_err-count.ensures.files

pub returns-in_err-measure_bytes-clause-measures : goal.returns-in_err-measure_bytes-clause-measures
returns-in_err-measure_bytes-clause-measures g c =
    let p = err_from_is_err_and c.from_residual-in_err-measure_bytes.result c.from_residual-in_err-measure_bytes.ensures.1 in
    let host = g.H.Host.told in
    rw (p.1, p.2)
    (measured_fault (host c.args.host.now) (host c.reads.host) (host c.read_more.new.host) c.args.layout c.reads.reader c.reads.measure c.in_ok-count.count
    c.read_more.new.into c.front.result.now c.in_err-measure_bytes.field-0.0 c.reads.invariant.to c.in_ok-count.ensures.reads c.front.ensures
    c.in_err-measure_bytes.ensures.fault)

pub returns-in_err-measure_bytes-clause-files : goal.returns-in_err-measure_bytes-clause-files
returns-in_err-measure_bytes-clause-files g c = same_then _ _ _ c.reads.invariant.files c.in_ok-count.ensures.files

pub returns-in_err-measure_last-clause-measures : goal.returns-in_err-measure_last-clause-measures
returns-in_err-measure_last-clause-measures g c =
    let p = err_from_is_err_and c.from_residual-in_err-measure_last.result c.from_residual-in_err-measure_last.ensures.1 in
    let host = g.H.Host.told in
    let none : c.in_ok-count.count ≡ 0 = omega arith in
    rw (p.1, p.2)
    (ended_fault (host c.args.host.now) (host c.reads.host) (host c.read_more.new.host) c.args.layout c.reads.reader c.reads.measure c.in_ok-count.count
    c.read_more.new.into c.in_err-measure_last.field-0.0 c.reads.invariant.to c.in_ok-count.ensures.reads none c.in_err-measure_last.ensures.fault)

pub returns-in_err-measure_last-clause-files : goal.returns-in_err-measure_last-clause-files
returns-in_err-measure_last-clause-files g c = same_then _ _ _ c.reads.invariant.files c.in_ok-count.ensures.files

pub returns-clause-measures : goal.returns-clause-measures
returns-clause-measures g c =
    let host = g.H.Host.told in
    let none : c.in_ok-count.count ≡ 0 = omega arith in
    measured_all (host c.args.host.now) (host c.reads.host) (host c.read_more.new.host) c.args.layout c.reads.reader c.reads.measure c.measure_last.new.measure
    c.in_ok-count.count c.read_more.new.into c.reads.invariant.to c.in_ok-count.ensures.reads none c.in_ok-measure_last.ensures.measures

pub returns-clause-files : goal.returns-clause-files
returns-clause-files g c = same_then _ _ _ c.reads.invariant.files c.in_ok-count.ensures.files

pub returns-in_err-count-clause-cause : goal.returns-in_err-count-clause-cause
returns-in_err-count-clause-cause g c = λ k. let x = c.in_err-count.ensures.cause k in file_fails _ _ _ (file.Fault c.in_err-count.field-0.0) c.from_residual.result (host_later k _ _ c.reads.invariant.later) c.from_residual.ensures.1 x.later x.failed

pub returns-in_err-measure_bytes-clause-cause : goal.returns-in_err-measure_bytes-clause-cause
returns-in_err-measure_bytes-clause-cause g c = λ k. file_stops _ _ (file.Form c.in_err-measure_bytes.field-0.0) c.from_residual-in_err-measure_bytes.result c.from_residual-in_err-measure_bytes.ensures.1 refl (later_then _ _ _ (host_later k _ _ c.reads.invariant.later) (c.in_ok-count.ensures.cause k).later)

pub returns-in_err-measure_last-clause-cause : goal.returns-in_err-measure_last-clause-cause
returns-in_err-measure_last-clause-cause g c = λ k. file_stops _ _ (file.Form c.in_err-measure_last.field-0.0) c.from_residual-in_err-measure_last.result c.from_residual-in_err-measure_last.ensures.1 refl (later_then _ _ _ (host_later k _ _ c.reads.invariant.later) (c.in_ok-count.ensures.cause k).later)

pub returns-clause-cause : goal.returns-clause-cause
returns-clause-cause g c = λ k. file_done _ _ _ (later_then _ _ _ (host_later k _ _ c.reads.invariant.later) (c.in_ok-count.ensures.cause k).later)
