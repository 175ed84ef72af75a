use Rattle.std.proofs.Common.{◌≡◌, ◌∙◌, ℕ, ◌+◌, List, ◌++◌, drop, get_or, Err, ap, sym, subst}
use Rattle.std.proofs.lemmas.List.{drop_all}
use Rattle.std.proofs.lemmas.Result.{err_from_is_err_and}
use Rattle.mini_forms.specs.RecordReads.{read_from}
use Rattle.mini_work.specs.HostRecords.{MeasuresTo}
use Rattle.mini_work.specs.Layouts.{sized}
use Rattle.mini_work.proofs.Fed.{counted_same, drop_next, fault_behind, measures_next, measures_none, measures_skip}
use Rattle.mini_work.proofs.host_records.measure_bytes.Goals as goal

pub loop-place-init : goal.loop-place-init
loop-place-init c = measures_none c.args.reader.now c.args.measure.now c.args.bytes.now c.requires.counted

pub measure_next-requires-clause-format : goal.measure_next-requires-clause-format
measure_next-requires-clause-format c = c.requires.format ∙ ap sized (sym (c.skip-place.ensures.size ∙ c.loop-place.invariant.size))

pub measure_next-requires-clause-counted : goal.measure_next-requires-clause-counted
measure_next-requires-clause-counted c =
    counted_same c.loop-place.reader c.skip-place.new.self c.loop-place.measure c.skip-place.ensures.count c.loop-place.invariant.counted

pub loop-place-preserved : goal.loop-place-preserved
loop-place-preserved c =
    let bytes = c.args.bytes.now in
    let l = c.loop-place in
    let k = c.skip-place.result in
    measures_next c.args.reader.now c.skip-place.new.self c.measure_next.new.reader c.args.measure.now l.measure c.measure_next.new.measure
    bytes (drop k bytes) (drop (k + 1) bytes) (get_or bytes k 0)
    (measures_skip c.args.reader.now l.reader c.skip-place.new.self c.args.measure.now l.measure bytes l.place k l.invariant c.skip-place.ensures)
    (drop_next bytes k c.skip-place.ensures.few) c.in_ok-measure_next.ensures.measures

pub returns-in_err-measure_next-clause-fault : goal.returns-in_err-measure_next-clause-fault
returns-in_err-measure_next-clause-fault c =
    let p = err_from_is_err_and c.from_residual.result c.from_residual.ensures.1 in
    let bytes = c.args.bytes.now in
    let l = c.loop-place in
    let k = c.skip-place.result in
    let why = c.in_err-measure_next.field-0.0 in
    let to = measures_skip c.args.reader.now l.reader c.skip-place.new.self c.args.measure.now l.measure bytes l.place k l.invariant c.skip-place.ensures in
    rw (p.1, p.2) (λ rest. fault_behind c.args.reader.now c.skip-place.new.self (bytes ++ rest) (drop k bytes ++ rest) to.came why (to.reads rest)
    (subst (λ (x : List ℕ). read_from c.skip-place.new.self (x ++ rest) ≡ Err why) (sym (drop_next bytes k c.skip-place.ensures.few))
    (c.in_err-measure_next.ensures.fault (drop (k + 1) bytes ++ rest))))

pub returns-clause-measures : goal.returns-clause-measures
returns-clause-measures c =
    let bytes = c.args.bytes.now in
    let i = c.loop-place.place in
    subst (λ (x : List ℕ). MeasuresTo c.args.reader.now c.loop-place.reader c.args.measure.now c.loop-place.measure bytes x)
    (drop_all i bytes c.loop-place-test.false) c.loop-place.invariant
