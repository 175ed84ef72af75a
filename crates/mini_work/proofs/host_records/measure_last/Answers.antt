use Rattle.std.proofs.Common.{◌≡◌, ◌∙◌, ℕ, List, ◌∷◌, ◌++◌, [], rules, sym, subst, arith, true, false}
use Rattle.std.proofs.lemmas.Result.{err_from_is_err_and}
use Rattle.cms_names.specs.declared.name.Format.{Format}
use Rattle.cms_copyfile.specs.Measures.{measured}
use Rattle.mini_work.proofs.Fed.{end_fault, last_more, last_still}
use Rattle.mini_work.proofs.host_records.measure_last.Goals as goal

pub record-requires : goal.record-requires
record-requires c = let whole : c.in_ok-whole.whole ≡ true = search rules in sym c.in_ok-whole.ensures.1 ∙ whole

pub add-requires-clause-count : goal.add-requires-clause-count
add-requires-clause-count c = omega (arith, c.requires.counted.count, c.requires.counted.few)

pub add-requires-clause-bytes : goal.add-requires-clause-bytes
add-requires-clause-bytes c = omega (arith, c.requires.counted.count, c.requires.counted.few, c.requires.counted.bytes)

pub returns-in_err-whole-clause-fault : goal.returns-in_err-whole-clause-fault
returns-in_err-whole-clause-fault c =
    let p = err_from_is_err_and c.from_residual.result c.from_residual.ensures.1 in
    rw (p.1, p.2) (end_fault c.args.reader.now c.in_err-whole.field-0.0 c.in_err-whole.ensures)

pub returns-then-not-whole-clause-measures : goal.returns-then-not-whole-clause-measures
returns-then-not-whole-clause-measures c =
    let fresh : c.in_ok-whole.whole ≡ false = search rules in
    let e = c.in_ok-whole.ensures in
    last_still c.args.reader.now c.end.new.self c.args.measure.now c.requires.counted e.0 (sym e.1 ∙ fresh)

pub returns-clause-measures : goal.returns-clause-measures
returns-clause-measures c =
    let whole : c.in_ok-whole.whole ≡ true = search rules in
    let e = c.in_ok-whole.ensures in
    let r = c.record.ensures in
    let a = c.add.ensures in
    last_more c.args.reader.now c.end.new.self c.args.measure.now c.add.new.self c.record.result.now e.0 (sym e.1 ∙ whole) r.bytes r.length r.short
    (record {
      measure = subst (λ (f : Format). (records : List (List ℕ)) → c.args.measure.now ≡ measured f records
          → c.add.new.self ≡ measured f (records ++ c.record.result.now ∷ [])) c.requires.format a.measured;
      one = a.one;
      few = a.few;
    })
