use Rattle.std.proofs.Common.{◌∙◌, ◌+◌, ◌++◌, ◌<◌, length, ap, sym, arith}
use Rattle.std.specs.Prelude.{Ok}
use Rattle.std.specs.List.{concat}
use Rattle.std.proofs.lemmas.Result.{err_from_is_err_and}
use Rattle.cms_text.specs.Texts.{Text}
use Rattle.exec2_funcs.specs.Calls.{concat_call}
use Rattle.exec2_funcs.proofs.Joins.{concat_end, concat_more, concat_past, nothing_yet, passed_on}
use Rattle.exec2_funcs.proofs.join.concat.Goals as goal

pub loop-word-init : goal.loop-word-init
loop-word-init c = record {
  short = nothing_yet c.new-text.result.items c.new-text.ensures.items;
  same = ap (λ (text : Text). text ++ concat c.args.words.now) c.new-text.ensures.items;
}

pub append-requires : goal.append-requires
append-requires c = c.loop-word.invariant.short

pub returns-in_err-append : goal.returns-in_err-append
returns-in_err-append c =
    let p = err_from_is_err_and c.from_residual.result c.from_residual.ensures.1 in
    let words = c.args.words.now in
    let text = c.loop-word.text.items in
    rw (p.1, p.2) (passed_on (255 < length text + length c.bytes.result.now) c.in_err-append.field-0.0 (concat_call words) c.in_err-append.ensures.fault
    (λ long. concat_past words c.loop-word.word-index text c.word-item.result c.loop-word-test.true c.word-item.is c.loop-word.invariant.same
    (let e = ap length c.bytes.ensures.bytes in omega (arith, long, e))))

pub loop-word-preserved : goal.loop-word-preserved
loop-word-preserved c = record {
  short = c.in_ok-append.ensures.short;
  same = concat_more c.args.words.now c.loop-word.word-index c.loop-word.text.items c.word-item.result c.bytes.result.now c.append.new.text.items c.loop-word-test.true c.word-item.is
      c.bytes.ensures.bytes c.in_ok-append.ensures.added c.loop-word.invariant.same;
}

pub take-requires : goal.take-requires
take-requires c = c.loop-word.invariant.short

pub returns : goal.returns
returns c =
    concat_end c.args.words.now c.loop-word.word-index c.loop-word.text.items c.loop-word-test.false c.loop-word.invariant.short c.loop-word.invariant.same ∙ ap Ok (sym c.take.ensures)
