use Rattle.std.proofs.Common.{◌∙◌, ◌+◌, ◌<◌, length, ap, sym, rules, arith}
use Rattle.std.specs.Prelude.{Ok}
use Rattle.std.proofs.lemmas.Result.{err_from_is_err_and}
use Rattle.cms_text.specs.Texts.{Text}
use Rattle.exec2_funcs.specs.Calls.{string_call}
use Rattle.exec2_funcs.proofs.Joins.{continued, continued_empty, continued_first, continued_more, has_none, has_some, nothing_yet, passed_on, string_end, string_past_word}
use Rattle.exec2_funcs.proofs.join.string.Goals as goal
use Rattle.exec2_funcs.proofs.join.string.Goals.{then-is_empty-2+in_ok-append, else-is_empty-2+in_ok-append_word}

pub loop-word-init : goal.loop-word-init
loop-word-init c = record {
  short = nothing_yet c.new-text.result.items c.new-text.ensures.items;
  same = ap (λ (text : Text). continued text c.args.words.now) c.new-text.ensures.items;
}

pub loop-word-preserved-then-is_empty : goal.loop-word-preserved-then-is_empty
loop-word-preserved-then-is_empty c = record {
  short = c.loop-word.invariant.short;
  same = sym (continued_empty c.loop-word.text.items c.args.words.now c.loop-word.word-index c.word-item.result c.loop-word-test.true c.word-item.is
      (has_none c.word-item.result c.bytes-word.result.now c.is_empty.result c.is_empty.ensures c.if-is_empty.true c.bytes-word.ensures.bytes)) ∙ c.loop-word.invariant.same;
}

pub append-requires : goal.append-requires
append-requires c = c.loop-word.invariant.short

pub append_word-requires : goal.append_word-requires
append_word-requires c = c.loop-word.invariant.short

pub take-requires : goal.take-requires
take-requires c = c.loop-word.invariant.short

pub returns-in_err-append_word : goal.returns-in_err-append_word
returns-in_err-append_word c =
    let p = err_from_is_err_and c.from_residual-in_err-append_word.result c.from_residual-in_err-append_word.ensures.1 in
    let words = c.args.words.now in
    let text = c.loop-word.text.items in
    let same = ap length c.bytes-word.ensures.bytes in
    rw (p.1, p.2) (passed_on (255 < length text + length c.bytes-word.result.now + 1) c.in_err-append_word.field-0.0 (string_call words) c.in_err-append_word.ensures.fault
    (λ long. string_past_word words c.loop-word.word-index text c.word-item.result (search rules) c.loop-word-test.true c.word-item.is
    (has_some c.word-item.result c.bytes-word.result.now c.is_empty.result c.is_empty.ensures c.if-is_empty.false c.bytes-word.ensures.bytes) c.loop-word.invariant.same (omega (arith, long, same))))

pub loop-word-preserved : goal.loop-word-preserved
loop-word-preserved c =
    elim c.if-is_empty-2.branch [
      | then-is_empty-2+in_ok-append w ↦ record {
        short = rw w.text-is w.in_ok-append.ensures.short;
        same = rw (w.text-is, w.in_ok-append.ensures.added, c.bytes-word.ensures.bytes)
            (sym (continued_first c.loop-word.text.items c.args.words.now c.loop-word.word-index c.word-item.result (search rules) c.loop-word-test.true c.word-item.is
            (has_some c.word-item.result c.bytes-word.result.now c.is_empty.result c.is_empty.ensures c.if-is_empty.false c.bytes-word.ensures.bytes))
            ∙ c.loop-word.invariant.same);
      }
      | else-is_empty-2+in_ok-append_word w ↦ record {
        short = rw w.text-is w.in_ok-append_word.ensures.short;
        same = rw (w.text-is, w.in_ok-append_word.ensures.added, c.bytes-word.ensures.bytes)
            (sym (continued_more c.loop-word.text.items c.args.words.now c.loop-word.word-index c.word-item.result (search rules) c.loop-word-test.true c.word-item.is
            (has_some c.word-item.result c.bytes-word.result.now c.is_empty.result c.is_empty.ensures c.if-is_empty.false c.bytes-word.ensures.bytes))
            ∙ c.loop-word.invariant.same);
      }
    ]

pub returns : goal.returns
returns c =
    string_end c.args.words.now c.loop-word.word-index c.loop-word.text.items c.loop-word-test.false c.loop-word.invariant.short c.loop-word.invariant.same ∙ ap Ok (sym c.take.ensures)
