use Rattle.std.proofs.Common.{◌≡◌, ◌∙◌, ◌+◌, ◌<◌, ◌-◌, ◌≤◌, take, drop, length, ap, sym, rules, arith}
use Rattle.std.specs.Prelude.{Ok}
use Rattle.std.proofs.lemmas.Result.{err_from_is_err_and}
use Rattle.exec2_funcs.specs.Calls.{literal_call}
use Rattle.exec2_funcs.specs.Values.{joined}
use Rattle.exec2_funcs.proofs.Joins.{literal_end, literal_first, literal_more, literal_none, literal_past, passed_on}
use Rattle.exec2_funcs.proofs.Passed.{no_memory}
use Rattle.exec2_funcs.proofs.join.literal.Goals as goal

pub returns-in_default : goal.returns-in_default
returns-in_default c = literal_none c.args.words.now c.in_default.len_below ∙ ap Ok (sym (c.take.ensures ∙ c.new.ensures.items))

pub loop-word-init : goal.loop-word-init
loop-word-init c =
    let text : c.in_ok-text.text.items ≡ c.first-item.result = search rules in
    let short : length c.first-item.result ≤ 255 = search rules in
    record { short = rw text short; same = rw text (literal_first c.args.words.now c.first-item.result c.in-len1-up.len_at_least c.first-item.is) }

pub append_word-requires : goal.append_word-requires
append_word-requires c = c.loop-word.invariant.short

pub returns-in_err-text : goal.returns-in_err-text
returns-in_err-text c = no_memory (literal_call c.args.words.now) c.from_residual.result c.from_residual.ensures.1

pub loop-word-preserved : goal.loop-word-preserved
loop-word-preserved c =
    let words = c.args.words.now in
    record {
      short = c.in_ok-append_word.ensures.short;
      same = literal_more (take (length words - 1) (drop 1 words)) c.loop-word.word-index c.loop-word.text.items c.word-item.result c.bytes-in-loop-word.result.now c.append_word.new.text.items
          (joined words) c.loop-word-test.true c.word-item.is c.bytes-in-loop-word.ensures.bytes c.in_ok-append_word.ensures.added c.loop-word.invariant.same;
    }

pub take-requires-2 : goal.take-requires-2
take-requires-2 c = c.loop-word.invariant.short

pub returns-in_err-append_word : goal.returns-in_err-append_word
returns-in_err-append_word c =
    let p = err_from_is_err_and c.from_residual-in_err-append_word.result c.from_residual-in_err-append_word.ensures.1 in
    let words = c.args.words.now in
    let others = take (length words - 1) (drop 1 words) in
    let text = c.loop-word.text.items in
    rw (p.1, p.2) (passed_on (255 < length text + length c.bytes-in-loop-word.result.now + 1) c.in_err-append_word.field-0.0 (literal_call words) c.in_err-append_word.ensures.fault
    (λ long. literal_past words others c.loop-word.word-index text c.word-item.result c.loop-word-test.true c.word-item.is c.loop-word.invariant.same
    (let e = ap length c.bytes-in-loop-word.ensures.bytes in omega (arith, long, e))))

pub returns : goal.returns
returns c =
    let words = c.args.words.now in
    literal_end words (take (length words - 1) (drop 1 words)) c.loop-word.word-index c.loop-word.text.items c.loop-word-test.false c.loop-word.invariant.short c.loop-word.invariant.same
    ∙ ap Ok (sym c.take-2.ensures)
