use Rattle.std.proofs.Common.{◌∙◌, arith}
use Rattle.mini_words.proofs.Codes.{all_coded, code_added, code_lacks, nothing_behind}
use Rattle.mini_words.proofs.names.codes.Goals as goal

pub loop-byte-init : goal.loop-byte-init
loop-byte-init c = record { short = omega arith; count = cc; value = rw c.new-codes.ensures (nothing_behind c.args.word.now) }

pub returns-in-None : goal.returns-in-None
returns-in-None c = code_lacks c.loop-byte.codes.items c.args.word.now c.loop-byte.byte-index c.loop-byte-test.true c.in-None.ensures c.loop-byte.invariant.value

pub loop-byte-preserved : goal.loop-byte-preserved
loop-byte-preserved c =
    let goes = code_added c.loop-byte.codes.items c.args.word.now c.loop-byte.byte-index c.in-Some.code c.loop-byte-test.true c.in-Some.ensures in
    record { short = c.loop-byte.invariant.short; count = omega arith; value = rw (c.push.ensures.items, c.fold_upper.ensures) (c.loop-byte.invariant.value ∙ goes) }

pub returns : goal.returns
returns c = all_coded c.loop-byte.codes.items c.args.word.now c.loop-byte.byte-index (omega arith) c.loop-byte.invariant.short c.loop-byte.invariant.value
