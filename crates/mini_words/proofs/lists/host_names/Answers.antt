use Rattle.mini_words.proofs.Each.{one_taken}
use Rattle.mini_words.proofs.lists.host_names.Goals as goal

pub loop-word-preserved : goal.loop-word-preserved
loop-word-preserved c = rw c.in_ok-push.ensures.ok (one_taken (λ s. s.now) c.loop-word.names c.args.words.now c.loop-word.word-index _ _ c.loop-word-test.true c.in_ok-of.ensures c.loop-word.invariant)
