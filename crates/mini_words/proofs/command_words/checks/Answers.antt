use Rattle.std.proofs.Common.{List, ap, arith, inl, rules}
use Rattle.std.specs.Prelude.{Ok}
use Rattle.std.proofs.lemmas.List.Elements.{All-append}
use Rattle.clap.specs.Words.{Text}
use Rattle.mini_words.specs.Ranges.{IsWithin}
use Rattle.mini_words.specs.Requests.{checks_of}
use Rattle.mini_words.specs.declared.request.Request.{Request}
use Rattle.mini_words.specs.declared.request.Request.TheVariants.{Check}
use Rattle.mini_words.proofs.Each.{all_taken, one_taken}
use Rattle.mini_words.proofs.command_words.checks.Goals as goal

pub loop-image-preserved : goal.loop-image-preserved
loop-image-preserved c = record {
  value = rw c.in_ok-push.ensures.ok (one_taken (λ s. Check (record { name = s.now; size = c.in_ok-size.size })) c.loop-image.checks c.texts-images.result.now
      c.loop-image.image-index _ _ c.loop-image-test.true c.in_ok-check.ensures c.loop-image.invariant.value);
  within = rw c.in_ok-push.ensures.ok (All-append IsWithin c.loop-image.checks _ c.loop-image.invariant.within (rw c.in_ok-check.ensures (search rules)));
}

pub returns-clause-answer : goal.returns-clause-answer
unfolding checks_of
returns-clause-answer c = inl (rw (← c.in_ok-size.ensures, ← c.texts-images.ensures) (ap (λ (requests : List Request). Ok requests)
    (all_taken (λ (name : Text). Check (record { name = name; size = c.in_ok-size.size })) (λ s. s.now) c.loop-image.checks c.texts-images.result.now c.loop-image.image-index (omega arith) c.loop-image.invariant.value)))
