use Rattle.std.proofs.lemmas.Result.{err_from_is_err_and}
use Rattle.cms_session.proofs.NucleusCalls.{words_typed}
use Rattle.cms_search.proofs.Lined.{all_said, none_said, one_off, one_said}
use Rattle.cms_session.proofs.nucleus.say_words.Goals as goal

pub loop-place-init : goal.loop-place-init
loop-place-init g c = none_said _ _

pub loop-place-preserved : goal.loop-place-preserved
loop-place-preserved g c =
    let value = c.as_bytes.ensures.value in
    let said = rw value at c.in_ok-say.ensures in
    one_said _ _ _ _ c.loop-place.place _ _ c.word.ensures c.loop-place.invariant said

pub returns-in_err-say : goal.returns-in_err-say
returns-in_err-say g c =
    let p = err_from_is_err_and c.from_residual.result c.from_residual.ensures.1 in
    let value = c.as_bytes.ensures.value in
    let said = rw value at c.in_err-say.ensures in
    rw (p.1, p.2) (one_off _ _ _ _ c.loop-place.place _ _ c.word.ensures c.loop-place.invariant said)

pub returns : goal.returns
returns g c = all_said _ _ _ c.loop-place.place tt (words_typed _ c.len-place-end.result c.loop-place.place c.len-place-end.ensures.length c.loop-place-test.false) c.loop-place.invariant
