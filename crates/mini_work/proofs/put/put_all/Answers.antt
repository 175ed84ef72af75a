use Rattle.mini_work.proofs.Caused.{end_both, end_done, end_said, end_then, later_same}
use Rattle.std.proofs.Common.{take, refl, ◌∙◌}
use Rattle.mini_work.specs.CommandActs.{Goes}
use Rattle.mini_work.specs.Puts.{IsPut}
use Rattle.mini_work.proofs.Hosted.{files_then, same_then}
use Rattle.mini_work.proofs.Listed.{goes_done, goes_next}
use Rattle.mini_work.proofs.PartsJoined.{goes_cut, goes_none}
use Rattle.mini_work.proofs.PutOn.{word_at}
use Rattle.mini_work.proofs.put.put_all.Goals as goal

pub loop-word-init : goal.loop-word-init
loop-word-init g c = record {
  may = c.requires.may;
  files = refl;
  goes = λ files there. goes_none (IsPut files c.args.put.now c.args.stamp.now) _ c.args.disk.now;
  writable = refl;
  cause = λ may. end_done _ _ (later_same _);
}

pub returns-clause-goes : goal.returns-clause-goes
returns-clause-goes g c = λ files there.
    goes_done (IsPut files c.args.put.now c.args.stamp.now) c.args.words.now c.loop-word.word-index c.loop-word.status _ _ c.args.disk.now c.loop-word.disk
    c.loop-word-test.false (c.loop-word.invariant.goes files there)

pub loop-word-preserved : goal.loop-word-preserved
loop-word-preserved g c =
    let told = g.W.World.told in
    let host = g.H.Host.told in
    let words = c.args.words.now in
    let k = c.loop-word.word-index in
    let l = c.loop-word in
    record {
      may = c.in-Ok.ensures.may;
      files = same_then (host c.args.host.now) (host l.host) (host c.put_one.new.host) l.invariant.files c.in-Ok.ensures.files;
      goes = λ files there.
          goes_next (IsPut files c.args.put.now c.args.stamp.now) words k c.text.result.now l.status c.in-Ok.one c.and-status.result (told c.args.world.now) (told l.world)
          (told c.put_one.new.world) c.args.disk.now l.disk c.put_one.new.disk (word_at words k _ c.text.result.now c.loop-word-test.true c.word-item.is c.text.ensures)
          (l.invariant.goes files there)
          (c.in-Ok.ensures.goes files (files_then (host c.args.host.now) (host l.host) files l.invariant.files there)) c.and-status.ensures;
      writable = c.in-Ok.ensures.writable ∙ l.invariant.writable;
      cause = λ may. end_both _ _ _ l.status c.in-Ok.one c.and-status.result (l.invariant.cause may) (c.in-Ok.ensures.cause (l.invariant.writable ∙ may)) c.and-status.ensures;
    }

pub returns-in-Err-clause-goes : goal.returns-in-Err-clause-goes
returns-in-Err-clause-goes g c = λ files there.
    let told = g.W.World.told in
    let host = g.H.Host.told in
    let l = c.loop-word in
    let P = IsPut files c.args.put.now c.args.stamp.now in
    goes_cut (Goes P (take l.word-index c.args.words.now)) (P c.text.result.now) (Goes P c.args.words.now) l.status (told c.args.world.now) (told l.world)
    (told c.put_one.new.world) c.args.disk.now l.disk c.put_one.new.disk c.in-Err.fault c.say_fault.result (l.invariant.goes files there)
    (c.in-Err.ensures.goes files (files_then (host c.args.host.now) (host l.host) files l.invariant.files there))

pub returns-in-Err-clause-cause : goal.returns-in-Err-clause-cause
returns-in-Err-clause-cause g c = λ may. let x = (c.in-Err.ensures.cause (c.loop-word.invariant.writable ∙ may)) in end_then _ _ _ _ (c.loop-word.invariant.cause may).later (end_said _ _ _ c.in-Err.fault _ x.later x.failed c.say_fault.ensures.later c.say_fault.ensures.cause)

pub returns-clause-cause : goal.returns-clause-cause
returns-clause-cause g c = λ may. c.loop-word.invariant.cause may
