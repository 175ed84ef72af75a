use Rattle.std.proofs.Common.{◌+◌, ◌∙◌, ◌++◌, ◌∷◌, [], take, drop, ap, sym, arith}
use Rattle.std.proofs.lemmas.List.{take-append-drop}
use Rattle.std.proofs.lemmas.Result.{err_from_is_err_and}
use Rattle.cms_world.specs.Seen.{seen}
use Rattle.cms_words.specs.Words.{devices_of}
use Rattle.cms_session.proofs.UnitsAttached.{attaching_more, distinct_of, missed, no_room, words_more, words_split, words_whole}
use Rattle.cms_session.proofs.units.attach_all.Goals as goal

pub returns-in_err-unit-clause-stops : goal.returns-in_err-unit-clause-stops
returns-in_err-unit-clause-stops g c =
    let p = err_from_is_err_and c.from_residual.result c.from_residual.ensures.1 in
    let failed = c.in_err-unit.ensures in
    let edge = failed.cause.0 in
    let words = c.args.words.now in
    let i = c.loop-word.word-index in
    rw (p.1, p.2, edge)
    (λ is. missed (seen g.W.World c.args.world.now) (seen g.W.World c.loop-word.world) (seen g.W.World c.attach_unit.new.world) words (take i words) (drop (i + 1) words)
    c.word-item.result c.loop-word.units (words_split words i c.word-item.result _ c.word-item.is c.loop-word-test.true) is c.loop-word.invariant failed.missed failed.cause.1)

pub returns-in_err-push-clause-stops : goal.returns-in_err-push-clause-stops
returns-in_err-push-clause-stops g c =
    let p = err_from_is_err_and c.from_residual-in_err-push.result c.from_residual-in_err-push.ensures.1 in
    let words = c.args.words.now in
    let i = c.loop-word.word-index in
    let word = c.word-item.result in
    let one = c.in_ok-unit.ensures in
    let more = words_more words i word _ c.word-item.is c.loop-word-test.true in
    rw (p.1, p.2)
    (λ is. no_room (seen g.W.World c.args.world.now) (seen g.W.World c.attach_unit.new.world) words (take i words ++ word ∷ []) (drop (i + 1) words) _
    (ap (λ f. f ++ drop (i + 1) words) (sym more) ∙ take-append-drop (i + 1) words) is
    (attaching_more (seen g.W.World c.args.world.now) (seen g.W.World c.loop-word.world) (seen g.W.World c.attach_unit.new.world) (take i words) c.loop-word.units word c.in_ok-unit.unit
    c.loop-word.invariant
    (record { attached = one.attached; usable = one.usable; device = one.device; size = one.size; silent = one.silent; edges = one.edges; faults = one.faults })))

pub loop-word-preserved : goal.loop-word-preserved
loop-word-preserved g c =
    let words = c.args.words.now in
    let i = c.loop-word.word-index in
    let word = c.word-item.result in
    let one = c.in_ok-unit.ensures in
    let more = words_more words i word _ c.word-item.is c.loop-word-test.true in
    let pushed = c.in_ok-push.ensures.ok in
    rw (more, pushed)
    (attaching_more (seen g.W.World c.args.world.now) (seen g.W.World c.loop-word.world) (seen g.W.World c.attach_unit.new.world) (take i words) c.loop-word.units word c.in_ok-unit.unit
    c.loop-word.invariant
    (record { attached = one.attached; usable = one.usable; device = one.device; size = one.size; silent = one.silent; edges = one.edges; faults = one.faults }))

pub returns-clause-distinct : goal.returns-clause-distinct
returns-clause-distinct g c =
    let words = c.args.words.now in
    let i = c.loop-word.word-index in
    let past = c.loop-word-test.false in
    let whole = words_whole words i (omega (arith, past)) in
    distinct_of words c.loop-word.units c.requires.units.distinct (c.loop-word.invariant.devices ∙ ap devices_of whole)
