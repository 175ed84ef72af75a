use Rattle.std.proofs.lemmas.Result.{err_from_is_err_and}
use Rattle.cms_world.specs.Seen.{seen}
use Rattle.cms_ext.proofs.Lists.{words_kept}
use Rattle.cms_ext.proofs.Runs.{round_met, round_starved}
use Rattle.cms_ext.proofs.rounds.round.Goals as goal

pub meet-requires-clause-may : goal.meet-requires-clause-may
meet-requires-clause-may g c = c.in_ok-want.ensures.answers.may

pub returns-in_err-want-clause-acts : goal.returns-in_err-want-clause-acts
returns-in_err-want-clause-acts g c =
    let p = err_from_is_err_and c.from_residual.result c.from_residual.ensures.1 in
    rw (p.1, p.2) (round_starved (seen g.W.World c.args.world.now) c.args.state.now _ _ c.args.place c.args.reply.now c.in_err-want.field-0.0 c.in_err-want.ensures)

pub returns-in_err-want-clause-words : goal.returns-in_err-want-clause-words
returns-in_err-want-clause-words g c = words_kept _ c.args.place c.args.reply.now _ _ c.in_err-want.ensures

pub returns-clause-acts : goal.returns-clause-acts
returns-clause-acts g c =
    round_met (seen g.W.World c.args.world.now) c.args.state.now _ _ c.args.place c.args.reply.now c.in_ok-want.want (seen g.W.World c.meet.new.world)
    c.meet.new.state c.meet.result c.in_ok-want.ensures c.meet.ensures.acts

pub returns-clause-words : goal.returns-clause-words
returns-clause-words g c = words_kept _ c.args.place c.args.reply.now _ _ c.in_ok-want.ensures
