use Rattle.std.proofs.Common.{FitsSigned, ap, rules, w32}
use Rattle.std.proofs.lemmas.Int.{to_z-of_z}
use Rattle.std.proofs.lemmas.Result.{err_from_is_err_and}
use Rattle.cms_search.specs.declared.state.State.{State}
use Rattle.cms_world.specs.Seen.{seen}
use Rattle.cms_ext.proofs.Runs.{again_off, again_out, begins, goes_on, round_no_turns, round_off, round_over}
use Rattle.cms_ext.proofs.rounds.run.Goals as goal

pub loop-next-init : goal.loop-next-init
loop-next-init g c = begins c.args.place (seen g.W.World c.args.world.now) c.args.state.now _ c.args.reply c.requires.there c.requires.moment

pub returns-in_err-next-clause-acts : goal.returns-in_err-next-clause-acts
returns-in_err-next-clause-acts g c =
    let p = err_from_is_err_and c.from_residual.result c.from_residual.ensures.1 in
    let run = c.loop-next.invariant in
    rw (p.1, p.2) (round_off c.args.place _ _ _ _ c.loop-next.reply run.more run.comes c.in_err-next.field-0.0 c.in_err-next.ensures.acts)

pub returns-in-Over-clause-acts : goal.returns-in-Over-clause-acts
returns-in-Over-clause-acts g c =
    let run = c.loop-next.invariant in
    let fits : FitsSigned w32 c.in-Over.code = search rules in
    let code = to_z-of_z w32 c.in-Over.code fits in
    rw code
    (round_over c.args.place _ _ _ _ c.loop-next.reply run.more run.comes c.in_ok-next.field-0 c.in-Over.code c.in_ok-next.ensures.acts c.in-Over.is)

pub returns-in-NoTurns-clause-acts : goal.returns-in-NoTurns-clause-acts
returns-in-NoTurns-clause-acts g c =
    let run = c.loop-next.invariant in
    round_no_turns c.args.place _ _ _ _ c.loop-next.reply run.more run.comes c.in_ok-next.field-0 c.in_ok-next.ensures.acts c.in-NoTurns.is

pub returns-then-state-eq0-clause-acts : goal.returns-then-state-eq0-clause-acts
returns-then-state-eq0-clause-acts g c =
    let run = c.loop-next.invariant in
    again_out c.args.place _ _ _ _ c.loop-next.reply run.more run.comes c.in_ok-next.field-0 c.in-Told.next c.in_ok-next.ensures.acts c.in-Told.is
    (search rules)

pub loop-next-preserved : goal.loop-next-preserved
loop-next-preserved g c =
    goes_on c.args.place _ _ _ (seen g.W.World c.round-met.new.world) (seen g.W.World c.turn.new.world) c.loop-next.state c.round-met.new.state c.turn.new.state _ _
    c.loop-next.reply c.in-Told.next c.in_ok-next.field-0 tt c.loop-next.invariant c.in_ok-next.ensures.acts c.in-Told.is c.round-met.ensures.words
    (ap (λ (s : State). s.offset) c.round-met.ensures.kept) c.round-met.ensures.left c.in_default.ensures.acts c.turn.ensures.left
    (ap (λ (s : State). s.offset) c.turn.ensures.kept) c.in_default.ensures.moment

pub returns-in-Err-clause-acts : goal.returns-in-Err-clause-acts
returns-in-Err-clause-acts g c =
    let run = c.loop-next.invariant in
    again_off c.args.place _ _ _ _ c.loop-next.reply run.more run.comes c.in_ok-next.field-0 c.in-Told.next c.in_ok-next.ensures.acts
    c.in-Told.is (seen g.W.World c.turn.new.world) c.turn.new.state c.turn.ensures.left c.in-Err.end c.in-Err.ensures.acts
