use Rattle.std.proofs.Common.{◌∙◌}
use Rattle.std.proofs.lemmas.Result.{err_from_is_err_and}
use Rattle.cms_session.proofs.Plays.{play_stops, play_ends, play_goes}
use Rattle.cms_session.proofs.session.run_lines.Goals as goal

pub returns-in_err-finish : goal.returns-in_err-finish
returns-in_err-finish g c =
    let p = err_from_is_err_and c.from_residual.result c.from_residual.ensures.1 in
    let decks = c.loop-finish.session.reader in
    let ps = c.loop-finish.session.procedures in
    rw (p.1, p.2) (play_stops _ _ _ _ _ _ decks c.run_round.new.session.reader ps c.run_round.new.session.procedures _ _ c.loop-finish.invariant.going c.in_err-finish.ensures.acts)

pub returns-in-Ended : goal.returns-in-Ended
returns-in-Ended g c =
    let decks = c.loop-finish.session.reader in
    let ps = c.loop-finish.session.procedures in
    play_ends _ _ _ _ _ _ decks c.run_round.new.session.reader ps c.run_round.new.session.procedures _ c.in_ok-finish.field-0 c.in-Ended.finish c.loop-finish.invariant.going c.in-Ended.is c.in_ok-finish.ensures.acts

pub loop-finish-preserved : goal.loop-finish-preserved
loop-finish-preserved g c =
    let before = c.loop-finish.invariant in
    let round = c.in_ok-finish.ensures in
    let decks = c.loop-finish.session.reader in
    let ps = c.loop-finish.session.procedures in
    record {
      going = play_goes _ _ _ _ _ _ decks c.run_round.new.session.reader ps c.run_round.new.session.procedures _ c.in_ok-finish.field-0 before.going (round.falls c.in_default.is) c.in_default.is round.acts;
      usable = round.acts.usable before.usable;
      offset = round.offset ∙ before.offset;
    }
