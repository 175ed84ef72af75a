use Rattle.std.proofs.lemmas.Result.{err_from_is_err_and}
use Rattle.cms_world.specs.Seen.{seen}
use Rattle.cms_search.proofs.Acts.{comes_none, no_memory}
use Rattle.cms_session.proofs.Alone.{standing}
use Rattle.cms_session.proofs.Places.{named_there}
use Rattle.cms_session.proofs.Subcommands.{refused_so}
use Rattle.cms_session.proofs.subcommand.send.Goals as goal

pub returns-in_err-word-clause-acts : goal.returns-in_err-word-clause-acts
returns-in_err-word-clause-acts g c =
    let p = err_from_is_err_and c.from_residual.result c.from_residual.ensures.1 in
    rw (p.1, p.2) (no_memory _ _ _ _ _ (comes_none _ _))

pub run-requires-clause-there : goal.run-requires-clause-there
run-requires-clause-there g c =
    let value = c.bytes-2.ensures.bytes in
    let found = rw value at c.extension_named.ensures in
    named_there _ c.in_ok-word.word c.extension_named.result c.in-Some.place found c.in-Some.is

pub returns-in-None-clause-acts : goal.returns-in-None-clause-acts
returns-in-None-clause-acts g c =
    let value = c.bytes-2.ensures.bytes in
    let found = rw value at c.extension_named.ensures in
    let given = c.bytes.ensures.bytes in
    let folds = rw given at c.in_ok-word.ensures in
    refused_so _ (standing _ (seen g.W.World c.args.world.now) c.args.state.now) c.args.word.now c.args.text c.in_ok-word.word c.extension_named.result
    folds found _ _ c.in-None.is c.refuse_absent.ensures
