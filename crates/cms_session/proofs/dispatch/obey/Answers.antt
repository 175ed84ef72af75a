use Rattle.std.proofs.lemmas.Result.{err_from_is_err_and}
use Rattle.cms_world.specs.Seen.{seen}
use Rattle.cms_session.proofs.Alone.{standing}
use Rattle.cms_session.proofs.Places.{extension_there}
use Rattle.cms_session.proofs.Requests.{extension_off, extension_so, without_extension}
use Rattle.cms_session.proofs.dispatch.obey.Goals as goal

pub run_extension-requires-clause-there : goal.run_extension-requires-clause-there
run_extension-requires-clause-there g c =
    let value = c.as_slice.ensures in
    let found = rw value at c.extension_of.ensures in
    extension_there _ c.args.words.now c.extension_of.result c.in-Some.place found c.in-Some.is

pub returns-in_err-course-in-Some-clause-acts : goal.returns-in_err-course-in-Some-clause-acts
returns-in_err-course-in-Some-clause-acts g c =
    let p = err_from_is_err_and c.from_residual.result c.from_residual.ensures.1 in
    let value = c.as_slice.ensures in
    let found = rw value at c.extension_of.ensures in
    rw (p.1, p.2) (extension_off _ (standing _ (seen g.W.World c.args.world.now) c.args.state.now) c.args.reader.now c.args.running c.args.line.now c.args.words.now
    c.extension_of.result found _ _ c.in-Some.place _ c.in-Some.is c.in_err-course-in-Some.ensures.acts)

pub returns-in_ok-course-in-Some-clause-acts : goal.returns-in_ok-course-in-Some-clause-acts
returns-in_ok-course-in-Some-clause-acts g c =
    let value = c.as_slice.ensures in
    let found = rw value at c.extension_of.ensures in
    extension_so _ (standing _ (seen g.W.World c.args.world.now) c.args.state.now) c.args.reader.now c.args.running c.args.line.now c.args.words.now
    c.extension_of.result found _ _ c.in-Some.place _ c.in-Some.is c.in_ok-course-in-Some.ensures.acts

pub returns-in-None-clause-acts : goal.returns-in-None-clause-acts
returns-in-None-clause-acts g c =
    let value = c.as_slice.ensures in
    let found = rw value at c.extension_of.ensures in
    without_extension _ (standing _ (seen g.W.World c.args.world.now) c.args.state.now) c.args.reader.now c.args.running c.args.line.now c.args.words.now
    c.extension_of.result found _ _ _ _ c.in-None.is c.request.ensures.acts
