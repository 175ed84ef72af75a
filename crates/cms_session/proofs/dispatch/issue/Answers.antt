use Rattle.std.proofs.Common.{sym, ◌∙◌}
use Rattle.std.proofs.lemmas.Result.{err_from_is_err_and}
use Rattle.cms_search.proofs.Acts.{comes_none, no_memory}
use Rattle.cms_world.specs.Seen.{seen}
use Rattle.cms_session.proofs.Alone.{standing}
use Rattle.cms_session.proofs.Requests.{comment_issued, words_issued}
use Rattle.cms_session.proofs.dispatch.issue.Goals as goal

pub returns-then-is_comment-clause-acts : goal.returns-then-is_comment-clause-acts
returns-then-is_comment-clause-acts g c =
    let value = c.bytes.ensures.bytes in
    let told = rw value at c.is_comment.ensures in
    comment_issued _ (standing _ (seen g.W.World c.args.world.now) c.args.state.now) c.args.reader.now c.args.running c.args.line.now (sym told ∙ c.if-is_comment.true)

pub returns-in_err-words-clause-acts : goal.returns-in_err-words-clause-acts
returns-in_err-words-clause-acts g c =
    let p = err_from_is_err_and c.from_residual.result c.from_residual.ensures.1 in
    rw (p.1, p.2) (no_memory _ _ _ _ _ (comes_none _ _))

pub returns-clause-acts : goal.returns-clause-acts
returns-clause-acts g c =
    let value = c.bytes.ensures.bytes in
    let told = rw value at c.is_comment.ensures in
    words_issued _ _ (standing _ (seen g.W.World c.args.world.now) c.args.state.now) _ c.args.reader.now _ c.args.running c.args.line.now c.in_ok-words.words _
    (sym told ∙ c.if-is_comment.false) c.in_ok-words.ensures c.obey.ensures.acts
