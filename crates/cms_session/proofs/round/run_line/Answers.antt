use Rattle.std.proofs.Common.{◌∙◌, sym}
use Rattle.std.proofs.lemmas.Result.{err_from_is_err_and}
use Rattle.cms_world.specs.Seen.{seen}
use Rattle.cms_session.proofs.Alone.{standing}
use Rattle.cms_session.proofs.Statements.{comment_so, line_off, line_so}
use Rattle.cms_session.proofs.round.run_line.Goals as goal

pub returns-then-is_comment-clause-acts : goal.returns-then-is_comment-clause-acts
returns-then-is_comment-clause-acts g c =
    let value = c.bytes.ensures.bytes in
    let told = rw value at c.is_comment.ensures in
    comment_so _ c.args.session.now.reader (standing _ (seen g.W.World c.args.world.now) c.args.session.now.state) c.args.session.now.procedures c.args.line.now (sym told ∙ c.if-is_comment.true)

pub returns-in_err-issued-clause-acts : goal.returns-in_err-issued-clause-acts
returns-in_err-issued-clause-acts g c =
    let p = err_from_is_err_and c.from_residual.result c.from_residual.ensures.1 in
    let value = c.bytes.ensures.bytes in
    let told = rw value at c.is_comment.ensures in
    let s = c.args.session.now in
    let running = c.len-running.ensures in
    let acts = rw running at c.in_err-issued.ensures.acts in
    rw (p.1, p.2) (line_off _ _ s.reader _ (standing _ (seen g.W.World c.args.world.now) s.state) s.procedures c.args.line.now (sym told ∙ c.if-is_comment.false) _ _ s.procedures acts)

pub returns-clause-acts : goal.returns-clause-acts
returns-clause-acts g c =
    let value = c.bytes.ensures.bytes in
    let told = rw value at c.is_comment.ensures in
    let s = c.args.session.now in
    let running = c.len-running.ensures in
    let acts = rw running at c.in_ok-issued.ensures.acts in
    line_so _ _ s.reader _ (standing _ (seen g.W.World c.args.world.now) s.state) s.procedures c.args.line.now (sym told ∙ c.if-is_comment.false) _ _ c.in_ok-issued.issued _ _ _ acts c.answer.ensures.reader c.answer.ensures.acts
