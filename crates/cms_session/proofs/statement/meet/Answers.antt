use Rattle.std.proofs.Common.{rules, w32, FitsSigned}
use Rattle.std.proofs.lemmas.Int.{to_z-of_z}
use Rattle.cms_session.proofs.Alone.{left_decked}
use Rattle.cms_session.proofs.statement.meet.Goals as goal

pub returns-in-Say-clause-acts : goal.returns-in-Say-clause-acts
returns-in-Say-clause-acts g c = let is = c.in-Say.is in rw is (left_decked _ _ c.args.session.now.reader _ _ _ _ c.type_lines.ensures.reader c.type_lines.ensures.acts)

pub returns-in-Stack-clause-acts : goal.returns-in-Stack-clause-acts
returns-in-Stack-clause-acts g c = let is = c.in-Stack.is in rw is (left_decked _ _ c.args.session.now.reader _ _ _ _ c.stack.ensures.reader c.stack.ensures.acts)

pub returns-in-Read-clause-acts : goal.returns-in-Read-clause-acts
returns-in-Read-clause-acts g c = let is = c.in-Read.is in rw is (left_decked _ _ c.args.session.now.reader _ _ _ _ c.read.ensures.reader c.read.ensures.acts)

pub returns-in-Command-clause-acts : goal.returns-in-Command-clause-acts
returns-in-Command-clause-acts g c = let is = c.in-Command.is in rw is c.command.ensures.acts

pub returns-in-Next-clause-acts : goal.returns-in-Next-clause-acts
returns-in-Next-clause-acts g c = let is = c.in-Next.is in rw is (left_decked _ _ c.args.session.now.reader _ _ _ _ c.follow.ensures.reader c.follow.ensures.acts)

pub returns-in-Ended-clause-acts : goal.returns-in-Ended-clause-acts
returns-in-Ended-clause-acts g c =
    let is = c.in-Ended.is in
    let fits : FitsSigned w32 c.in-Ended.code = search rules in
    let same = to_z-of_z w32 c.in-Ended.code fits in
    let acts = rw same at c.follow-in-Ended.ensures.acts in
    rw is (left_decked _ _ c.args.session.now.reader _ _ _ _ c.follow-in-Ended.ensures.reader acts)

pub returns-in-Failed-clause-acts : goal.returns-in-Failed-clause-acts
returns-in-Failed-clause-acts g c = let is = c.in-Failed.is in rw is (left_decked _ _ c.args.session.now.reader _ _ _ _ c.follow-in-Failed.ensures.reader c.follow-in-Failed.ensures.acts)

pub returns-in-Sub-clause-acts : goal.returns-in-Sub-clause-acts
returns-in-Sub-clause-acts g c = let is = c.in-Sub.is in rw is c.subcommand.ensures.acts
