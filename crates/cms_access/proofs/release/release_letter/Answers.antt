use Rattle.cms_access.proofs.Releases.{letter_done, letter_missing}
use Rattle.cms_access.proofs.release.release_letter.Goals as goal

pub returns-in-Ok-clause-acts : goal.returns-in-Ok-clause-acts
returns-in-Ok-clause-acts g c =
    let left = c.in-Ok.ensures.released in
    letter_done _ c.args.state.now c.release.new.self c.args.letter left.0 left.1

pub returns-in-Err-clause-acts : goal.returns-in-Err-clause-acts
returns-in-Err-clause-acts g c =
    let none = c.in-Err.ensures.refused in
    letter_missing _ _ c.args.state.now c.release.new.self c.args.letter c.refuse_not_accessed.result none.1 none.2
    c.refuse_not_accessed.ensures.does c.refuse_not_accessed.ensures.went
