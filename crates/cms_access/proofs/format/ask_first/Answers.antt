use Rattle.std.proofs.Common.{◌≡◌, ◌∙◌, refl, sym, ap, pos}
use Rattle.std.specs.Prelude.{true, false}
use Rattle.std.proofs.lemmas.Result.{err_from_is_err_and}
use Rattle.cms_line.specs.declared.message.Message.TheVariants.{M603}
use Rattle.cms_search.specs.Calls.{course_of, machine_of, spot}
use Rattle.cms_search.specs.Texts.{device_text, letter_text}
use Rattle.cms_search.specs.Talks.{asked_of}
use Rattle.cms_search.specs.declared.asked_line.Asked.TheVariants.{Given, Spent}
use Rattle.cms_search.specs.declared.state.Course.TheVariants.{OutOfTurns, Went}
use Rattle.cms_search.proofs.Acts.{acts_same, acts_stop}
use Rattle.cms_access.specs.Format.{erasing, goes_on, on_reply, reply}
use Rattle.cms_access.specs.Questions.{question_tree}
use Rattle.cms_search.proofs.StateCalls.{acts_starved}
use Rattle.cms_access.proofs.Questioned.{acts_bind, acts_over, goes, stays_so}
use Rattle.cms_access.proofs.format.ask_first.Goals as goal

pub returns-in_err-given-clause-acts : goal.returns-in_err-given-clause-acts
returns-in_err-given-clause-acts g c =
    let p = err_from_is_err_and c.from_residual.result c.from_residual.ensures.1 in
    let st = c.args.state.now in
    let st' = c.ask_whether.new.state in
    let line = c.args.line in
    let acts = c.in_err-given.ensures.acts in
    rw (p.1, p.2)
    (acts_stop _ _ (question_tree st (M603 (letter_text line.letter) (device_text line.vdev))) (on_reply (erasing line)) _ (asked_of st') (course_of st') acts)

pub returns-in-Spent-clause-acts : goal.returns-in-Spent-clause-acts
returns-in-Spent-clause-acts g c =
    let st' = c.ask_whether.new.state in
    let line = c.args.line in
    let given = spot g.W.World c.ask_whether.new.world st' in
    let is = c.in-Spent.is in
    let acts = rw is at c.in_ok-given.ensures.acts in
    acts_bind _ given given (question_tree c.args.state.now (M603 (letter_text line.letter) (device_text line.vdev))) (on_reply (erasing line)) Spent (asked_of st') _ (course_of st') acts
    (acts_over given (λ units. on_reply (erasing line) (asked_of st' units Spent)) OutOfTurns (course_of st') (λ units. refl))

pub returns-in_err-text-clause-acts : goal.returns-in_err-text-clause-acts
returns-in_err-text-clause-acts g c =
    let p = err_from_is_err_and c.from_residual-in_err-text.result c.from_residual-in_err-text.ensures.1 in
    let st' = c.ask_whether.new.state in
    let line = c.args.line in
    let given = spot g.W.World c.ask_whether.new.world st' in
    let is = c.in-Given.is in
    let acts = rw is at c.in_ok-given.ensures.acts in
    rw (p.1, p.2)
    (acts_bind _ given given (question_tree c.args.state.now (M603 (letter_text line.letter) (device_text line.vdev))) (on_reply (erasing line)) (Given c.in-Given.given) (asked_of st') _
    (course_of st') acts
    (acts_starved given (λ units. on_reply (erasing line) (asked_of st' units (Given c.in-Given.given))) (course_of st')))

pub returns-then-not-goes_on-clause-acts : goal.returns-then-not-goes_on-clause-acts
returns-then-not-goes_on-clause-acts g c =
    let st' = c.ask_whether.new.state in
    let line = c.args.line in
    let given = spot g.W.World c.ask_whether.new.world st' in
    let is = c.in-Given.is in
    let acts = rw is at c.in_ok-given.ensures.acts in
    let no : goes_on (reply c.in-Given.given) ≡ false = sym (c.goes_on.ensures ∙ ap goes_on (c.bytes.ensures.bytes ∙ c.in_ok-text.ensures)) ∙ c.if-not-goes_on.true in
    acts_bind _ given given (question_tree c.args.state.now (M603 (letter_text line.letter) (device_text line.vdev))) (on_reply (erasing line)) (Given c.in-Given.given) (asked_of st') _
    (course_of st') acts
    (acts_over given (λ units. on_reply (erasing line) (asked_of st' units (Given c.in-Given.given))) (Went (pos 8)) (course_of st')
    (λ units. stays_so st' c.in-Given.given (erasing line) units no))

pub erase-requires-clause-usable : goal.erase-requires-clause-usable
erase-requires-clause-usable g c =
    let is = c.in-Given.is in
    let acts = rw is at c.in_ok-given.ensures.acts in
    acts.usable c.requires.usable

pub returns-clause-acts : goal.returns-clause-acts
returns-clause-acts g c =
    let st' = c.ask_whether.new.state in
    let line = c.args.line in
    let given = spot g.W.World c.ask_whether.new.world st' in
    let new = spot g.W.World c.erase.new.world c.erase.new.state in
    let is = c.in-Given.is in
    let acts = rw is at c.in_ok-given.ensures.acts in
    let yes : goes_on (reply c.in-Given.given) ≡ true = sym (c.goes_on.ensures ∙ ap goes_on (c.bytes.ensures.bytes ∙ c.in_ok-text.ensures)) ∙ c.if-not-goes_on.false in
    acts_bind _ given new (question_tree c.args.state.now (M603 (letter_text line.letter) (device_text line.vdev))) (on_reply (erasing line)) (Given c.in-Given.given) (asked_of st') _
    (course_of c.erase.new.state) acts
    (acts_same given new (λ units. on_reply (erasing line) (asked_of st' units (Given c.in-Given.given))) (λ units. erasing line (machine_of st' units)) _ (course_of c.erase.new.state)
    (λ units h. goes st' c.in-Given.given (erasing line) units yes) c.erase.ensures.acts)
