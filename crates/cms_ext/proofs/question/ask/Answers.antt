use Rattle.cms_ext.proofs.Boxes.{same_answers}
use Rattle.cms_ext.proofs.question.ask.Goals as goal

pub returns-clause-answers : goal.returns-clause-answers
returns-clause-answers g c =
    same_answers (λ k v. (goal.Extension-dyn g (k, v)).does) (λ k v. (goal.Extension-dyn g (k, v)).content v)
    c.deref_box_mut-1.ensures.value.1 c.turn.ensures
