use Rattle.std.proofs.Common.{Bool, true, false, ◌∙◌, sym, ap}
use Rattle.cms_access.specs.Query as spec
use Rattle.cms_access.proofs.Queries.{status_coded}
use Rattle.cms_access.proofs.shown.status.Goals as goal

pub returns-then-read_only : goal.returns-then-read_only
returns-then-read_only c = c.coded.ensures ∙ sym (status_coded true) ∙ ap (λ (b : Bool). spec.status b) (sym c.if-read_only.true)

pub returns-else-read_only : goal.returns-else-read_only
returns-else-read_only c = c.coded-else-read_only.ensures ∙ sym (status_coded false) ∙ ap (λ (b : Bool). spec.status b) (sym c.if-read_only.false)
