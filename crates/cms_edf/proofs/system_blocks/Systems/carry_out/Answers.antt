use Rattle.std.proofs.Common.{◌≡◌, ◌∙◌, List, ℕ, [], length, ap, subst, append-nil}
use Rattle.cms_model.specs.Settled.{Write}
use Rattle.cms_held.specs.Systems.{Systems, system_writes}
use Rattle.cms_edf.specs.Doubts.{Updates}
use Rattle.cms_edf.proofs.CutOff.{updates_behind}
use Rattle.cms_edf.proofs.system_blocks.Systems.carry_out.Goals as goal

pub returns-in-Ok-clause-updates : goal.returns-in-Ok-clause-updates
returns-in-Ok-clause-updates g c =
    let told = g.W.World.told in
    let s = c.args.self.now in
    let mid = told c.write.new.world in
    let new = told c.confirm.new.world in
    let label : c.deref.result.now ≡ s.label_bytes = c.deref.ensures.value ∙ ap (λ (x : Systems). x.label_bytes) c.self.view_is in
    let ws = system_writes (length s.label_bytes) s in
    subst (λ (l : List Write). Updates (told c.args.world.now) new c.args.unit l s.label_bytes c.confirm.result) (append-nil ws)
    (updates_behind (told c.args.world.now) mid new c.args.unit ws [] s.label_bytes c.confirm.result c.in-Ok.ensures.writes.made
    (subst (λ (l : List ℕ). Updates mid new c.args.unit [] l c.confirm.result) label c.confirm.ensures.updates))
