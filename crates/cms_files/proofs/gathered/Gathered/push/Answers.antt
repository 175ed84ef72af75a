use Rattle.std.proofs.Common.{◌≡◌, ◌+◌, refl, rules}
use Rattle.cms_held.proofs.Fronts.{on_ok}
use Rattle.cms_files.proofs.Records.{gathered_fixed, gathered_varying}
use Rattle.cms_files.proofs.gathered.Gathered.push.Goals as goal

pub returns-in-F : goal.returns-in-F
returns-in-F c = λ format size records is.
    let count : c.in_ok-self.field-0 ≡ c.args.self.now.count + 1 = search rules in
    on_ok c.fit.result _ _ (λ bytes. gathered_fixed format size records c.args.self.now _ c.args.text.now is c.in-F.is refl count refl bytes) c.fit.ensures.ok

pub returns-in-V : goal.returns-in-V
returns-in-V c = λ format size records is.
    let count : c.in_ok-self.field-0 ≡ c.args.self.now.count + 1 = search rules in
    on_ok c.put_var.result _ _ (λ bytes. gathered_varying format size records c.args.self.now _ c.args.text.now is c.in-V.is refl count c.max-self.ensures bytes c.requires.some c.requires.short)
    c.put_var.ensures.ok
