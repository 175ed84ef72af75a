use Rattle.std.proofs.Common.{◌∙◌, ◌++◌, ◌∷◌, [], List, ap, sym}
use Rattle.cms_held.specs.HeldVolumes.{names_in}
use Rattle.cms_names.specs.declared.name.Name.{Name}
use Rattle.mini_work.proofs.Listed.{name_told, take_more}
use Rattle.mini_work.proofs.chosen_files.names_of.Goals as goal

pub loop-nth-preserved : goal.loop-nth-preserved
loop-nth-preserved c =
    let v = c.args.disk.now.volume in
    let nth = c.loop-nth.nth in
    c.in_ok-push.ensures.items ∙ ap (λ (xs : List Name). xs ++ c.info.result.name ∷ []) c.loop-nth.invariant
    ∙ sym (take_more (names_in v.files) nth c.info.result.name (name_told v nth c.info.result c.info.ensures.info))
