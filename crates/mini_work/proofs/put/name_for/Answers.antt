use Rattle.std.proofs.Common.{◌∙◌, Option, ap, sym}
use Rattle.cms_names.specs.declared.name.Name.{Name}
use Rattle.mini_words.specs.Names.{name_of}
use Rattle.mini_work.specs.Puts.{name_for}
use Rattle.mini_work.proofs.put.name_for.Goals as goal

pub returns-in-None : goal.returns-in-None
returns-in-None c =
    c.name.ensures ∙ ap name_of c.last_part.ensures ∙ ap (λ (n : Option Name). name_for n c.args.file.now) (sym c.in-None.is)
