use Rattle.std.proofs.Common.{◌∙◌, List, ap}
use Rattle.std.specs.Prelude.{find}
use Rattle.cms_text.specs.Texts.{is_keyword}
use Rattle.exec2_run.specs.Given.{name_of}
use Rattle.exec2_run.specs.declared.given.Predefined.{Predefined}
use Rattle.exec2_run.proofs.GivenNames.{among_its_length}
use Rattle.exec2_run.proofs.given.Predefined.read.Goals as goal

pub returns : goal.returns
returns c =
    c.first_named.ensures ∙ ap (λ (all : List Predefined). find (λ g. is_keyword (name_of g) c.args.name.now) all) c.of_length.ensures ∙ among_its_length c.args.name.now
