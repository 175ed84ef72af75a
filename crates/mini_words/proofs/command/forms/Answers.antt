use Rattle.std.proofs.Common.{refl}
use Rattle.mini_words.specs.Commands.{check_form, dump_form, erase_form, get_form, info_form, list_form, make_form, minidisk, put_form, rename_form}
use Rattle.mini_words.proofs.command.forms.Goals as goal

pub returns-clause-all : goal.returns-clause-all
unfolding minidisk list_form info_form get_form put_form erase_form rename_form make_form check_form dump_form
returns-clause-all c = refl

pub returns-clause-plain : goal.returns-clause-plain
returns-clause-plain c = refl
