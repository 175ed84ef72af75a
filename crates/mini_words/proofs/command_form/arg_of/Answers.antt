use Rattle.std.proofs.Common.{◌≡◌, ◌∙◌, ap, sym}
use Rattle.std.specs.Prelude.{Bool, true, Some}
use Rattle.clap.specs.Words.{Rule, new_rule, rule_of}
use Rattle.clap.specs.declared.builder.action.ArgAction.TheVariants.{SetTrue}
use Rattle.clap.specs.declared.builder.arg.Arg.{Arg}
use Rattle.cms_words.proofs.CommandLemmas.{num_args_rule}
use Rattle.mini_words.specs.Commands.{any_rule, many_rule, rule_by}
use Rattle.mini_words.proofs.Forms.{has_help, has_letter, is_flag, is_needed}
use Rattle.mini_words.proofs.command_form.arg_of.Goals as goal

pub returns-in-Value-clause-rule : goal.returns-in-Value-clause-rule
returns-in-Value-clause-rule c =
    let id = c.args.argument.now.id.now in
    let named : rule_of c.help-arg.result ≡ new_rule id = has_help c.new.result c.help-arg.result _ c.help-arg.ensures ∙ c.new.ensures.rule in
    let letter = c.in-Value.letter in
    has_letter c.help-arg.result c.short.result letter c.short.ensures ∙ ap (λ (r : Rule). record r { short = Some letter }) named ∙ ap (rule_by id) (sym c.in-Value.is)

pub returns-in-Needed-clause-rule : goal.returns-in-Needed-clause-rule
returns-in-Needed-clause-rule c =
    let id = c.args.argument.now.id.now in
    let named : rule_of c.help-arg.result ≡ new_rule id = has_help c.new.result c.help-arg.result _ c.help-arg.ensures ∙ c.new.ensures.rule in
    let letter = c.in-Needed.letter in
    is_needed c.short-in-Needed.result c.required.result c.required.ensures
    ∙ ap (λ (r : Rule). record r { required = true }) (has_letter c.help-arg.result c.short-in-Needed.result letter c.short-in-Needed.ensures ∙ ap (λ (r : Rule). record r { short = Some letter }) named)
    ∙ ap (rule_by id) (sym c.in-Needed.is)

pub returns-in-Flag-clause-rule : goal.returns-in-Flag-clause-rule
returns-in-Flag-clause-rule c =
    let id = c.args.argument.now.id.now in
    let named : rule_of c.help-arg.result ≡ new_rule id = has_help c.new.result c.help-arg.result _ c.help-arg.ensures ∙ c.new.ensures.rule in
    let letter = c.in-Flag.letter in
    is_flag c.short-in-Flag.result c.action.result c.action.ensures
    ∙ ap (λ (r : Rule). record r { action = Some SetTrue }) (has_letter c.help-arg.result c.short-in-Flag.result letter c.short-in-Flag.ensures ∙ ap (λ (r : Rule). record r { short = Some letter }) named)
    ∙ ap (rule_by id) (sym c.in-Flag.is)

pub returns-in-One-clause-rule : goal.returns-in-One-clause-rule
returns-in-One-clause-rule c =
    let id = c.args.argument.now.id.now in
    let named : rule_of c.help-arg.result ≡ new_rule id = has_help c.new.result c.help-arg.result _ c.help-arg.ensures ∙ c.new.ensures.rule in
    is_needed c.help-arg.result c.required-in-One.result c.required-in-One.ensures ∙ ap (λ (r : Rule). record r { required = true }) named
    ∙ ap (rule_by id) (sym c.in-One.is)

pub returns-in-Many-clause-rule : goal.returns-in-Many-clause-rule
returns-in-Many-clause-rule c =
    let id = c.args.argument.now.id.now in
    let named : rule_of c.help-arg.result ≡ new_rule id = has_help c.new.result c.help-arg.result _ c.help-arg.ensures ∙ c.new.ensures.rule in
    num_args_rule c.required-in-Many.result c.num_args.result _ c.num_args.ensures.0 c.num_args.ensures.1
    ∙ ap (λ (r : Rule). record r { range = (many_rule id).range })
    (is_needed c.help-arg.result c.required-in-Many.result c.required-in-Many.ensures ∙ ap (λ (r : Rule). record r { required = true }) named)
    ∙ ap (rule_by id) (sym c.in-Many.is)

pub returns-in-Any-clause-rule : goal.returns-in-Any-clause-rule
returns-in-Any-clause-rule c =
    let id = c.args.argument.now.id.now in
    let named : rule_of c.help-arg.result ≡ new_rule id = has_help c.new.result c.help-arg.result _ c.help-arg.ensures ∙ c.new.ensures.rule in
    num_args_rule c.help-arg.result c.num_args-in-Any.result _ c.num_args-in-Any.ensures.0 c.num_args-in-Any.ensures.1
    ∙ ap (λ (r : Rule). record r { range = (any_rule id).range }) named ∙ ap (rule_by id) (sym c.in-Any.is)

-- whether all commands below share it
abbrev shared : Arg → Bool
shared a = a.global

pub returns-in-Value-clause-local : goal.returns-in-Value-clause-local
returns-in-Value-clause-local c = ap shared c.short.ensures ∙ ap shared c.help-arg.ensures ∙ c.new.ensures.optional.1

pub returns-in-Needed-clause-local : goal.returns-in-Needed-clause-local
returns-in-Needed-clause-local c = ap shared c.required.ensures ∙ ap shared c.short-in-Needed.ensures ∙ ap shared c.help-arg.ensures ∙ c.new.ensures.optional.1

pub returns-in-Flag-clause-local : goal.returns-in-Flag-clause-local
returns-in-Flag-clause-local c = ap shared c.action.ensures ∙ ap shared c.short-in-Flag.ensures ∙ ap shared c.help-arg.ensures ∙ c.new.ensures.optional.1

pub returns-in-One-clause-local : goal.returns-in-One-clause-local
returns-in-One-clause-local c = ap shared c.required-in-One.ensures ∙ ap shared c.help-arg.ensures ∙ c.new.ensures.optional.1

pub returns-in-Many-clause-local : goal.returns-in-Many-clause-local
returns-in-Many-clause-local c = ap shared c.num_args.ensures.0 ∙ ap shared c.required-in-Many.ensures ∙ ap shared c.help-arg.ensures ∙ c.new.ensures.optional.1

pub returns-in-Any-clause-local : goal.returns-in-Any-clause-local
returns-in-Any-clause-local c = ap shared c.num_args-in-Any.ensures.0 ∙ ap shared c.help-arg.ensures ∙ c.new.ensures.optional.1
