use Rattle.std.proofs.Common.{◌≡◌, ◌∙◌, Bool, Some, ap, ap₂, refl}
use Rattle.std.proofs.lemmas.Result.{IfOk-weaker}
use Rattle.clap.specs.Words.{Rule, rule_of, with_rule}
use Rattle.clap.specs.declared.builder.arg.Arg.{Arg}
use Rattle.cms_words.specs.Command.{option_rule}
use Rattle.cms_words.proofs.command.with_option.Goals as goal

-- whether all commands below share it
abbrev shared : Arg → Bool
shared a = a.global

pub returns : goal.returns
returns c =
    let rule : rule_of c.short.result ≡ option_rule c.args.id.now c.args.letter =
    ap rule_of c.short.ensures ∙ ap (λ (r : Rule). record r { short = Some c.args.letter }) c.new.ensures.rule in
    IfOk-weaker c.arg.result _ _ (λ new adds. adds.shape (ap shared c.short.ensures ∙ c.new.ensures.optional.1) ∙ ap₂ with_rule refl rule) c.arg.ensures
