use Rattle.std.proofs.Common.{◌≡◌, ◌∙◌, Bool, ap, ap₂, codes, refl, sym, true}
use Rattle.std.proofs.lemmas.Result.{IfOk-weaker}
use Rattle.clap.specs.Words.{Rule, new_rule, rule_of, with_rule}
use Rattle.clap.specs.declared.builder.arg.Arg.{Arg}
use Rattle.cms_words.specs.Command.{unit_rule}
use Rattle.cms_words.proofs.CommandLemmas.{is_cms, num_args_rule}
use Rattle.cms_words.proofs.command.cms_command.Goals as goal

-- whether all commands below share it
abbrev shared : Arg → Bool
shared a = a.global

pub returns : goal.returns
returns c =
    let needed : rule_of c.required.result ≡ record (new_rule (codes "unit")) { required = true } =
    ap rule_of c.required.ensures ∙ ap (λ (r : Rule). record r { required = true }) c.new-2.ensures.rule in
    let unit_is : rule_of c.num_args.result ≡ unit_rule = num_args_rule c.required.result c.num_args.result _ c.num_args.ensures.0 c.num_args.ensures.1
    ∙ ap (λ (r : Rule). record r { range = unit_rule.range }) needed in
    let turns_are = c.in_ok-turns.ensures ∙ ap₂ with_rule c.new.ensures.app refl in
    let zone_is = c.in_ok-zone.ensures ∙ ap₂ with_rule turns_are refl in
    let seed_is = c.in_ok-seed.ensures ∙ ap₂ with_rule zone_is refl in
    let local = ap shared c.num_args.ensures.0 ∙ ap shared c.required.ensures ∙ c.new-2.ensures.optional.1 in
    IfOk-weaker c.arg.result _ _ (λ new adds. adds.shape local ∙ ap₂ with_rule seed_is unit_is ∙ sym is_cms) c.arg.ensures
