use Rattle.std.proofs.Common.{◌∙◌, ap, subst, map}
use Rattle.std.proofs.lemmas.Result.{IfErr-weaker, IfOk-weaker}
use Rattle.clap.specs.Words.{App, FailsBy, app_of, fault_of, is_simple, is_simple_and_free, subcommand_of}
use Rattle.cms_words.proofs.CommandLemmas.{fails_err, fails_ok}
use Rattle.mini_words.proofs.Parsed.{found, free, refused, simple, taken}
use Rattle.mini_words.proofs.command.find_command.Goals as goal

pub returns : goal.returns
returns c =
    let is = c.in_ok-command.ensures.app in
    let parse = c.try_get_matches_from in
    let words = map (λ s. s.now) c.args.words.now in
    let kinds : FailsBy (fault_of (app_of c.in_ok-command.command) words) parse.result = parse.ensures.kinds (ap is_simple_and_free is ∙ free) in
    let by = subst (λ (a : App). FailsBy (fault_of a words) parse.result) is kinds in
    record {
      taken = IfOk-weaker parse.result _ _ (λ m h. taken words h) (fails_ok parse.result _ by);
      found = IfOk-weaker parse.result _ _ (λ m h. (h (ap is_simple is ∙ simple)).1 ∙ ap (λ (a : App). subcommand_of a words) is ∙ found words) parse.ensures.matches;
      refused = IfErr-weaker parse.result _ _ (λ e h. refused words e h) (fails_err parse.result _ by);
    }
