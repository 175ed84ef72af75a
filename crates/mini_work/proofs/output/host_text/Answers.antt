use Rattle.std.proofs.Common.{◌≡◌, ◌∙◌, ◌<◌, ◌++◌, ◌∷◌, ℕ, List, [], get_or, ap, sym, subst}
use Rattle.std.specs.String.{string_bytes}
use Rattle.cms_ebcdic.specs.CodePage.{host_of}
use Rattle.mini_work.proofs.HostText.{host_small, more_text}
use Rattle.mini_work.proofs.output.host_text.Goals as goal

pub loop-code-preserved : goal.loop-code-preserved
loop-code-preserved c =
    let text = c.args.text.now in
    let i = c.loop-code.code-index in
    let code = get_or text i 0 in
    let is : c.from.result ≡ host_of code = c.from.ensures ∙ c.to_host.ensures in
    let low : c.from.result < 128 = subst (λ (x : ℕ). x < 128) (sym is) (host_small code) in
    let old = string_bytes c.loop-code.word in
    c.in_ok-push.ensures.bytes ∙ ap (λ (l : List ℕ). old ++ l) (c.in_ok-push.ensures.ascii low) ∙ ap (λ (x : ℕ). old ++ x ∷ []) is
    ∙ ap (λ (l : List ℕ). l ++ host_of code ∷ []) c.loop-code.invariant ∙ more_text text i c.loop-code-test.true
