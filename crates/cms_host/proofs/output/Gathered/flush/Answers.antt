use Rattle.std.proofs.Common.{◌∙◌, ◌+◌, List, ℕ, drop, take, refl, ap, subst, arith}
use Rattle.std.proofs.lemmas.List.{take_rest}
use Rattle.cms_host.specs.Deeds.{then_done, printing, Prints}
use Rattle.cms_host.proofs.Printed.{flush_done, flush_kept}
use Rattle.cms_host.proofs.output.Gathered.flush.Goals as goal

pub returns-then-self-len-clause-prints : goal.returns-then-self-len-clause-prints
returns-then-self-len-clause-prints g c =
    let before = g.S.System.told c.args.system.now in
    let bytes = c.self.inside.bytes.items in
    let p = c.self.inside.printed in
    let n = c.print_front-count.result in
    subst (λ (old : List ℕ). Prints old (drop (p + n) bytes) before (g.S.System.told c.print_front-count.new.system)) c.self.view_is
    (flush_kept bytes p n before _ (c.print_front-count.ensures.printed ∙ ap (λ (front : List ℕ). then_done before (printing (take n front))) (take_rest c.deref.result.now p ∙ ap (λ (whole : List ℕ). drop p whole) c.deref.ensures.value)))

pub returns-clause-prints : goal.returns-clause-prints
returns-clause-prints g c =
    let before = g.S.System.told c.args.system.now in
    let bytes = c.self.inside.bytes.items in
    let p = c.self.inside.printed in
    let n = c.print_front-count.result in
    subst (λ (old : List ℕ). Prints old c.clear.new.self.items before (g.S.System.told c.print_front-count.new.system)) c.self.view_is
    (flush_done bytes c.clear.new.self.items p n before _ c.clear.ensures.items (omega (arith, c.if-self-len.false, c.len.ensures))
    (c.print_front-count.ensures.printed ∙ ap (λ (front : List ℕ). then_done before (printing (take n front))) (take_rest c.deref.result.now p ∙ ap (λ (whole : List ℕ). drop p whole) c.deref.ensures.value)))

pub returns-clause-all : goal.returns-clause-all
returns-clause-all g c = (λ went. c.clear.ensures.items, λ none. refl)

pub returns-then-self-len-clause-files : goal.returns-then-self-len-clause-files
returns-then-self-len-clause-files g c = c.print_front-count.ensures.files

pub returns-clause-files : goal.returns-clause-files
returns-clause-files g c = c.print_front-count.ensures.files
