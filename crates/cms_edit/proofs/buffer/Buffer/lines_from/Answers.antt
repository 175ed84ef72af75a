use Rattle.std.proofs.Common.{◌≡◌, ◌≢◌, ◌∙◌, ◌-◌, ◌++◌, reverse, take, refl, arith}
use Rattle.cms_edit.proofs.Moves.{from_is}
use Rattle.cms_edit.proofs.buffer.Buffer.lines_from.Goals as goal

pub returns : goal.returns
returns c =
    let a = c.self.inside.above.items in
    let b = c.self.inside.below.items in
    let some : c.args.count ≢ 0 = (λ none. absurd (omega (arith, c.if-count-eq0.false, none))) in
    let first : c.push_last.new.lines ≡ take 1 (reverse a) =
    c.in_ok-push_last.ensures ∙ rw (c.new-lines.ensures, c.deref.ensures.value) refl in
    let both : c.push_last-2.new.lines ≡ take 1 (reverse a) ++ take (c.args.count - 1) (reverse b) =
    c.in_ok-push_last-2.ensures ∙ rw (first, c.deref-2.ensures.value) refl in
    rw (← c.self.view_is) (both ∙ from_is a b c.args.count some)
