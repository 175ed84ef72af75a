use Rattle.std.proofs.Common.{◌≡◌, ◌∙◌, ◌-◌, ◌≤◌, ◌++◌, ℕ, [], ◌∷◌, length, take, ap, sym, arith}
use Rattle.cms_edit.proofs.Moves.{none_removed, some_removed}
use Rattle.cms_edit.proofs.buffer.Buffer.remove.Goals as goal

pub returns-then-count-eq0 : goal.returns-then-count-eq0
returns-then-count-eq0 c =
    rw (← c.self.view_is)
    (none_removed c.self.inside.above.items c.self.inside.below.items c.args.count (rw (← c.self.view_is) at c.requires) c.if-count-eq0.true)

pub returns-in-Some : goal.returns-in-Some
returns-in-Some c =
    let a = c.self.inside.above.items in
    let b = c.self.inside.below.items in
    let b' = c.pop.new.self.items in
    let counted : 1 ≤ c.args.count = omega arith in
    let all : c.len-behind.result ≡ length b = c.len-behind.ensures ∙ c.self.inside.below.ok.0 in
    let kept : c.saturating_sub.result ≡ length b - (c.args.count - 1) =
    c.saturating_sub.ensures ∙ ap (λ (n : ℕ). n - (c.args.count - 1)) all in
    let left : take (length b - (c.args.count - 1)) b ≡ b' ++ c.in-Some.line ∷ [] =
    ap (λ (n : ℕ). take n b) (sym kept) ∙ sym c.truncate.ensures.items ∙ c.in-Some.ensures.items in
    rw (← c.self.view_is)
    (c.replace.ensures ∙ some_removed a b c.args.count (rw (← c.self.view_is) at c.requires) b' c.in-Some.line counted left)
