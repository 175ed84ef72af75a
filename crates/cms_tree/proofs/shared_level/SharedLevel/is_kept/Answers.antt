use Rattle.std.proofs.Common.{◌+◌, ◌*◌, min, refl, sym, ◌∙◌, ap}
use Rattle.cms_tree.proofs.Paths.{is_same, not_both, not_same}
use Rattle.cms_tree.proofs.shared_level.SharedLevel.is_kept.Goals as goal

pub returns-then-not-self : goal.returns-then-not-self
returns-then-not-self c = let t = c.args.self.now in not_both t.both t.size t.before t.count c.args.written.now c.args.nth c.if-not-self.true

pub returns-then-min-last : goal.returns-then-min-last
returns-then-min-last c =
    let t = c.args.self.now in
    let end = c.args.nth * t.size + t.size in
    not_same t.both t.size t.before t.count c.args.written.now c.args.nth end c.min-last.result refl (c.min-last.ensures ∙ ap (min end) c.from.ensures)
    (λ same. c.if-min-last.true (c.min.ensures ∙ ap (min end) c.from-2.ensures ∙ same))

pub returns : goal.returns
returns c =
    let t = c.args.self.now in
    let end = c.args.nth * t.size + t.size in
    is_same t.both t.size t.before t.count c.args.written.now c.args.nth end c.min-last.result c.any_below.result c.if-not-self.false refl
    (c.min-last.ensures ∙ ap (min end) c.from.ensures) (sym (c.min.ensures ∙ ap (min end) c.from-2.ensures) ∙ c.if-min-last.false)
    (c.any_below.ensures (c.args.nth * t.size) c.requires.first)
