use Rattle.std.proofs.Common.{◌≡◌, ◌∙◌, ◌+◌, ℕ, min, length, ap}
use Rattle.std.proofs.lemmas.Result.{on_err_weaker, on_ok_weaker}
use Rattle.cms_edit.proofs.Moves.{kept_up, up_is}
use Rattle.cms_edit.proofs.buffer.Buffer.move_up.Goals as goal

pub returns-clause-ok : goal.returns-clause-ok
returns-clause-ok c =
    let a = c.self.inside.above.items in
    let b = c.self.inside.below.items in
    let a' = c.move_lines.new.from.items in
    let b' = c.move_lines.new.to.items in
    let all : c.len.result ≡ length a = c.len.ensures ∙ c.self.inside.above.ok.0 in
    let least : c.min-count.result ≡ min c.args.count (length a) =
    c.min-count.ensures ∙ ap (λ (n : ℕ). min c.args.count n) all in
    rw (← c.self.view_is)
    (on_ok_weaker c.move_lines.result
    (λ (moved : length b' ≡ length b + c.min-count.result).
    up_is a b a' b' c.args.count c.move_lines.ensures.lines (moved ∙ ap (λ (n : ℕ). length b + n) least))
    c.move_lines.ensures.moved)

pub returns-clause-err : goal.returns-clause-err
returns-clause-err c =
    let a = c.self.inside.above.items in
    let b = c.self.inside.below.items in
    let a' = c.move_lines.new.from.items in
    let b' = c.move_lines.new.to.items in
    rw (← c.self.view_is)
    (on_err_weaker c.move_lines.result (λ (kept : b' ≡ b). kept_up a b a' b' c.move_lines.ensures.lines kept) c.move_lines.ensures.kept)
