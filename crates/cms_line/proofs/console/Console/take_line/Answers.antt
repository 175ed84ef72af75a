use Rattle.std.proofs.Common.{◌∙◌, ◌≡◌, List, ℕ, length, take, ap, arith}
use Rattle.cms_model.specs.Items.{without_return}
use Rattle.cms_line.proofs.ConsoleTaken.{taken_line, line_short}
use Rattle.cms_line.proofs.console.Console.take_line.Goals as goal

pub line_of-requires : goal.line_of-requires
line_of-requires c =
    let text : c.without_return.result.now ≡ without_return (take c.args.length c.args.self.now.unread.bytes) =
    c.without_return.ensures ∙ ap (λ (z : List ℕ). without_return (take c.args.length z)) c.unread.ensures in
    omega (arith, ap length text, line_short c.args.self.now c.args.length c.requires.beginning c.requires.ends)

pub returns-clause-ok : goal.returns-clause-ok
returns-clause-ok c =
    let text : c.without_return.result.now ≡ without_return (take c.args.length c.args.self.now.unread.bytes) =
    c.without_return.ensures ∙ ap (λ (z : List ℕ). without_return (take c.args.length z)) c.unread.ensures in
    taken_line c.args.self.now c.advance_past.new.self c.in_ok-line.line c.args.length c.without_return.result.now c.requires.beginning c.requires.ends text c.in_ok-line.ensures c.advance_past.ensures
