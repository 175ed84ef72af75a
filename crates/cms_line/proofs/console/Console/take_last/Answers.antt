use Rattle.std.proofs.Common.{◌∙◌, List, ℕ, Some, length, ap, arith}
use Rattle.cms_model.specs.Items.{short_line}
use Rattle.cms_line.proofs.ConsoleTaken.{taken_last, last_is_short}
use Rattle.cms_line.proofs.console.Console.take_last.Goals as goal

pub line_of-requires : goal.line_of-requires
line_of-requires c = omega (arith, ap length c.unread.ensures, last_is_short c.args.self.now c.requires.beginning c.requires.last)

pub returns-clause-ok : goal.returns-clause-ok
returns-clause-ok c = taken_last c.args.self.now c.advance.new.self c.in_ok-line.line _ c.requires.beginning c.requires.last
    (c.in_ok-line.ensures ∙ ap (λ (z : List ℕ). Some (short_line z)) c.unread.ensures) (ap length c.unread-length.ensures) c.advance.ensures
