use Rattle.std.proofs.Common.{◌≡◌, ◌∙◌, length}
use Rattle.cms_edit.proofs.Moves.{replaced_is}
use Rattle.cms_edit.proofs.buffer.Buffer.replace.Goals as goal

pub returns : goal.returns
returns c =
    let a = c.self.inside.above.items in
    let last : c.len-last.result ≡ length a = c.len-last.ensures ∙ c.self.inside.above.ok.0 in
    rw (← c.self.view_is, last) (replaced_is a c.self.inside.below.items c.args.line (rw (← c.self.view_is) at c.requires))
