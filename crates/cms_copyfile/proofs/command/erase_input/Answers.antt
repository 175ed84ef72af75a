use Rattle.std.proofs.Common.{sym}
use Rattle.cms_search.specs.Calls.{spot}
use Rattle.cms_copyfile.proofs.InputErased.{is_erased, not_erased}
use Rattle.cms_copyfile.proofs.command.erase_input.Goals as goal

pub returns-then-not-may_erase-clause-acts : goal.returns-then-not-may_erase-clause-acts
returns-then-not-may_erase-clause-acts g c =
    not_erased (spot g.W.World c.args.world.now c.args.state.now) c.args.line.now c.args.file.now (sym c.if-not-may_erase.ensures)

pub returns-clause-acts : goal.returns-clause-acts
returns-clause-acts g c =
    is_erased (spot g.W.World c.args.world.now c.args.state.now) (spot g.W.World c.consume.new.world c.consume.new.state) c.args.line.now c.args.file.now c.consume.result
    (sym c.if-not-may_erase.ensures) c.consume.ensures.acts
