use Rattle.cms_search.specs.Calls.{spot}
use Rattle.cms_copyfile.proofs.FilesCopied.{acts_missing}
use Rattle.cms_copyfile.proofs.command.CopierFileUpdateNamedFile.update.Goals as goal

pub returns-in-Some-clause-acts : goal.returns-in-Some-clause-acts
returns-in-Some-clause-acts g c = let same = c.in-Some.ensures.found in rw same at c.copy_of.ensures.acts

pub returns-in-None-clause-acts : goal.returns-in-None-clause-acts
returns-in-None-clause-acts g c =
    let st = c.args.state.now in
    let e = c.args.self.now in
    let is = c.in-None.is in
    acts_missing (spot g.W.World c.args.world.now st) (spot g.W.World c.stop_search.new.world st) e.words.now e.line.now c.args.file.now c.stop_search.result _
    (c.of.ensures.none is) c.stop_search.ensures
