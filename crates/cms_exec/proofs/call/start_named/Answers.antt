use Rattle.std.proofs.Common.{Option, ap, refl}
use Rattle.std.specs.Option.{option_map}
use Rattle.cms_search.specs.Calls.{spot}
use Rattle.exec2_run.specs.declared.exec.FileName.{FileName}
use Rattle.cms_exec.specs.declared.search.FoundProcedure.{FoundProcedure}
use Rattle.cms_exec.proofs.Starts.{named_refused, named_starts}
use Rattle.cms_exec.proofs.call.start_named.Goals as goal

abbrev files : Option FoundProcedure → Option FileName
files x = option_map (λ (f : FoundProcedure). f.file) x

pub start-requires-clause-there : goal.start-requires-clause-there
start-requires-clause-there g c = c.in-Some.ensures.there

pub returns-in-Some : goal.returns-in-Some
returns-in-Some g c =
    let s = c.args.state.now in
    named_starts (spot g.W.World c.args.world.now s) (spot g.W.World c.start.new.world s) c.args.running c.args.called.now c.args.file (files c.find_procedure.result)
    c.find_procedure.ensures.procedure c.in-Some.found.file c.start.result (ap files c.in-Some.is) c.start.ensures

pub returns-in-None : goal.returns-in-None
returns-in-None g c =
    let s = c.args.state.now in
    named_refused (spot g.W.World c.args.world.now s) (spot g.W.World c.refuse_no_procedure.new.world s) c.args.running c.args.called.now c.args.file (files c.find_procedure.result)
    c.find_procedure.ensures.procedure c.refuse_no_procedure.result c.refused.result (ap files c.in-None.is) c.refuse_no_procedure.ensures.does c.refuse_no_procedure.ensures.went refl c.refused.ensures
