use Rattle.std.proofs.Common.{⊎_elim, refl}
use Rattle.cms_files.proofs.Found.{acts_found, acts_search_fault}
use Rattle.cms_search.specs.Calls.{machine_of, spot}
use Rattle.cms_search.proofs.LetterDisks.{holds_shows}
use Rattle.cms_listfile.specs.Lines.{lines_of}
use Rattle.cms_listfile.specs.Listfile.{delivering, files_listed}
use Rattle.cms_listfile.proofs.Delivered.{stacks_no_file}
use Rattle.cms_listfile.proofs.command.list_files.Goals as goal

pub returns-in-Ok-clause-acts : goal.returns-in-Ok-clause-acts
returns-in-Ok-clause-acts g c =
    let st = c.args.state.now in
    let line = c.args.line.now in
    let old = spot g.W.World c.args.world.now st in
    let new = spot g.W.World c.deliver.new.world c.deliver.new.state in
    let same = c.as_slice.ensures in
    acts_found old new c.args.words.now 1 (λ m found. delivering m line.style line.style.delivery (lines_of m line.style.columns found)) (λ m. files_listed m line) c.in-Ok.found c.deliver.result _
    (λ units h. c.in-Ok.ensures.found (machine_of st units) (holds_shows old units h)) (rw same at c.deliver.ensures.acts)

pub deliver-requires-clause-some : goal.deliver-requires-clause-some
deliver-requires-clause-some g c = let same = c.as_slice.ensures in rw same c.in-Ok.ensures.some

pub returns-in-Err-clause-acts : goal.returns-in-Err-clause-acts
returns-in-Err-clause-acts g c =
    let st = c.args.state.now in
    let line = c.args.line.now in
    let old = spot g.W.World c.args.world.now st in
    let new = spot g.W.World c.refuse_unfound.new.world st in
    acts_search_fault old new c.args.words.now 1 (λ m found. delivering m line.style line.style.delivery (lines_of m line.style.columns found)) (λ m. files_listed m line) c.in-Err.fault
    c.refuse_unfound.result
    (λ other units h. ⊎_elim (λ memory. absurd (other memory)) (λ refused. refused (machine_of st units) (holds_shows old units h)) c.in-Err.ensures.refused)
    c.refuse_unfound.ensures refl

pub returns-in-Ok-clause-stack : goal.returns-in-Ok-clause-stack
returns-in-Ok-clause-stack g c = λ s shows.
    let found = c.in-Ok.ensures.found s shows in
    let same = c.as_slice.ensures in
    rw found (rw same at c.deliver.ensures.stack)

pub returns-in-Err-clause-stack : goal.returns-in-Err-clause-stack
returns-in-Err-clause-stack g c = λ s shows.
    stacks_no_file c.args.state.now.table c.args.line.now.style (files_listed s c.args.line.now) c.args.state.now.stack
