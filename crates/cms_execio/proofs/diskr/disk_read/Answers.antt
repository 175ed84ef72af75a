use Rattle.std.proofs.Common.{◌∙◌, refl, sym}
use Rattle.cms_search.specs.Calls.{course_of, spot}
use Rattle.cms_files.proofs.FilesRead.{acts_read_found, acts_read_unfound}
use Rattle.cms_execio.specs.Diskr.{lines_read, read_on}
use Rattle.cms_files.specs.Files.{file_found}
use Rattle.cms_files.proofs.Found.{found_held}
use Rattle.cms_files.proofs.FoundTold.{found_there}
use Rattle.cms_execio.proofs.Takings.{stacks_nothing}
use Rattle.cms_execio.proofs.diskr.disk_read.Goals as goal

pub read_on-requires-clause-found : goal.read_on-requires-clause-found
read_on-requires-clause-found g c =
    let input = c.args.line.now.range.input in
    found_there c.args.state.now.table input.mode input.name c.in-Ok.found (sym c.find_read.ensures.found ∙ c.in-Ok.is)

pub returns-in-Ok-clause-acts : goal.returns-in-Ok-clause-acts
returns-in-Ok-clause-acts g c =
    let line = c.args.line.now in
    acts_read_found (spot g.W.World c.args.world.now c.args.state.now) (spot g.W.World c.read_on.new.world c.read_on.new.state) c.args.words.now 3 (λ m found. read_on m c.args.words.now line found.letter) line.range.input
    c.find_read.result c.find_read.ensures.machine c.in-Ok.found c.read_on.result (course_of c.read_on.new.state) c.in-Ok.is (c.read_on.ensures.acts c.args.words.now)

pub returns-in-Err-clause-acts : goal.returns-in-Err-clause-acts
returns-in-Err-clause-acts g c =
    let s = c.args.state.now in
    let line = c.args.line.now in
    acts_read_unfound (spot g.W.World c.args.world.now s) (spot g.W.World c.refuse_unfound.new.world s) c.args.words.now 3 (λ m found. read_on m c.args.words.now line found.letter) line.range.input c.find_read.result
    c.find_read.ensures.machine c.in-Err.fault c.refuse_unfound.result c.in-Err.is c.refuse_unfound.ensures refl

-- the lines of the file that is found are stacked
pub returns-in-Ok-clause-stack : goal.returns-in-Ok-clause-stack
returns-in-Ok-clause-stack g c =
    let line = c.args.line.now in
    let old = spot g.W.World c.args.world.now c.args.state.now in
    λ units h.
    let found = found_held old (λ m. file_found m line.range.input) c.find_read.result c.find_read.ensures.machine units h ∙ c.in-Ok.is in
    rw found (c.read_on.ensures.stack units h)

pub returns-in-Err-clause-stack : goal.returns-in-Err-clause-stack
returns-in-Err-clause-stack g c =
    let line = c.args.line.now in
    stacks_nothing (spot g.W.World c.args.world.now c.args.state.now) line (λ s. lines_read s line (file_found s line.range.input))
