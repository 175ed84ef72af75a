use Rattle.std.proofs.Common.{◌∙◌, refl, sym}
use Rattle.cms_search.specs.Calls.{course_of, spot}
use Rattle.cms_files.proofs.FoundTold.{found_there}
use Rattle.cms_files.proofs.FilesRead.{acts_read_found, acts_read_unfound}
use Rattle.cms_fileops.specs.TypeCommand.{type_on}
use Rattle.cms_fileops.proofs.type_command.type_file.Goals as goal

pub type_on-requires-clause-found : goal.type_on-requires-clause-found
type_on-requires-clause-found g c =
    let input = c.args.line.now.range.input in
    found_there c.args.state.now.table input.mode input.name c.in-Ok.found (sym c.find_read.ensures.found ∙ c.in-Ok.is)

pub returns-in-Ok-clause-acts : goal.returns-in-Ok-clause-acts
returns-in-Ok-clause-acts g c =
    let s = c.args.state.now in
    let words = c.args.words.now in
    let line = c.args.line.now in
    acts_read_found (spot g.W.World c.args.world.now s) (spot g.W.World c.type_on.new.world c.type_on.new.state) words 1 (λ m found. type_on m words line found.letter) line.range.input
    c.find_read.result c.find_read.ensures.machine c.in-Ok.found c.type_on.result (course_of c.type_on.new.state) c.in-Ok.is c.type_on.ensures.acts

pub returns-in-Err-clause-acts : goal.returns-in-Err-clause-acts
returns-in-Err-clause-acts g c =
    let s = c.args.state.now in
    let words = c.args.words.now in
    let line = c.args.line.now in
    acts_read_unfound (spot g.W.World c.args.world.now s) (spot g.W.World c.refuse_unfound.new.world s) words 1 (λ m found. type_on m words line found.letter) line.range.input
    c.find_read.result c.find_read.ensures.machine c.in-Err.fault c.refuse_unfound.result c.in-Err.is c.refuse_unfound.ensures refl
