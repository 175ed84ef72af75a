use Rattle.std.proofs.Common.{◌∙◌, Option, sym, subst}
use Rattle.std.specs.Prelude.{IsSome}
use Rattle.std.proofs.lemmas.Result.{err_from_is_err_and}
use Rattle.cms_edf.specs.declared.held.FileInfo.{FileInfo}
use Rattle.cms_search.specs.Calls.{course_of, machine_of, spot}
use Rattle.cms_search.proofs.StateCalls.{acts_starved}
use Rattle.cms_files.proofs.FoundTold.{is_found, told_as}
use Rattle.cms_execio.specs.Diskr as spec
use Rattle.cms_execio.specs.Diskr.{lines_on}
use Rattle.cms_execio.proofs.Takings.{stacks_nothing}
use Rattle.cms_execio.proofs.diskr.read_on.Goals as goal

-- it is there
pub unwrap-info-requires : goal.unwrap-info-requires
unwrap-info-requires g c =
    subst (λ (x : Option FileInfo). IsSome x) (sym c.info_found.ensures) (is_found c.args.state.now.table c.args.found c.args.line.now.range.input.name c.requires.found)

pub read_records-requires-clause-told : goal.read_records-requires-clause-told
read_records-requires-clause-told g c =
    sym (told_as c.args.state.now.table c.args.found c.args.line.now.range.input.name c.unwrap-info.result c.requires.found (sym c.info_found.ensures ∙ c.unwrap-info.ensures))

pub read_records-requires-clause-opened : goal.read_records-requires-clause-opened
read_records-requires-clause-opened g c = c.in_ok-file.ensures.opened c.args.line.now.range.input.name c.requires.found

-- there was no memory to open it
pub returns-in_err-file-clause-acts : goal.returns-in_err-file-clause-acts
returns-in_err-file-clause-acts g c = λ words.
    let p = err_from_is_err_and c.from_residual.result c.from_residual.ensures.1 in
    let memory = c.in_err-file.ensures.fault in
    let s = c.args.state.now in
    rw (p.1, p.2, memory) (acts_starved (spot g.W.World c.args.world.now s) (λ units. spec.read_on (machine_of s units) words c.args.line.now c.args.found.letter) (course_of s))

pub returns-in_err-file-clause-stack : goal.returns-in_err-file-clause-stack
returns-in_err-file-clause-stack g c = stacks_nothing (spot g.W.World c.args.world.now c.args.state.now) c.args.line.now (λ s. lines_on s c.args.line.now c.args.found.letter)
