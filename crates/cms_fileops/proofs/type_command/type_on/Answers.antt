use Rattle.std.proofs.Common.{◌∙◌, Option, refl, sym, subst}
use Rattle.std.specs.Prelude.{IsSome}
use Rattle.std.proofs.lemmas.Result.{err_from_is_err_and}
use Rattle.cms_edf.specs.declared.held.FileInfo.{FileInfo}
use Rattle.cms_search.specs.Calls.{course_of, machine_of, spot}
use Rattle.cms_search.proofs.StateCalls.{acts_starved}
use Rattle.cms_files.proofs.FoundTold.{is_found, told_as}
use Rattle.cms_fileops.specs.TypeCommand.{type_on}
use Rattle.cms_fileops.proofs.Typed.{short_on}
use Rattle.cms_fileops.proofs.type_command.type_on.Goals as goal

-- it is there
pub unwrap-info-requires : goal.unwrap-info-requires
unwrap-info-requires g c =
    subst (λ (x : Option FileInfo). IsSome x) (sym c.info_found.ensures) (is_found c.args.state.now.table c.args.found c.args.line.now.range.input.name c.requires.found)

pub type_records-requires-clause-told : goal.type_records-requires-clause-told
type_records-requires-clause-told g c =
    sym (told_as c.args.state.now.table c.args.found c.args.line.now.range.input.name c.unwrap-info.result c.requires.found (sym c.info_found.ensures ∙ c.unwrap-info.ensures))

pub type_records-requires-clause-opened : goal.type_records-requires-clause-opened
type_records-requires-clause-opened g c = c.in_ok-file.ensures.opened c.args.line.now.range.input.name c.requires.found

-- there was no memory to open it
pub returns-in_err-file-clause-acts : goal.returns-in_err-file-clause-acts
returns-in_err-file-clause-acts g c =
    let p = err_from_is_err_and c.from_residual.result c.from_residual.ensures.1 in
    let memory = c.in_err-file.ensures.fault in
    let s = c.args.state.now in
    rw (p.1, p.2, memory) (acts_starved (spot g.W.World c.args.world.now s) (λ units. type_on (machine_of s units) c.args.words.now c.args.line.now c.args.found.letter) (course_of s))

-- the first record that is typed isn't there
pub returns-then-file-line-clause-acts : goal.returns-then-file-line-clause-acts
returns-then-file-line-clause-acts g c =
    let s = c.args.state.now in
    let same = c.as_slice.ensures in
    short_on (spot g.W.World c.args.world.now s) (spot g.W.World c.refuse_line.new.world s) c.args.words.now c.args.found.letter c.args.line.now c.in_ok-file.file.count c.refuse_line.result
    (λ m shows. c.in_ok-file.ensures.there c.args.line.now.range.input.name m c.requires.found shows) c.if-file-line.true (rw same at c.refuse_line.ensures.does) c.refuse_line.ensures.went refl

pub returns-clause-acts : goal.returns-clause-acts
returns-clause-acts g c = c.type_records.ensures.acts c.args.words.now
