use Rattle.std.proofs.Common.{◌∙◌, sym}
use Rattle.cms_search.specs.Calls.{machine_of, spot}
use Rattle.cms_files.specs.Updates.{stopping}
use Rattle.cms_copyfile.specs.Copyfile.{copy_into, copy_records, there_already, too_few, with_copying}
use Rattle.cms_copyfile.proofs.FilesCopied.{acts_copying, into_copied, into_few, into_there}
use Rattle.cms_copyfile.proofs.command.copy_into.Goals as goal

pub returns-then-is_refused-clause-acts : goal.returns-then-is_refused-clause-acts
returns-then-is_refused-clause-acts g c =
    let st = c.args.state.now in
    let words = c.args.words.now in
    let line = c.args.line.now in
    let file = c.args.file.now in
    let old = spot g.W.World c.args.world.now st in
    let new = spot g.W.World c.stop_there.new.world st in
    acts_copying old new words line file (λ m. copy_into m words line) (λ units. there_already (machine_of st units) words line file.letter file.name) c.stop_there.result _ c.requires.file
    (λ units x h. into_there (machine_of st units) words line file x (sym c.is_refused.ensures ∙ c.if-is_refused.true)) c.stop_there.ensures

pub returns-then-has_too_few-clause-acts : goal.returns-then-has_too_few-clause-acts
returns-then-has_too_few-clause-acts g c =
    let st = c.args.state.now in
    let words = c.args.words.now in
    let line = c.args.line.now in
    let file = c.args.file.now in
    let old = spot g.W.World c.args.world.now st in
    let new = spot g.W.World c.stop_too_few.new.world st in
    acts_copying old new words line file (λ m. copy_into m words line) (λ units. stopping (too_few (machine_of st units) file.input.count)) c.stop_too_few.result _ c.requires.file
    (λ units x h. into_few (machine_of st units) words line file x (sym c.is_refused.ensures ∙ c.if-is_refused.false) (sym c.has_too_few.ensures ∙ c.if-has_too_few.true)) c.stop_too_few.ensures

pub returns-clause-acts : goal.returns-clause-acts
returns-clause-acts g c =
    let st = c.args.state.now in
    let words = c.args.words.now in
    let line = c.args.line.now in
    let file = c.args.file.now in
    let old = spot g.W.World c.args.world.now st in
    let new = spot g.W.World c.copy_records.new.world c.copy_records.new.state in
    acts_copying old new words line file (λ m. copy_into m words line) (λ units. with_copying words line (machine_of st units) file.found (copy_records (machine_of st units) line))
    c.copy_records.result _ c.requires.file
    (λ units x h. into_copied (machine_of st units) words line file x (sym c.is_refused.ensures ∙ c.if-is_refused.false) (sym c.has_too_few.ensures ∙ c.if-has_too_few.false))
    (c.copy_records.ensures.acts words)
