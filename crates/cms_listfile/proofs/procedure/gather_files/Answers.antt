use Rattle.std.proofs.lemmas.Option.{slice_get-get_or}
use Rattle.cms_listfile.proofs.Procedures.{gathered_all, gathered_first, gathered_on}
use Rattle.cms_listfile.proofs.procedure.gather_files.Goals as goal

pub loop-file-init : goal.loop-file-init
loop-file-init c = λ format size some is. gathered_first format size some _ is

pub loop-file-preserved : goal.loop-file-preserved
loop-file-preserved c = λ format size some is.
    gathered_on format size some c.args.last c.args.table.now c.args.found.now c.loop-file.file-index _ _
    (slice_get-get_or c.args.found.now c.loop-file.file-index _ c.loop-file-test.true)
    (c.in_ok-gather_file.ensures format size _ (c.loop-file.invariant format size some is))

pub returns : goal.returns
returns c = λ format size some is.
    gathered_all format size some c.args.last c.args.table.now c.args.found.now c.loop-file.file-index _ c.loop-file-test.false (c.loop-file.invariant format size some is)
