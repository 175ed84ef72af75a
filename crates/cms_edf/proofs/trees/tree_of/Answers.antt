use Rattle.std.proofs.Common.{sym, ◌∙◌, refl}
use Rattle.cms_edf.proofs.Exits.{memory_is_none, pointer_is_none, reads_at_ok}
use Rattle.cms_edf.proofs.trees.tree_of.Goals as goal

pub walk-requires-clause-some : goal.walk-requires-clause-some
walk-requires-clause-some g c = c.requires.some

pub walk-requires-clause-psize : goal.walk-requires-clause-psize
walk-requires-clause-psize g c = c.requires.psize

pub walk-requires-clause-blocks : goal.walk-requires-clause-blocks
walk-requires-clause-blocks g c = c.requires.blocks

pub returns-in-Ok-clause-count : goal.returns-in-Ok-clause-count
returns-in-Ok-clause-count g c = sym c.in-Ok.walked.leaves.ok.0 ∙ c.in-Ok.ensures.count

pub returns-in-Ok-clause-pointers : goal.returns-in-Ok-clause-pointers
returns-in-Ok-clause-pointers g c = c.in-Ok.ensures.pointers

pub returns-in-Ok-clause-within : goal.returns-in-Ok-clause-within
returns-in-Ok-clause-within g c = c.in-Ok.ensures.within

pub returns-in-Ok-clause-reads : goal.returns-in-Ok-clause-reads
returns-in-Ok-clause-reads g c = reads_at_ok _ c.in-Ok.ensures.reads

pub returns-in-Err-Device-clause-reads : goal.returns-in-Err-Device-clause-reads
returns-in-Err-Device-clause-reads g c =
    let e = c.in-Err-Device.ensures.reads in
    record { told = e.told; faults = e.faults; edges = e.edges; cause = λ is. e.cause c.in-Err-Device.field-0-is }

pub returns-in-Err-Memory-clause-reads : goal.returns-in-Err-Memory-clause-reads
returns-in-Err-Memory-clause-reads g c =
    let e = c.in-Err-Memory.ensures.reads in
    record { told = e.told; faults = e.faults; edges = e.edges; cause = λ is. absurd (memory_is_none _ refl is) }

pub returns-in-Err-Pointer-clause-reads : goal.returns-in-Err-Pointer-clause-reads
returns-in-Err-Pointer-clause-reads g c =
    let e = c.in-Err-Pointer.ensures.reads in
    record { told = e.told; faults = e.faults; edges = e.edges; cause = λ is. absurd (pointer_is_none is) }
