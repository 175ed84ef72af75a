use Rattle.std.proofs.Common.{sym, ◌∙◌, refl}
use Rattle.cms_edf.proofs.Exits.{memory_is_none, reads_at_ok}
use Rattle.cms_edf.proofs.trees.block_of.Goals as goal

pub returns-in-Ok-clause-size : goal.returns-in-Ok-clause-size
returns-in-Ok-clause-size g c = sym c.in-Ok.bytes.ok.0 ∙ (c.in-Ok.ensures.size ∙ c.bytes.ensures.value)

pub returns-in-Ok-clause-reads : goal.returns-in-Ok-clause-reads
returns-in-Ok-clause-reads g c = reads_at_ok _ c.in-Ok.ensures.reads

pub returns-in-Err-Device-clause-reads : goal.returns-in-Err-Device-clause-reads
returns-in-Err-Device-clause-reads g c =
    let e = c.in-Err-Device.ensures.reads in
    record { told = e.told; faults = e.faults; edges = e.edges; cause = λ is. e.cause c.in-Err-Device.field-0-is }

pub returns-in-Err-Memory-clause-reads : goal.returns-in-Err-Memory-clause-reads
returns-in-Err-Memory-clause-reads g c =
    let e = c.in-Err-Memory.ensures.reads in
    record { told = e.told; faults = e.faults; edges = e.edges; cause = λ is. absurd (memory_is_none _ refl is) }
