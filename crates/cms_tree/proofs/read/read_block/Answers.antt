use Rattle.std.proofs.Common.{refl}
use Rattle.cms_tree.proofs.Exits.{memory_only, reads_at_ok}
use Rattle.cms_tree.proofs.read.read_block.Goals as goal

pub returns-in-Ok-clause-len : goal.returns-in-Ok-clause-len
returns-in-Ok-clause-len g c = c.in-Ok.ensures.size

pub returns-in-Ok-clause-reads : goal.returns-in-Ok-clause-reads
returns-in-Ok-clause-reads g c = reads_at_ok _ c.in-Ok.ensures.reads

pub returns-in-Err-Device-clause-reads : goal.returns-in-Err-Device-clause-reads
returns-in-Err-Device-clause-reads g c =
    let e = c.in-Err-Device.ensures.reads in
    record { told = e.told; faults = e.faults; edges = e.edges; cause = λ is. e.cause c.in-Err-Device.field-0-is }

pub returns-in-Err-Memory-clause-reads : goal.returns-in-Err-Memory-clause-reads
returns-in-Err-Memory-clause-reads g c =
    let e = c.in-Err-Memory.ensures.reads in
    record { told = e.told; faults = e.faults; edges = e.edges; cause = λ is. absurd (memory_only _ refl is) }

pub read_block-requires : goal.read_block-requires
read_block-requires g c = c.requires

pub returns-in-Ok-clause-plain : goal.returns-in-Ok-clause-plain
returns-in-Ok-clause-plain g c = tt

pub returns-in-Err-Device-clause-bytes : goal.returns-in-Err-Device-clause-bytes
returns-in-Err-Device-clause-bytes g c = tt

pub returns-in-Err-Device-clause-len : goal.returns-in-Err-Device-clause-len
returns-in-Err-Device-clause-len g c = tt

pub returns-in-Err-Device-clause-plain : goal.returns-in-Err-Device-clause-plain
returns-in-Err-Device-clause-plain g c = tt

pub returns-in-Err-Memory-clause-bytes : goal.returns-in-Err-Memory-clause-bytes
returns-in-Err-Memory-clause-bytes g c = tt

pub returns-in-Err-Memory-clause-len : goal.returns-in-Err-Memory-clause-len
returns-in-Err-Memory-clause-len g c = tt

pub returns-in-Err-Memory-clause-plain : goal.returns-in-Err-Memory-clause-plain
returns-in-Err-Memory-clause-plain g c = tt
