use Rattle.std.proofs.Common.{inl}
use Rattle.mini_work.proofs.Caused.{cause_done, later_same, reads_later}
use Rattle.mini_work.proofs.directory.read_any.Goals as goal

pub returns-then-not-contains-clause-cause : goal.returns-then-not-contains-clause-cause
returns-then-not-contains-clause-cause g c = λ n. cause_done _ _ _ (later_same _)

pub returns-in-Ok-clause-cause : goal.returns-in-Ok-clause-cause
returns-in-Ok-clause-cause g c = λ n. cause_done _ _ _ (reads_later _ _ _ _ n c.read_block.ensures.reads)

pub returns-in-Err-Device-clause-cause : goal.returns-in-Err-Device-clause-cause
returns-in-Err-Device-clause-cause g c = λ n. record {
  later = reads_later _ _ _ _ n c.read_block.ensures.reads;
  failed = λ e. inl (c.in-Err-Device.ensures.reads.cause c.in-Err-Device.field-0-is);
}

pub returns-in-Err-Memory-clause-cause : goal.returns-in-Err-Memory-clause-cause
returns-in-Err-Memory-clause-cause g c = λ n. record { later = reads_later _ _ _ _ n c.read_block.ensures.reads; failed = λ e. absurd (cc e) }
