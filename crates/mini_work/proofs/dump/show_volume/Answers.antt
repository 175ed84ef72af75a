use Rattle.mini_work.proofs.Caused.{end_then, reads_later}
use Rattle.std.proofs.Common.{inl}
use Rattle.mini_work.proofs.LoneUnit.{may_use_still}
use Rattle.mini_work.proofs.Typed.{grown_types, types_same, types_then}
use Rattle.mini_work.proofs.dump.show_volume.Goals as goal

pub open_volume-requires : goal.open_volume-requires
open_volume-requires g c = record { blocks = c.requires.blocks }

pub show_held-shown-requires : goal.show_held-shown-requires
show_held-shown-requires g c = may_use_still _ _ c.args.unit.now (grown_types _ _ (types_same _ _ c.open_volume.ensures.reads.told)) c.requires

pub show_directory-requires : goal.show_directory-requires
show_directory-requires g c = may_use_still _ _ c.args.unit.now (grown_types _ _ (types_same _ _ c.open_volume.ensures.reads.told)) c.requires

pub returns-in-Ok-clause-goes : goal.returns-in-Ok-clause-goes
returns-in-Ok-clause-goes g c = types_then _ _ _ (types_same _ _ c.open_volume.ensures.reads.told) c.show_held-shown.ensures.goes

pub returns-in-Err-Device-clause-goes : goal.returns-in-Err-Device-clause-goes
returns-in-Err-Device-clause-goes g c = types_same _ _ c.open_volume.ensures.reads.told

pub returns-in-Err-Memory-clause-goes : goal.returns-in-Err-Memory-clause-goes
returns-in-Err-Memory-clause-goes g c = types_same _ _ c.open_volume.ensures.reads.told

pub returns-in-Err-clause-goes : goal.returns-in-Err-clause-goes
returns-in-Err-clause-goes g c = types_then _ _ _ (types_same _ _ c.open_volume.ensures.reads.told) c.show_directory.ensures.goes

pub returns-in-Ok-clause-cause : goal.returns-in-Ok-clause-cause
returns-in-Ok-clause-cause g c = λ n. end_then _ _ _ _ (reads_later _ _ _ _ n c.open_volume.ensures.reads) (c.show_held-shown.ensures.cause n)

pub returns-in-Err-Device-clause-cause : goal.returns-in-Err-Device-clause-cause
returns-in-Err-Device-clause-cause g c = λ n. record {
  later = reads_later _ _ _ _ n c.open_volume.ensures.reads;
  failed = λ e. inl (c.in-Err-Device.ensures.reads.cause c.in-Err-Device.field-0-is);
}

pub returns-in-Err-Memory-clause-cause : goal.returns-in-Err-Memory-clause-cause
returns-in-Err-Memory-clause-cause g c = λ n. record { later = reads_later _ _ _ _ n c.open_volume.ensures.reads; failed = λ e. absurd (cc e) }

pub returns-in-Err-clause-cause : goal.returns-in-Err-clause-cause
returns-in-Err-clause-cause g c = λ n. end_then _ _ _ _ (reads_later _ _ _ _ n c.open_volume.ensures.reads) (c.show_directory.ensures.cause n)
