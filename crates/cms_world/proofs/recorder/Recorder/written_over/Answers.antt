use Rattle.std.proofs.Common.{◌∙◌, arith}
use Rattle.cms_world.proofs.UnitImages.{written_over_next}
use Rattle.cms_world.proofs.recorder.Recorder.written_over.Goals as goal

pub loop-number-preserved : goal.loop-number-preserved
loop-number-preserved c =
    written_over_next c.args.self.now c.loop-number.number c.args.name.now c.loop-number.written.items _ (omega arith) c.in_ok-written-2.ensures
    ∙ c.loop-number.invariant
