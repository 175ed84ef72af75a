use Rattle.std.proofs.Common.{◌≡◌, ◌-◌, length}
use Rattle.cms_world.specs.Images.{written_over}
use Rattle.cms_world.proofs.recorder.Recorder.written_over.Given as goal

abbrev pub invariant-loop-number : goal.invariant-loop-number
invariant-loop-number l =
    written_over l.self l.number (length l.self.units - l.number) l.name l.written.items
    ≡ written_over l.self l.since (length l.self.units - l.since) l.name l.bytes
