use Rattle.std.proofs.Common.{◌≡◌, ◌<◌, ◌≤◌, Ok, length}
use Rattle.std.specs.Prelude.{⊤}
use Rattle.std.specs.Option.{ForSome}
use Rattle.cms_held.specs.BlockWriters.{AddsOwnBlocks, CanWrite, IsWriter, TakesBytes}
use Rattle.cms_held.proofs.BlockWritten.{Begun}
use Rattle.cms_held.proofs.block_writer.BlockWriter.append.Given as goal

abbrev pub invariant-append : goal.invariant-append
invariant-append g l = record {
  is : IsWriter l.self;
  unfilled : l.self.filled < l.self.bsize;
  last : l.self.mark.last ≡ l.fn.self.mark.last;
  begun : Begun l.fn.self l.self l.bytes l.rest;
  writes : TakesBytes {A = ⊤} (g.W.World.told l.fn.world) (g.W.World.told l.world) l.fn.self l.self l.bytes (Ok tt);
  own : AddsOwnBlocks (g.W.World.told l.fn.world) (g.W.World.told l.world) l.fn.self;
  ready : ForSome (g.W.World.told l.world) (λ j. CanWrite j.units l.self);
  faults : g.W.World.faults l.fn.world ≤ g.W.World.faults l.world;
  edges : g.W.World.edges l.world ≡ g.W.World.edges l.fn.world;
}

abbrev pub decreases-append : goal.decreases-append
decreases-append g l = length l.rest
