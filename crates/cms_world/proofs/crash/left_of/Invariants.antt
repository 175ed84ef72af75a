use Rattle.std.proofs.Common.{◌≡◌, reverse, take}
use Rattle.cms_journal.specs.Journal.{block_after, block_at_sync}
use Rattle.cms_world.specs.Crash.{was_written}
use Rattle.cms_world.proofs.crash.left_of.Given as goal

abbrev pub invariant-loop-event : goal.invariant-loop-event
invariant-loop-event l = record {
  synced : l.synced ≡ block_at_sync (reverse (take l.event-index l.events)) l.unit l.block l.first;
  last : l.last ≡ block_after (reverse (take l.event-index l.events)) l.unit l.block l.first;
  written : l.written ≡ was_written (reverse (take l.event-index l.events)) l.unit l.block;
}
