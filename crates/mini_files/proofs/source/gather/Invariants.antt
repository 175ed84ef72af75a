use Rattle.std.proofs.Common.{◌-◌, length}
use Rattle.mini_files.proofs.source.gather.Given as goal

-- how much may still be gathered
abbrev pub decreases-loop-piece : goal.decreases-loop-piece
decreases-loop-piece g l = 268435457 - length l.all.items
