use Rattle.std.proofs.Common.{◌≡◌, ◌*◌, length, take, All}
use Rattle.std.specs.List.{concat}
use Rattle.cms_journal.specs.Blocks.{first_blocks}
use Rattle.cms_journal.proofs.bytes.Blocks.cut.Given as goal

abbrev pub invariant-loop-place : goal.invariant-loop-place
invariant-loop-place l = record {
  sizes : All (λ block. length block ≡ l.size) l.blocks;
  count : length l.blocks ≡ l.place;
  blocks : l.blocks ≡ first_blocks l.place l.size l.bytes;
  joined : concat l.blocks ≡ take (l.place * l.size) l.bytes;
}
