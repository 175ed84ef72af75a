use Rattle.std.proofs.Common.{arith}
use Rattle.cms_edf.proofs.Spelled.{reads_back}
use Rattle.cms_edf.proofs.directory_bytes.spell_entry.Goals as goal

pub returns : goal.returns
returns c = reads_back c.args.entry.now (record {
  file = c.padded-file.ensures.part;
  kind = c.padded-kind.ensures.part;
  length_fits = omega arith;
  root_fits = omega arith;
  blocks_fits = omega arith;
  count_fits = omega arith;
})
