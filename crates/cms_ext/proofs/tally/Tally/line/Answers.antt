use Rattle.std.proofs.Common.{◌≡◌, rules}
use Rattle.cms_ext.specs.Tally.{tally_line}
use Rattle.cms_ext.proofs.Counts.{tally_short}
use Rattle.cms_ext.proofs.tally.Tally.line.Goals as goal

pub take-requires : goal.take-requires
take-requires c =
    let is : c.extend_from_slice.new.self.items ≡ tally_line c.args.self.now.count = search rules in
    rw is (tally_short c.args.self.now.count c.args.self.now.few)
