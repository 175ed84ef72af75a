use Rattle.cms_ext.proofs.Exact.{started}
use Rattle.cms_ext.proofs.tally.TallyExtension.turn.Goals as goal

pub returns-in-Start : goal.returns-in-Start
returns-in-Start c =
    rw c.in-Start.is (started _ _ _ _ c.args.self.now.few c.start.ensures.says c.start.ensures.counts c.start.ensures.kept)
