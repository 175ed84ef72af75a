use Rattle.std.proofs.Common.{length}
use Rattle.cms_words.proofs.units.+has_device.Given as goal

abbrev pub decreases-has_device : goal.decreases-has_device
decreases-has_device l = length l.units.now
