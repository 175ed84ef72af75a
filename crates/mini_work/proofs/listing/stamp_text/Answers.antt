use Rattle.std.proofs.Common.{refl}
use Rattle.mini_work.proofs.listing.stamp_text.Goals as goal

pub returns : goal.returns
returns c =
    simp (c.tens.ensures, c.ones.ensures, c.tens-2.ensures, c.ones-2.ensures, c.tens-3.ensures, c.ones-3.ensures, c.tens-4.ensures, c.ones-4.ensures, c.tens-5.ensures, c.ones-5.ensures, c.tens-6.ensures, c.ones-6.ensures, c.tens-7.ensures, c.ones-7.ensures, c.from-month.ensures, c.from-day.ensures, c.from-hour.ensures, c.from-minute.ensures, c.from-second.ensures) refl
