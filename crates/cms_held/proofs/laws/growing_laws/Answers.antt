use Rattle.cms_held.proofs.Grown.{grown_is_shared}
use Rattle.cms_held.proofs.GrownFiles.{grown_holds}
use Rattle.cms_held.proofs.GrownBlocks.{own_is_fresh}
use Rattle.cms_held.proofs.GrownFronts.{front_stays}
use Rattle.cms_held.proofs.GrownStarts.{grown_starts}
use Rattle.cms_held.proofs.GrownEdits.{grow_edits}
use Rattle.cms_held.proofs.laws.growing_laws.Goals as goal

pub returns-clause-shared : goal.returns-clause-shared
returns-clause-shared c = grown_is_shared

pub returns-clause-holds : goal.returns-clause-holds
returns-clause-holds c = grown_holds

pub returns-clause-own : goal.returns-clause-own
returns-clause-own c = own_is_fresh

pub returns-clause-edits : goal.returns-clause-edits
returns-clause-edits c = grow_edits

pub returns-clause-stays : goal.returns-clause-stays
returns-clause-stays c = front_stays

pub returns-clause-begins : goal.returns-clause-begins
returns-clause-begins c = grown_starts
