use Rattle.cms_model.proofs.Exchanges.{size_is_exchanged, takes_its_size}
use Rattle.cms_model.proofs.SharedTrees.{all_is_whole, takes_no_more, behind_is_written}
use Rattle.cms_model.proofs.ByLevels.{read_is_heaped}
use Rattle.cms_model.proofs.SharedTiers.{shared_stands}
use Rattle.cms_model.proofs.SharedTimes.{shared_times, leaves_times, came_is_fresh}
use Rattle.cms_model.proofs.laws.sharing_laws.Goals as goal

pub returns-clause-whole : goal.returns-clause-whole
returns-clause-whole c = all_is_whole

pub returns-clause-room : goal.returns-clause-room
returns-clause-room c = takes_no_more

pub returns-clause-behind : goal.returns-clause-behind
returns-clause-behind c = behind_is_written

pub returns-clause-read : goal.returns-clause-read
returns-clause-read c = read_is_heaped

pub returns-clause-stands : goal.returns-clause-stands
returns-clause-stands c = shared_stands

pub returns-clause-times : goal.returns-clause-times
returns-clause-times c = shared_times

pub returns-clause-leaves : goal.returns-clause-leaves
returns-clause-leaves c = leaves_times

pub returns-clause-came : goal.returns-clause-came
returns-clause-came c = came_is_fresh

pub returns-clause-exchanged : goal.returns-clause-exchanged
returns-clause-exchanged c = size_is_exchanged

pub returns-clause-few : goal.returns-clause-few
returns-clause-few c = takes_its_size
