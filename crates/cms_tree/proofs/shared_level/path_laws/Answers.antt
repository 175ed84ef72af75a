use Rattle.cms_tree.proofs.Heaps.{heaped_is_read}
use Rattle.cms_tree.proofs.Paths.{path_is_shared, path_is_whole, path_takes_first, path_takes_no_more}
use Rattle.cms_tree.proofs.shared_level.path_laws.Goals as goal

pub returns-clause-shared : goal.returns-clause-shared
returns-clause-shared c = path_is_shared

pub returns-clause-taken : goal.returns-clause-taken
returns-clause-taken c = path_takes_first

pub returns-clause-whole : goal.returns-clause-whole
returns-clause-whole c = path_is_whole

pub returns-clause-few : goal.returns-clause-few
returns-clause-few c = path_takes_no_more

pub returns-clause-read : goal.returns-clause-read
returns-clause-read c = heaped_is_read
