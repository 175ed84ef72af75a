use Rattle.cms_held.proofs.SharedTrees.{levels_are_read, read_stands, shared_tree_stands}
use Rattle.cms_held.proofs.SharedWrites.{fresh_are_written, written_is_shared}
use Rattle.cms_held.proofs.laws.shared_tree_laws.Goals as goal

pub returns-clause-levels : goal.returns-clause-levels
returns-clause-levels c = read_stands

pub returns-clause-stands : goal.returns-clause-stands
returns-clause-stands c = shared_tree_stands

pub returns-clause-read : goal.returns-clause-read
returns-clause-read c = levels_are_read

pub returns-clause-written : goal.returns-clause-written
returns-clause-written c = fresh_are_written

pub returns-clause-shared : goal.returns-clause-shared
returns-clause-shared c = written_is_shared
