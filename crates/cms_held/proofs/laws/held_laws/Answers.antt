use Rattle.cms_held.proofs.HeldTrees.{opened_has_held}
use Rattle.cms_held.proofs.HeldFiles.{entries_tell_lengths, opened_is_held, opened_has_room, place_is_told}
use Rattle.cms_held.proofs.OpenedTrees.{opened_trees_stand}
use Rattle.cms_held.proofs.laws.held_laws.Goals as goal

pub returns-clause-trees : goal.returns-clause-trees
returns-clause-trees c = opened_has_held

pub returns-clause-stand : goal.returns-clause-stand
returns-clause-stand c = opened_trees_stand

pub returns-clause-held : goal.returns-clause-held
returns-clause-held c = opened_is_held

pub returns-clause-room : goal.returns-clause-room
returns-clause-room c = opened_has_room

pub returns-clause-told : goal.returns-clause-told
returns-clause-told c = entries_tell_lengths

pub returns-clause-place : goal.returns-clause-place
returns-clause-place c = place_is_told
