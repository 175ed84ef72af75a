use Rattle.cms_model.proofs.DirectoryNeed.{directory_is_needed, place_is_named}
use Rattle.cms_model.proofs.Needs.{need_taken, changed_where_made, full_where_lacking, limited_where_passing, room_kept}
use Rattle.cms_model.proofs.laws.room_laws.Goals as goal

pub returns-clause-need : goal.returns-clause-need
returns-clause-need c = need_taken

pub returns-clause-made : goal.returns-clause-made
returns-clause-made c = changed_where_made

pub returns-clause-full : goal.returns-clause-full
returns-clause-full c = full_where_lacking

pub returns-clause-limited : goal.returns-clause-limited
returns-clause-limited c = limited_where_passing

pub returns-clause-room : goal.returns-clause-room
returns-clause-room c = room_kept

pub returns-clause-named : goal.returns-clause-named
returns-clause-named c = place_is_named

pub returns-clause-needed : goal.returns-clause-needed
returns-clause-needed c = directory_is_needed
