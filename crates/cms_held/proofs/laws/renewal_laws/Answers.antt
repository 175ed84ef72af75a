use Rattle.cms_held.proofs.StillHeld.{front_keeps_held}
use Rattle.cms_held.proofs.Relabelled.{relabel_is_held}
use Rattle.cms_held.proofs.PlannedWrites.{update_renews}
use Rattle.cms_held.proofs.Answered.{edit_is_answered, renewed_is_changed}
use Rattle.cms_held.proofs.Centuries.{century_edits}
use Rattle.cms_held.proofs.Edits.{drop_edits, rename_edits}
use Rattle.cms_held.proofs.laws.renewal_laws.Goals as goal

pub returns-clause-renews : goal.returns-clause-renews
returns-clause-renews c = update_renews

pub returns-clause-dropped : goal.returns-clause-dropped
returns-clause-dropped c = drop_edits

pub returns-clause-renamed : goal.returns-clause-renamed
returns-clause-renamed c = rename_edits

pub returns-clause-moved : goal.returns-clause-moved
returns-clause-moved c = century_edits

pub returns-clause-changed : goal.returns-clause-changed
returns-clause-changed c = renewed_is_changed

pub returns-clause-answered : goal.returns-clause-answered
returns-clause-answered c = edit_is_answered

pub returns-clause-relabelled : goal.returns-clause-relabelled
returns-clause-relabelled c = relabel_is_held

pub returns-clause-kept : goal.returns-clause-kept
returns-clause-kept c = front_keeps_held
