use Rattle.cms_edit.specs.Editors.{answered}
use Rattle.cms_edit.proofs.HeldEditors.{answers}
use Rattle.cms_edit.proofs.editor.EditorExtension.turn.Goals as goal

pub returns-in-Start : goal.returns-in-Start
unfolding answered
returns-in-Start c = rw c.in-Start.is (answers _ _ _ _ c.started.ensures)

pub returns-in-Sub : goal.returns-in-Sub
unfolding answered
returns-in-Sub c = rw c.in-Sub.is (answers _ _ _ _ c.told_text.ensures)

pub returns-in-Went : goal.returns-in-Went
unfolding answered
returns-in-Went c = rw c.in-Went.is (answers _ _ _ _ c.went.ensures)

pub returns-in-Got : goal.returns-in-Got
unfolding answered
returns-in-Got c = rw c.in-Got.is (answers _ _ _ _ c.got.ensures)

pub returns-in-File : goal.returns-in-File
unfolding answered
returns-in-File c = rw c.in-File.is (answers _ _ _ _ c.filed.ensures)

pub returns-in-Refused : goal.returns-in-Refused
unfolding answered
returns-in-Refused c = rw c.in-Refused.is (answers _ _ _ _ c.refused.ensures)
