use Rattle.cms_search.proofs.table.change_minidisk.Goals as goal

pub returns-in-Drop : goal.returns-in-Drop
returns-in-Drop g c = let is = c.in-Drop.is in rw is (record { alters = c.erase.ensures.alters; changes = c.erase.ensures.changes })

pub returns-in-Rename : goal.returns-in-Rename
returns-in-Rename g c = let is = c.in-Rename.is in rw is (record { alters = c.rename.ensures.alters; changes = c.rename.ensures.changes })

pub returns-in-Relabel : goal.returns-in-Relabel
returns-in-Relabel g c = let is = c.in-Relabel.is in rw is (record { alters = c.relabel.ensures.alters; changes = c.relabel.ensures.changes })

pub returns-in-Century : goal.returns-in-Century
returns-in-Century g c = let is = c.in-Century.is in rw is (record { alters = c.century.ensures.alters; changes = c.century.ensures.changes })
