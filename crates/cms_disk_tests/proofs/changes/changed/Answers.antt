use Rattle.std.proofs.Common.{sym, ◌∙◌, ap}
use Rattle.cms_disk_tests.proofs.Accessed.{ok_if, readable, writable}
use Rattle.cms_disk_tests.proofs.changes.changed.Goals as goal

pub erase-answer-requires-clause-blocks : goal.erase-answer-requires-clause-blocks
erase-answer-requires-clause-blocks c =
    let unit = c.in_ok-unit.unit in
    let was = sym c.ok.ensures.value ∙ c.in_ok-unit.was in
    let is = sym c.ok-2.ensures.value ∙ c.in_ok-disk.was in
    let info = c.info_of-info in
    readable _ _ unit.number unit.blocks info.result c.access.result c.in_ok-disk.disk is c.access.ensures.unit c.access.ensures.synced (ap (λ x. x.number) info.ensures.unit)
    (ap (λ x. x.blocks) info.ensures.unit) info.ensures.bsize (ok_if c.attach.result unit _ was c.attach.ensures.held)

pub erase-answer-requires-clause-writable : goal.erase-answer-requires-clause-writable
erase-answer-requires-clause-writable c = λ can.
    let unit = c.in_ok-unit.unit in
    let was = sym c.ok.ensures.value ∙ c.in_ok-unit.was in
    let is = sym c.ok-2.ensures.value ∙ c.in_ok-disk.was in
    let info = c.info_of-info in
    writable _ _ unit.number c.args.access info.result c.access.result c.in_ok-disk.disk is c.access.ensures.unit c.access.ensures.synced (ap (λ x. x.number) info.ensures.unit)
    info.ensures.writable (ok_if c.attach.result unit _ was c.attach.ensures.writable) can

pub rename-answer-requires-clause-blocks : goal.rename-answer-requires-clause-blocks
rename-answer-requires-clause-blocks c =
    let unit = c.in_ok-unit.unit in
    let was = sym c.ok.ensures.value ∙ c.in_ok-unit.was in
    let is = sym c.ok-2.ensures.value ∙ c.in_ok-disk.was in
    let info = c.info_of-info in
    readable _ _ unit.number unit.blocks info.result c.access.result c.in_ok-disk.disk is c.access.ensures.unit c.access.ensures.synced (ap (λ x. x.number) info.ensures.unit)
    (ap (λ x. x.blocks) info.ensures.unit) info.ensures.bsize (ok_if c.attach.result unit _ was c.attach.ensures.held)

pub rename-answer-requires-clause-writable : goal.rename-answer-requires-clause-writable
rename-answer-requires-clause-writable c = λ can.
    let unit = c.in_ok-unit.unit in
    let was = sym c.ok.ensures.value ∙ c.in_ok-unit.was in
    let is = sym c.ok-2.ensures.value ∙ c.in_ok-disk.was in
    let info = c.info_of-info in
    writable _ _ unit.number c.args.access info.result c.access.result c.in_ok-disk.disk is c.access.ensures.unit c.access.ensures.synced (ap (λ x. x.number) info.ensures.unit)
    info.ensures.writable (ok_if c.attach.result unit _ was c.attach.ensures.writable) can

pub relabel-answer-requires-clause-blocks : goal.relabel-answer-requires-clause-blocks
relabel-answer-requires-clause-blocks c =
    let unit = c.in_ok-unit.unit in
    let was = sym c.ok.ensures.value ∙ c.in_ok-unit.was in
    let is = sym c.ok-2.ensures.value ∙ c.in_ok-disk.was in
    let info = c.info_of-info in
    readable _ _ unit.number unit.blocks info.result c.access.result c.in_ok-disk.disk is c.access.ensures.unit c.access.ensures.synced (ap (λ x. x.number) info.ensures.unit)
    (ap (λ x. x.blocks) info.ensures.unit) info.ensures.bsize (ok_if c.attach.result unit _ was c.attach.ensures.held)

pub relabel-answer-requires-clause-writable : goal.relabel-answer-requires-clause-writable
relabel-answer-requires-clause-writable c = λ can.
    let unit = c.in_ok-unit.unit in
    let was = sym c.ok.ensures.value ∙ c.in_ok-unit.was in
    let is = sym c.ok-2.ensures.value ∙ c.in_ok-disk.was in
    let info = c.info_of-info in
    writable _ _ unit.number c.args.access info.result c.access.result c.in_ok-disk.disk is c.access.ensures.unit c.access.ensures.synced (ap (λ x. x.number) info.ensures.unit)
    info.ensures.writable (ok_if c.attach.result unit _ was c.attach.ensures.writable) can

pub century-answer-requires-clause-blocks : goal.century-answer-requires-clause-blocks
century-answer-requires-clause-blocks c =
    let unit = c.in_ok-unit.unit in
    let was = sym c.ok.ensures.value ∙ c.in_ok-unit.was in
    let is = sym c.ok-2.ensures.value ∙ c.in_ok-disk.was in
    let info = c.info_of-info in
    readable _ _ unit.number unit.blocks info.result c.access.result c.in_ok-disk.disk is c.access.ensures.unit c.access.ensures.synced (ap (λ x. x.number) info.ensures.unit)
    (ap (λ x. x.blocks) info.ensures.unit) info.ensures.bsize (ok_if c.attach.result unit _ was c.attach.ensures.held)

pub century-answer-requires-clause-writable : goal.century-answer-requires-clause-writable
century-answer-requires-clause-writable c = λ can.
    let unit = c.in_ok-unit.unit in
    let was = sym c.ok.ensures.value ∙ c.in_ok-unit.was in
    let is = sym c.ok-2.ensures.value ∙ c.in_ok-disk.was in
    let info = c.info_of-info in
    writable _ _ unit.number c.args.access info.result c.access.result c.in_ok-disk.disk is c.access.ensures.unit c.access.ensures.synced (ap (λ x. x.number) info.ensures.unit)
    info.ensures.writable (ok_if c.attach.result unit _ was c.attach.ensures.writable) can
