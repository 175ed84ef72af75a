use Rattle.std.proofs.Common.{sym}
use Rattle.cms_access.proofs.Releases.{device_accessed, device_missing, device_unaccessed}
use Rattle.cms_access.proofs.release.release_device.Goals as goal

pub returns-in-None-clause-acts : goal.returns-in-None-clause-acts
returns-in-None-clause-acts g c =
    device_missing _ _ c.args.state.now c.args.vdev c.refuse_no_device.result (sym c.in-None.ensures.unit)
    c.refuse_no_device.ensures.does c.refuse_no_device.ensures.went

pub returns-in-Some-clause-acts : goal.returns-in-Some-clause-acts
returns-in-Some-clause-acts g c =
    device_accessed _ _ c.args.vdev c.in-Some.letter _ c.release_letter.result (sym c.in_default.ensures.unit) c.in-Some.ensures.letter c.release_letter.ensures.acts

pub returns-in-None-letter_on-clause-acts : goal.returns-in-None-letter_on-clause-acts
returns-in-None-letter_on-clause-acts g c =
    device_unaccessed _ _ c.args.vdev _ c.refuse_unaccessed.result (sym c.in_default.ensures.unit) c.in-None-letter_on.ensures.letter
    c.refuse_unaccessed.ensures
