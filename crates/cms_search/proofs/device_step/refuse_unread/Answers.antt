use Rattle.std.proofs.Common.{◌≡◌, ℕ, refl}
use Rattle.cms_line.specs.declared.message.Message.TheVariants.{M105}
use Rattle.cms_disk.specs.declared.fault.DiskFault.{DiskFault}
use Rattle.cms_disk.specs.declared.fault.DiskFault.TheVariants.{Altered}
use Rattle.cms_search.specs.Refusals.{fault, unread_code, unread_message}
use Rattle.cms_search.specs.Texts.{device_text}
use Rattle.cms_search.proofs.device_step.refuse_unread.Goals as goal

-- any other fault is told as one of the device
other : (why : DiskFault) (vdev : ℕ) → (why ≡ Altered → ⊥) → (unread_message why vdev ≡ M105 (device_text vdev)) × (unread_code why ≡ fault)
other Altered vdev apart = absurd (apart refl)
other why vdev apart = (refl, refl)

pub returns-in-Altered-clause-does : goal.returns-in-Altered-clause-does
returns-in-Altered-clause-does g c = let is = c.in-Altered.is in rw is c.refuse_altered.ensures.does

pub returns-in-Altered-clause-went : goal.returns-in-Altered-clause-went
returns-in-Altered-clause-went g c = let is = c.in-Altered.is in rw is c.refuse_altered.ensures.went

pub returns-in_default-clause-does : goal.returns-in_default-clause-does
returns-in_default-clause-does g c = let is = other c.args.fault c.args.vdev c.in_default.not-Altered in rw is.0 c.refuse_device.ensures.does

pub returns-in_default-clause-went : goal.returns-in_default-clause-went
returns-in_default-clause-went g c = let is = other c.args.fault c.args.vdev c.in_default.not-Altered in rw is.1 c.refuse_device.ensures.went
