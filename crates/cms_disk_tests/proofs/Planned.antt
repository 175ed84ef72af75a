-- A step that was planned for a volume stays a plan, since planning leaves the volume.
use Rattle.std.proofs.Common.{◌≡◌, sym, subst}
use Rattle.cms_fields.specs.declared.time.Stamp.{Stamp}
use Rattle.cms_model.specs.Changes.{Change}
use Rattle.cms_held.specs.HeldVolumes.{HeldVolume}
use Rattle.cms_edf.specs.ChangePlans.{IsPlanFor}
use Rattle.cms_edf.specs.Updates.{IsPlan}
use Rattle.cms_edf.specs.declared.step.Step.{Step}

pub still : (v w : HeldVolume) (change : Change) (stamp : Stamp) (s : Step) → w ≡ v → IsPlanFor v change stamp s → IsPlan w s
still v w change stamp s same is = record { change = change; stamp = stamp; is = subst (λ (x : HeldVolume). IsPlanFor x change stamp s) (sym same) is }
