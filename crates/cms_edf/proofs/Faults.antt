-- Faults of the image.
use Rattle.std.proofs.Common.{◌≡◌, ◌⊎◌, inl, inr, Result, Err, sym, subst}
use Rattle.cms_model.specs.declared.fault.OpenFault.{OpenFault}
use Rattle.cms_model.specs.declared.fault.OpenFault.TheVariants as failed
use Rattle.cms_held.specs.HeldVolumes.{IsFaultOf}

-- what is found is a fault
pub fault_is : {A : Type 0} (found : Result A OpenFault) (why : OpenFault) → found ≡ Err why → IsFaultOf found why
fault_is found failed.Device is = tt
fault_is found failed.Memory is = tt
fault_is found (failed.Label k) is = is
fault_is found (failed.Entry n k) is = is
fault_is found (failed.Pointer holder value) is = is
fault_is found (failed.Crossed n) is = is
fault_is found (failed.MapMissing n) is = is
fault_is found (failed.Var n k) is = is
fault_is found (failed.Twice n) is = is
fault_is found (failed.System n) is = is

-- a fault of the device, or of memory, is one whatever is found
pub fault_plain : {A : Type 0} (found : Result A OpenFault) (why : OpenFault) → (why ≡ failed.Device) ⊎ (why ≡ failed.Memory) → IsFaultOf found why
fault_plain found why (inl is) = subst (IsFaultOf found) (sym is) tt
fault_plain found why (inr is) = subst (IsFaultOf found) (sym is) tt

pub fault_memory : {A : Type 0} (found : Result A OpenFault) (why : OpenFault) → why ≡ failed.Memory → IsFaultOf found why
fault_memory found why is = fault_plain found why (inr is)

-- a fault of a part is one of the whole where the part's fault is the whole's
pub fault_passes : {A B : Type 0} (part : Result A OpenFault) (whole : Result B OpenFault) (why : OpenFault) → ((e : OpenFault) → part ≡ Err e → whole ≡ Err e) → IsFaultOf part why
    → IsFaultOf whole why
fault_passes part whole failed.Device passes is = tt
fault_passes part whole failed.Memory passes is = tt
fault_passes part whole (failed.Label k) passes is = passes (failed.Label k) is
fault_passes part whole (failed.Entry n k) passes is = passes (failed.Entry n k) is
fault_passes part whole (failed.Pointer holder value) passes is = passes (failed.Pointer holder value) is
fault_passes part whole (failed.Crossed n) passes is = passes (failed.Crossed n) is
fault_passes part whole (failed.MapMissing n) passes is = passes (failed.MapMissing n) is
fault_passes part whole (failed.Var n k) passes is = passes (failed.Var n k) is
fault_passes part whole (failed.Twice n) passes is = passes (failed.Twice n) is
fault_passes part whole (failed.System n) passes is = passes (failed.System n) is
