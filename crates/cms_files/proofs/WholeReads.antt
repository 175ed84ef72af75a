-- A file of a disk that is read whole, by one device step.
use Rattle.std.proofs.Common.{◌≡◌, ◌∙◌, ℕ, List, [], ◌∷◌, Option, Some, None, arith, length, slice_get, slice_index_or, refl, sym, subst}
use Rattle.cms_journal.specs.Causes.{Counted}
use Rattle.cms_journal.specs.Told.{Told}
use Rattle.cms_names.specs.declared.name.Name.{Name}
use Rattle.cms_model.specs.Changes.{file_named}
use Rattle.cms_model.specs.LawsChanges.{IsPlace}
use Rattle.cms_model.specs.Minidisks.{File, Minidisk}
use Rattle.cms_model.specs.Trees.{Image}
use Rattle.cms_model.proofs.ListChanges.{place_changed}
use Rattle.cms_model.specs.Acts as acts
use Rattle.cms_model.specs.Acts.{Act}
use Rattle.cms_model.specs.Runs.{Ran}
use Rattle.cms_model.specs.Slots.{Slot}
use Rattle.cms_model.specs.Steps.{Get, MayGet, Offers, Outcome, faults_in}
use Rattle.cms_model.proofs.Single.{ran_still}
use Rattle.cms_disk.specs.Disks.{Accessed, StandsIn, place_of}
use Rattle.cms_disk.proofs.FilesFound.{stands_tells}
use Rattle.cms_held.specs.LawsHeld.{IsFound}
use Rattle.cms_world.specs.Seen.{Seen}
use Rattle.cms_search.specs.Calls.{Comes, Holds, Spot, at, holds}
use Rattle.cms_search.specs.DeviceSteps.{HasRead}
use Rattle.cms_search.proofs.Acts.{usable_later}
use Rattle.cms_search.proofs.HandedRecords.{passes_read}

-- ---- the device step

-- behind the calls that read
abbrev pub seen_now : Spot → Seen → Spot
seen_now old now = record { world = now; state = old.state }

-- on these units a tree reads all records of a file, and goes on so by this outcome
pub record ReadsAll {R : Type 0} (units : List Slot) (t : Act R) (o : Outcome) (next : Act R) : Type 0 where
  pub unit : ℕ
  pub file : File
  pub then' : Outcome → Act R
  pub offers : Offers (slice_get units unit) file (length file.records)
  pub tree : t ≡ acts.Does (Get unit file (length file.records)) then'
  pub is : then' o ≡ next

-- units were read alone, and the step has come to this outcome
pub comes_read : {R : Type 0} (old : Spot) (now : Seen) (t next : List Slot → Act R) (o : Outcome) → HasRead old.world now → ((n : ℕ) → MayGet n o)
    → Counted old.world.faults (faults_in (o ∷ [])) now.faults → ((units : List Slot) → holds old units → ReadsAll units (t units) o (next units))
    → Comes old (seen_now old now) t next
comes_read old now t next o read may counted reads =
    let new : Spot = seen_now old now in
    let passes = passes_read old.world now read in
    record {
      each = λ units h.
          let r = reads units h in
          let ran = ran_still (at old units) (at new units) (Get r.unit r.file (length r.file.records)) o r.then' read.told counted refl (may (length r.file.records)) r.offers refl refl
          (record { unread = refl; ended = refl }) refl in (
            units,
            (
              subst (λ (told : Told). Holds told old.state.table units) (sym read.told) h,
              subst (λ (z : Act _). Ran (at old units) (at new units) z (next units)) (sym r.tree)
                  (subst (λ (z : Act _). Ran (at old units) (at new units) (acts.Does (Get r.unit r.file (length r.file.records)) r.then') z) r.is ran),
            ),
          );
      later = passes.later;
      usable = usable_later old new passes.later refl;
    }

-- ---- the file

-- the file of a name, where the name has a place
named_at : (name : Name) (fs : List File) (k : ℕ) → IsPlace name fs k → (f : File) × (file_named name fs ≡ Some f)
named_at name [] k p = absurd (let less = p.within in omega arith)
named_at name (f ∷ fs) k p = (slice_index_or (f ∷ fs) k f, (place_changed name (f ∷ fs) k p).found f)

pub there_is : (image : Image) (d : Accessed) (m : Minidisk) (name : Name) (x : Option ℕ) → StandsIn image d m → place_of name d.volume ≡ x → (x ≡ None → ⊥)
    → (f : File) × (file_named name m.files ≡ Some f)
there_is image d m name None s is some = absurd (some refl)
there_is image d m name (Some k) s is some = named_at name m.files k (subst (IsFound name m.files) is ((stands_tells image d m s).found name))

pub some_place : (k : ℕ) (x : Option ℕ) → Some k ≡ x → x ≡ None → ⊥
some_place k x is none = let e : Some k ≡ None = is ∙ none in absurd (cc e)
