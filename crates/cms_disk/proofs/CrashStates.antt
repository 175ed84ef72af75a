-- What a crash leaves of a unit, as a machine looks at it, and as a disk of its own reads it.
use Rattle.std.proofs.Common.{◌≡◌, ℕ, List, [], Option, Some, sym, ap, ◌∙◌, subst}
use Rattle.std.specs.Option.{option_map_or}
use Rattle.cms_journal.specs.declared.event.Attached.{Attached}
use Rattle.cms_journal.specs.declared.event.Event.{Event}
use Rattle.cms_journal.specs.Journal.{Journal, start_of}
use Rattle.cms_journal.specs.Told.{Told, plus}
use Rattle.cms_model.specs.LawsUpdates.{after}
use Rattle.cms_model.specs.Minidisks.{State}
use Rattle.cms_model.specs.Settled.{EachCrash, MayLeave}
use Rattle.cms_model.specs.Trees.{image_of}
use Rattle.cms_model.specs.Volumes.{Disk, state_of}
use Rattle.cms_model.proofs.Fronts.{after_is_told}
use Rattle.cms_model.specs.Beats.{Covers}
use Rattle.cms_model.specs.Points.{Leaves, LeavesIn}
use Rattle.cms_disk.specs.CrashStates.{CoversOn, LeavesOn, LeavesOnIn, LooksAs}
use Rattle.cms_disk.specs.LawsDisks.{LookedAtIsCovered}

-- a state that a crash may leave is that of such an image
pub leaves_state : (j : Journal) (u : ℕ) (disk : Disk) (p : List Event) (P : State → Type 0) → EachCrash (after j p) u (λ image. P (state_of disk image))
    → (x : State) → LeavesOn disk (plus (Some j) p) u x → P x
leaves_state j u disk p P each x leaves =
    let l : LeavesOnIn disk (after j p) u x = subst (λ (t : Told). LeavesOn disk t u x) (after_is_told j p) leaves in
    subst P l.state (each l.image l.left)

-- what a machine finds left of a unit, the disk that it looks at finds
leaves_looked : (j : Journal) (u : ℕ) (disk : Disk) → LooksAs j u disk → (p : List Event) (x : State) → Leaves (plus (Some j) p) u x → LeavesOn disk (plus (Some j) p) u x
leaves_looked j u disk looked p x leaves =
    let l : LeavesIn (after j p) u x = subst (λ (t : Told). Leaves t u x) (after_is_told j p) leaves in
    let start : start_of j.units u ≡ l.unit.start = ap (λ (o : Option Attached). option_map_or (λ (a : Attached). a.start) o []) l.attached in
    let left : MayLeave (after j p) u l.image = rw start l.crash in
    let found : LeavesOnIn disk (after j p) u x =
    record { image = l.image; left = left; state = ap (λ (k : Disk). state_of k (image_of l.image)) (sym (looked l.unit l.attached)) ∙ l.state } in
    subst (λ (t : Told). LeavesOn disk t u x) (sym (after_is_told j p)) found

-- so what the disk covers is covered for the machine
pub looked_is_covered : LookedAtIsCovered
looked_is_covered disk j es u before later looked c = record {
  inside = λ front rest is x leaves. c.inside front rest is x (leaves_looked j u disk looked front x leaves);
  whole = λ x leaves. c.whole x (leaves_looked j u disk looked es x leaves);
}

-- the same, behind a journal that is told
pub covers_looked : (disk : Disk) (old : Told) (j : Journal) (es : List Event) (u : ℕ) (before later : List State) → old ≡ Some j → LooksAs j u disk → CoversOn disk old es u before later
    → Covers old es u before later
covers_looked disk old j es u before later is looked c =
    subst (λ (t : Told). Covers t es u before later) (sym is) (looked_is_covered disk j es u before later looked (subst (λ (t : Told). CoversOn disk t es u before later) is c))
