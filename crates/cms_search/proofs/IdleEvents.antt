-- What a journal holds, after events that leave every unit alone.
use Rattle.std.proofs.Common.{◌≡◌, List, Some, None, refl, ◌∙◌}
use Rattle.std.proofs.lemmas.Option.{same_Some}
use Rattle.cms_journal.specs.declared.event.Event.{Event}
use Rattle.cms_journal.specs.Journal.{Journal}
use Rattle.cms_journal.specs.Told.{Told, NoDisk, Idle, Grown}
use Rattle.cms_journal.proofs.Events.{no_disk_aside}
use Rattle.cms_journal.proofs.Pieces.{plus-some, plus-none}
use Rattle.cms_model.specs.LawsUpdates.{after}
use Rattle.cms_model.specs.Slots.{Slot}
use Rattle.cms_search.specs.Calls.{Holds, IsUsableTable, Usable}
use Rattle.cms_search.specs.Held.{HoldsTable}
use Rattle.cms_search.specs.Tables.{AccessTable}
use Rattle.cms_search.proofs.Frames.{holds_aside, same_unit}

-- what is held is held still
held_idle : (j : Journal) (piece : List Event) (t : AccessTable) (units : List Slot) → NoDisk piece → HoldsTable j units t → HoldsTable (after j piece) units t
held_idle j piece t units none h = record {
  table = h.table;
  same = h.same;
  all = h.all;
  each = λ u unit has. holds_aside j piece units units t t u unit (no_disk_aside piece u none) (same_unit units t u) (h.each u unit has);
}

pub holds_idle : (old new : Told) (t : AccessTable) (units : List Slot) → Idle old new → Holds old t units → Holds new t units
holds_idle None new t units idle h = absurd h
holds_idle (Some j) new t units idle h =
    let is : new ≡ Some (after j idle.events) = idle.told ∙ plus-some j idle.events in
    rw is (held_idle j idle.events t units idle.none h)

-- a journal that holds something is told
pub holds_some : (told : Told) (t : AccessTable) (units : List Slot) → Holds told t units → (j : Journal) × (told ≡ Some j) × HoldsTable j units t
holds_some None t units h = absurd h
holds_some (Some j) t units h = (j, refl, h)

-- ---- what may be called

usable_after : (j : Journal) (piece : List Event) (t : AccessTable) → IsUsableTable j t → IsUsableTable (after j piece) t
usable_after j piece t u = record {
  units = λ n unit has. let x = u.units n unit has in record { blocks = x.blocks; writable = x.writable };
  seats = u.seats;
}

-- units that may be used may be used still
pub usable_grown : (old new : Told) (t : AccessTable) → Grown old new → Usable old t → Usable new t
usable_grown None new t grown usable = let e : new ≡ None = grown.told ∙ plus-none grown.events in rw e (λ j f. absurd (cc))
usable_grown (Some i) new t grown usable =
    let e : new ≡ Some (after i grown.events) = grown.told ∙ plus-some i grown.events in
    rw e (λ j f. let same : after i grown.events ≡ j = same_Some _ _ f in rw (← same) (usable_after i grown.events t (usable i refl)))
