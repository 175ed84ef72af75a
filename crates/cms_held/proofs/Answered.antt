-- The minidisk after an update, the room that it needs, and another volume id.
use Rattle.std.proofs.Common.{◌≡◌, ℕ, ◌+◌, ◌≤◌, List, length, map, Some, refl, sym, ◌∙◌, ap, arith}
use Rattle.cms_journal.specs.Journal.{Journal}
use Rattle.cms_fields.specs.declared.label.Label.{Label}
use Rattle.cms_model.specs.Trees.{Image}
use Rattle.cms_model.specs.Minidisks.{File, Minidisk}
use Rattle.cms_model.specs.Sizes.{free_count, map_size}
use Rattle.cms_model.specs.Changes.{Change, Put, Add, Drop, Rename, Relabel, Century, changed, changed_files, changed_volid, directory_fresh, entries_made, need, written_file}
use Rattle.cms_model.specs.Stands.{Kept, Layout, file_of, minidisk_in, opened}
use Rattle.cms_model.specs.LawsRoom.{IsWithin}
use Rattle.cms_model.specs.LawsUpdates.{now}
use Rattle.cms_model.proofs.Needs.{changed_where_made, full_where_lacking}
use Rattle.cms_model.proofs.Renewed.{minidisk_is}
use Rattle.cms_map.specs.Bits.{free_blocks}
use Rattle.cms_held.specs.HeldVolumes.{HeldVolume}
use Rattle.cms_held.specs.Renewals.{Edit, needed}
use Rattle.cms_held.specs.Systems.{Systems}
use Rattle.cms_held.specs.LawsRenewals.{Renews}
use Rattle.cms_held.specs.LawsEdits.{EditIsAnswered, Edits, IsEdit, RenewedIsChanged}
use Rattle.cms_held.proofs.HeldFiles.{opened_has_room}
use Rattle.cms_held.proofs.OldBlocks.{old_opens}
use Rattle.cms_held.proofs.PutAsides.{files_count}

-- ---- the minidisk

pub same_volid : (volid : List ℕ) (change : Change) → IsEdit change → changed_volid volid change ≡ volid
same_volid volid (Drop name) is = refl
same_volid volid (Rename from to number) is = refl
same_volid volid (Century pivot) is = refl
same_volid volid (Put new) is = absurd is
same_volid volid (Add name more stamp) is = absurd is
same_volid volid (Relabel new) is = absurd is

pub renewed_changed : (j : Journal) (before later : Image) (v : HeldVolume) (edit : Edit) (s : Systems) (old : Layout) (change : Change) → (e : Edits before later v edit old change)
    → changed_volid old.label.volid change ≡ old.label.volid → (r : Renews j v edit s old e.files) → minidisk_in v.disk r.new ≡ changed (minidisk_in v.disk old) change
unfolding changed
renewed_changed j before later v edit s old change e same r =
    let files : map file_of r.new.files ≡ changed_files (map file_of old.files) change = ap (λ (fs : List Kept). map file_of fs) r.files_are ∙ e.files_are in
    let volid : r.new.label.volid ≡ changed_volid old.label.volid change = r.volid_is ∙ sym same in
    λ i. record { volid = volid i; bsize = v.disk.bsize; total = r.blocks_are i; lost = r.lost_is i; files = files i }

pub renewed_is_changed : RenewedIsChanged
renewed_is_changed j before later v edit s old change e is r = renewed_changed j before later v edit s old change e (same_volid old.label.volid change is) r

-- ---- room

none_written : (m : Minidisk) (change : Change) → IsEdit change → (f : File) → written_file m change ≡ Some f → IsWithin f
unfolding written_file
none_written m (Drop name) is f e = absurd (cc)
none_written m (Rename from to number) is f e = absurd (cc)
none_written m (Century pivot) is f e = absurd (cc)
none_written m (Put new) is f e = absurd is
none_written m (Add name more stamp) is f e = absurd is
none_written m (Relabel volid) is f e = absurd is

pub needs_so : (v : HeldVolume) (old : Layout) (change : Change) → v.label.blocks ≡ old.label.blocks → length (map file_of old.files) ≡ length v.files → IsEdit change
    → need (minidisk_in v.disk old) change ≡ needed v (length (changed_files (map file_of old.files) change)) (entries_made (map file_of old.files) change)
unfolding need
needs_so v old (Drop name) same count is = rw (same, count) refl
needs_so v old (Rename from to number) same count is = rw (same, count) refl
needs_so v old (Century pivot) same count is = rw (same, count) refl
needs_so v old (Put new) same count is = absurd is
needs_so v old (Add name more stamp) same count is = absurd is
needs_so v old (Relabel volid) same count is = absurd is

-- a change writes one block more than it needs at most
pub edit_small : (v : HeldVolume) (old : Layout) (change : Change) (writes : ℕ) → v.label.blocks ≡ old.label.blocks → IsEdit change
    → writes ≤ directory_fresh (minidisk_in v.disk old) change + map_size v.disk.bsize v.label.blocks + 1 → writes ≤ need (minidisk_in v.disk old) change + 1
unfolding need
edit_small v old (Drop name) writes same is few = rw (sym same) few
edit_small v old (Rename from to number) writes same is few = rw (sym same) few
edit_small v old (Century pivot) writes same is few = rw (sym same) few
edit_small v old (Put new) writes same is few = absurd is
edit_small v old (Add name more stamp) writes same is few = absurd is
edit_small v old (Relabel volid) writes same is few = absurd is

changed_count : (m : Minidisk) (change : Change) → length (changed m change).files ≡ length (changed_files m.files change)
unfolding changed
changed_count m change = refl

pub edit_is_answered : EditIsAnswered
edit_is_answered j v old change x is few =
    let m = minidisk_in v.disk old in
    let room = opened_has_room v.unit v.disk (now j v.unit) (opened old) v x.whole (old_opens j v old x) x.held in
    let free : length (free_blocks v.bits) ≡ free_count m = room.free_is ∙ ap free_count (minidisk_is v.disk old) in
    let needs = needs_so v old change (ap (λ (l : Label). l.blocks) x.held.label_is) (files_count j v old x) is in
    let count = changed_count m change in
    record {
      made = λ enough. (changed_where_made m (changed m change) change).1 (record {
        is = refl;
        few = omega arith;
        within = none_written m change is;
        room = omega arith;
      });
      full = λ short. (full_where_lacking m change (needed v (length (changed_files (map file_of old.files) change)) (entries_made (map file_of old.files) change)) (length (free_blocks v.bits))).1 (record {
        few = omega arith;
        within = none_written m change is;
        needed_is = sym needs;
        free_is = free;
        short = short;
      });
    }
