-- What a disk that is a minidisk tells beside its files, and when it is still one.
use Rattle.std.proofs.Common.{◌≡◌, ⊎_elim, ℕ, ◌-◌, ◌≤◌, true, false, List, [], ◌∷◌, length, drop, slice_get, slice_index_or, Some, refl, sym, ◌∙◌, ap, subst, arith}
use Rattle.std.specs.Prelude.{nat_lt}
use Rattle.std.proofs.lemmas.Bool.{cases_Bool, le-ltb}
use Rattle.std.proofs.lemmas.Option.{slice_get-get_or}
use Rattle.cms_journal.specs.declared.event.Event.{Event}
use Rattle.cms_journal.specs.Journal.{Journal, IsUntouched}
use Rattle.cms_names.specs.declared.name.Name.{Name}
use Rattle.cms_fields.specs.declared.entry.Entry.{Entry}
use Rattle.cms_model.specs.Lists.{cut}
use Rattle.cms_model.specs.Trees.{Image, bytes_at, image_of}
use Rattle.cms_model.specs.Minidisks.{File, Minidisk, Volume}
use Rattle.cms_model.specs.Volumes.{files_of, minidisk_of, state_of}
use Rattle.cms_model.specs.Changes.{Drop, Limited, drop_file, changed_files, written_file, limit, is_full, answer_of, file_named}
use Rattle.cms_model.specs.LawsChanges.{IsPlace}
use Rattle.cms_model.specs.Settled.{IsSettled}
use Rattle.cms_model.specs.Stands.{opened}
use Rattle.cms_model.specs.LawsUpdates.{after, now}
use Rattle.cms_model.proofs.Cuts.{length_cut}
use Rattle.cms_model.proofs.FileSizes.{entries_fit}
use Rattle.cms_model.proofs.ListChanges.{place_changed}
use Rattle.cms_model.proofs.MinidiskSizes.{directory_fits}
use Rattle.cms_model.proofs.OpenedVolumes.{open_ok, state_opens}
use Rattle.cms_model.proofs.Renewed.{minidisk_is}
use Rattle.cms_model.proofs.SettledUnits.{aside_is_as_before}
use Rattle.cms_held.specs.MinidiskUpdates.{IsHeldMinidisk}
use Rattle.cms_held.specs.HeldTrees.{TreesStand}
use Rattle.cms_held.specs.HeldVolumes.{HeldFile, HeldVolume}
use Rattle.cms_held.specs.LawsHeld.{IsFileOf, IsFound}
use Rattle.cms_model.proofs.DirectoryNeed.{drop_counts as drop_fewer}
use Rattle.cms_disk.specs.Disks.{Accessed, IsMinidisk, StandsIn, place_of}
use Rattle.cms_disk.proofs.FilesFound.{stands_tells}

-- an image in which a disk is a minidisk has it as its state
pub state_stands : (image : Image) (d : Accessed) (m : Minidisk) → StandsIn image d m → state_of d.volume.disk image ≡ Volume m
state_stands image d m s = state_opens d.volume.disk image s.opened s.opens ∙ ap Volume (sym s.minidisk_is)

-- ---- a change that drops a file passes no limit

few_joined : (es : List Entry) (contents : List (List (List ℕ))) → length (files_of es contents) ≤ length es
unfolding files_of
few_joined [] contents = omega arith
few_joined (e ∷ es) [] = omega arith
few_joined (e ∷ es) (records ∷ more) = let h = few_joined es more in omega (arith, h)

pub few_files : (image : Image) (d : Accessed) (m : Minidisk) → StandsIn image d m → length m.files ≤ 16384
unfolding minidisk_of
few_files image d m s =
    let v = s.opened in
    let bsize = d.volume.disk.bsize in
    let o = open_ok d.volume.disk image v s.opens in
    let names = drop 128 (bytes_at image v.directory_met.leaves) in
    let entries = (entries_fit bsize 2 (cut (v.directory.count - 2) 64 names) v.entries o.system.entries).1 in
    let pieces = length_cut (v.directory.count - 2) 64 names in
    let high = (directory_fits bsize v.label.origin (image v.label.origin) v.directory o.system.directory).high in
    let files = ap (λ (x : Minidisk). length x.files) s.minidisk_is in
    let few = few_joined v.entries v.contents in
    omega (arith, entries, pieces, high, files, few)

pub no_limit : (image : Image) (d : Accessed) (m : Minidisk) (name : Name) (k : ℕ) → StandsIn image d m → answer_of m (Drop name) ≡ Limited k → ⊥
unfolding answer_of limit changed_files written_file
no_limit image d m name k s is =
    let most = few_files image d m s in
    let fewer = drop_fewer name m.files in
    let few : nat_lt 16384 (length (drop_file name m.files)) ≡ false = le-ltb 16384 (length (drop_file name m.files)) (omega (arith, most, fewer)) in
    let at = rw few at is in
    ⊎_elim
    (λ (full : is_full m (Drop name) ≡ true). let e = rw full at at in cc e)
    (λ (room : is_full m (Drop name) ≡ false). let e = rw room at at in cc e)
    (cases_Bool (is_full m (Drop name)))

-- ---- the file at the place of a name

pub record Named (image : Image) (name : Name) (d : Accessed) (m : Minidisk) (h : HeldFile) : Type 0 where
  pub file : File
  pub named : file_named name m.files ≡ Some file
  pub is : IsFileOf m.bsize image h file

pub named_at : (image : Image) (name : Name) (d : Accessed) (m : Minidisk) (k : ℕ) (h : HeldFile) → StandsIn image d m → place_of name d.volume ≡ Some k → slice_get d.volume.files k ≡ Some h
    → Named image name d m h
named_at image name d m k h s at is_h =
    let tells = stands_tells image d m s in
    let place : IsPlace name m.files k = subst (IsFound name m.files) at (tells.found name) in
    let any : File = record { name = h.entry.name; number = h.entry.number; format = h.entry.format; length = h.length; stamp = h.entry.stamp; records = [] } in
    let f = slice_index_or m.files k any in
    let is_f : slice_get m.files k ≡ Some f = slice_get-get_or m.files k any place.within in
    record { file = f; named = (place_changed name m.files k place).found any; is = tells.held.files_are k h f is_h is_f }

-- ---- it is still a minidisk

-- with the same volume
pub minidisk_same : (j : Journal) (d e : Accessed) (m : Minidisk) → e.volume ≡ d.volume → IsMinidisk j d m → IsMinidisk j e m
minidisk_same j d e m same is =
    subst (λ (v : HeldVolume). IsMinidisk j (record e { volume = v }) m) (sym same)
    (record {
      stands = record {
        whole = is.stands.whole;
        opened = is.stands.opened;
        opens = is.stands.opens;
        volume_is = is.stands.volume_is;
        minidisk_is = is.stands.minidisk_is;
      };
      settled = is.settled;
      trees = is.trees;
    })

-- in the same image it is the same volume
stands_there : (d : Accessed) (m : Minidisk) (before later : Image) → before ≡ later → (s : StandsIn before d m) → (t : StandsIn later d m) × (t.opened ≡ s.opened)
stands_there d m before later same s = subst (λ (i : Image). (t : StandsIn i d m) × (t.opened ≡ s.opened)) same (s, refl)

-- after events that leave its unit alone
pub minidisk_aside : (j : Journal) (piece : List Event) (d : Accessed) (m : Minidisk) → IsUntouched piece d.volume.unit → IsMinidisk j d m → IsMinidisk (after j piece) d m
minidisk_aside j piece d m aside is =
    let u = d.volume.unit in
    let before = aside_is_as_before j piece u aside in
    let there = stands_there d m (now j u) (now (after j piece) u) (ap image_of (sym before.contents_same)) is.stands in
    record {
      stands = there.0;
      settled = subst (IsSettled d.volume.disk (after j piece) u) (sym there.1) (before.settled_same d.volume.disk is.stands.opened is.settled);
      trees = subst (TreesStand d.volume) (ap image_of (sym before.contents_same)) is.trees;
    }

-- ---- a minidisk, as the volume below is held

pub is_minidisk : (j : Journal) (d : Accessed) (m : Minidisk) → IsHeldMinidisk j d.volume m → IsMinidisk j d m
is_minidisk j d m h = record {
  stands = record {
    whole = h.at.whole;
    opened = opened h.layout;
    opens = h.at.settled.opens;
    volume_is = h.at.held;
    minidisk_is = h.minidisk_is ∙ sym (minidisk_is d.volume.disk h.layout);
  };
  settled = h.at.settled;
  trees = h.at.trees;
}
