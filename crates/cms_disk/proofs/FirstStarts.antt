-- Where the first record begins in the data block that the bytes of a file fill in part, and the bytes of its data blocks.
use Rattle.std.proofs.Common.{◌≡◌, ◌⊎◌, inl, inr, ⊎_elim, ℕ, ◌+◌, ◌-◌, ◌*◌, ◌/◌, ◌%◌, ◌<◌, ◌≤◌, Bool, true, false, List, [], ◌∷◌, length, Option, Some, None, Ok, refl, sym, ◌∙◌, ap, subst, arith, slice_get, slice_index_or, div-add-mod', length-append}
use Rattle.std.specs.Prelude.{◌&&◌, find, nat_le, nat_lt}
use Rattle.std.specs.Option.{option_map_or}
use Rattle.std.proofs.lemmas.Bool.{and_left, cases_Bool, cases_lt, cond-false, cond-true}
use Rattle.std.proofs.lemmas.Bool.Decides.{nat_tests}
use Rattle.std.proofs.lemmas.List.Elements.{All-get_or}
use Rattle.std.proofs.lemmas.Option.{get_or_from_slice_get, same_Some, slice_get_within}
use Rattle.cms_names.specs.declared.name.Format.{Format}
use Rattle.cms_names.specs.declared.name.Format.TheVariants.{F, V}
use Rattle.cms_model.specs.Lists.{cut}
use Rattle.cms_model.specs.Minidisks.{File, Minidisk}
use Rattle.cms_model.specs.Records.{records_of, stored, with_length}
use Rattle.cms_model.specs.Trees.{Image, bytes_at}
use Rattle.cms_model.proofs.Records.{length-with_length}
use Rattle.cms_held.specs.HeldTrees.{FileStands, TreesStand}
use Rattle.cms_held.specs.HeldVolumes.{HeldFile, HeldVolume}
use Rattle.cms_held.specs.Kept.{IsKeptFile, Keeps}
use Rattle.cms_held.specs.LawsHeld.{IsFileOf, IsStored}
use Rattle.cms_held.specs.Marks.{nowhere, start_of, starts_from}
use Rattle.cms_held.specs.SharedBlocks.{AreLong}
use Rattle.cms_held.proofs.BlockBytes.{all_long}
use Rattle.cms_edf.proofs.Begun.{in_place}
use Rattle.cms_disk.specs.Disks.{Accessed, StandsIn}

-- ---- where it begins

abbrev within : ℕ → ℕ → ℕ → Bool
within low end place = nat_le low place && nat_lt place end

from_low : (low end place : ℕ) → within low end place ≡ true → low ≤ place
from_low low end place is = ⊎_elim
    (λ (less : place < low). absurd (never (sym (and_left (nat_le low place) (nat_lt place end) (before less)) ∙ is)))
    (λ (from : low ≤ place). from)
    (cases_lt place low)
  where
    never : false ≡ true → ⊥
    never e = cc

    before : place < low → nat_le low place ≡ false
    before less = grind (arith, nat_tests)

-- a record that is found begins before the end of all
found_short : (low end place x : ℕ) (records : List (List ℕ)) → find (within low end) (starts_from place records) ≡ Some x → (low ≤ x) × (x < place + length (stored V records))
found_short low end place x [] is = absurd (cc is)
found_short low end place x (t ∷ ts) is =
    let long = length-append (with_length t) (stored V ts) in
    let one = length-with_length t in
    let test = within low end place in
    let rest = find (within low end) (starts_from (place + (2 + length t)) ts) in
    ⊎_elim
    (λ (here : test ≡ true).
    let e : place ≡ x = same_Some place x (sym (cond-true test (Some place) rest here) ∙ is) in
    let low' : low ≤ place = from_low low end place here in
    (omega arith, omega arith))
    (λ (other : test ≡ false).
    let more = found_short low end (place + (2 + length t)) x ts (sym (cond-false test (Some place) rest other) ∙ is) in
    let less = more.1 in
    (more.0, omega arith))
    (cases_Bool test)

place_short : (low rest : ℕ) (o : Option ℕ) → ((x : ℕ) → o ≡ Some x → (low ≤ x) × (x < low + rest)) → (option_map_or (λ place. place - low) o nowhere ≡ nowhere) ⊎ (option_map_or (λ place. place - low) o nowhere < rest)
place_short low rest None found = inl refl
place_short low rest (Some x) found =
    let is = found x refl in
    let from = is.0 in
    let less = is.1 in
    inr (omega arith)

start_short : (bsize : ℕ) (records : List (List ℕ)) → (start_of bsize V records ≡ nowhere) ⊎ (start_of bsize V records < length (stored V records) % bsize)
start_short bsize records =
    let s = length (stored V records) in
    let split : s / bsize * bsize + s % bsize ≡ s = div-add-mod' s bsize in
    place_short (s / bsize * bsize) (s % bsize) (find (within (s / bsize * bsize) ((s / bsize + 1) * bsize)) (starts_from 0 records))
    (λ x is.
    let f = found_short (s / bsize * bsize) ((s / bsize + 1) * bsize) 0 x records is in
    let less = f.1 in
    (f.0, omega arith))

start_told : (bsize start size own most count : ℕ) (format : Format) (bytes : List ℕ) (records : List (List ℕ)) → ((rs : List (List ℕ)) → records_of bsize format own count bytes ≡ Ok rs → start ≡ start_of bsize format rs)
    → records_of bsize format most count bytes ≡ Ok records → size ≡ length (stored format records) → (start ≡ nowhere) ⊎ (start < size % bsize)
unfolding records_of
start_told bsize start size own most count F bytes records starts read size_is = inl (starts (cut count own bytes) refl)
start_told bsize start size own most count V bytes records starts read size_is =
    let is = starts records read in
    subst (λ (n : ℕ). (n ≡ nowhere) ⊎ (n < size % bsize)) (sym is)
    (subst (λ (n : ℕ). (start_of bsize V records ≡ nowhere) ⊎ (start_of bsize V records < n % bsize)) (sym size_is) (start_short bsize records))

pub start_in : (bsize total : ℕ) (image : Image) (h : HeldFile) (file : File) → FileStands bsize total image h → IsFileOf bsize image h file → IsStored bsize image h file
    → (h.start ≡ nowhere) ⊎ (h.start < h.size % bsize)
start_in bsize total image h file stands is stored' =
    let format = is.format_is in
    start_told bsize h.start h.size h.entry.length file.length h.entry.count h.entry.format (bytes_at image h.tree.leaves) file.records stands.start
    (ap (λ (k : Format). records_of bsize k file.length h.entry.count (bytes_at image h.tree.leaves)) format
    ∙ ap (λ (n : ℕ). records_of bsize file.format file.length n (bytes_at image h.tree.leaves)) is.count_is ∙ is.are_read)
    (stored'.size_is ∙ ap (λ (k : Format). length (stored k file.records)) (sym format))

-- ---- its data blocks

pub file_stands : (v : HeldVolume) (image : Image) (k : ℕ) (h : HeldFile) → TreesStand v image → slice_get v.files k ≡ Some h → FileStands v.disk.bsize v.label.blocks image h
file_stands v image k h x at = subst (FileStands v.disk.bsize v.label.blocks image) (get_or_from_slice_get v.files k h h at)
    (All-get_or (FileStands v.disk.bsize v.label.blocks image) v.files k h (slice_get_within v.files k h at) x.files)

pub leaves_long : (image : Image) (d : Accessed) (m : Minidisk) (h : HeldFile) → StandsIn image d m → Keeps d.volume → IsKeptFile d.volume.disk.bsize d.volume.label.blocks h
    → AreLong d.volume.disk.bsize image h.tree.leaves
leaves_long image d m h s keeps kept k e less =
    let top = keeps.within in
    let range = kept.within (slice_index_or h.tree.leaves k e) (in_place h.tree.leaves k e less) in
    let low = range.0 in
    let high = range.1 in
    s.whole.each (slice_index_or h.tree.leaves k e) (omega arith) (omega arith)

-- they hold all its bytes
pub bytes_low : (bsize total : ℕ) (image : Image) (h : HeldFile) → IsKeptFile bsize total h → AreLong bsize image h.tree.leaves → h.size ≤ length (bytes_at image h.tree.leaves)
bytes_low bsize total image h kept long = let high = kept.high in omega (arith, high, all_long bsize image h.tree.leaves long)
