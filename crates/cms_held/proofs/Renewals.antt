-- The files of an update, and what holds of the numbers of a list.
use Rattle.std.proofs.Common.{◌≡◌, inl, inr, ⊎_elim, ℕ, ◌≤◌, List, [], ◌∷◌, length, map, All, true, refl, sym, ◌∙◌, ap, arith}
use Rattle.std.specs.Prelude.{◌==◌}
use Rattle.std.proofs.lemmas.Bool.{eq-eqb}
use Rattle.std.proofs.lemmas.List.{length-map}
use Rattle.std.proofs.lemmas.List.Elements.{All-nil, All-cons, All-head, All-tail}
use Rattle.cms_names.specs.declared.name.Format.{Format}
use Rattle.cms_names.specs.declared.name.Format.TheVariants.{F, V}
use Rattle.cms_fields.specs.Entries.{passes}
use Rattle.cms_fields.specs.declared.entry.Entry.{Entry}
use Rattle.cms_model.specs.Lists.{In, times}
use Rattle.cms_model.specs.Stands.{Comes, HoldsFile, Kept, entries_in, mets_in, records_in}
use Rattle.cms_model.specs.Trees.{Image, bytes_at}
use Rattle.cms_model.specs.Volumes.{Disk, as_read, length_read}
use Rattle.cms_model.proofs.EntriesRead.{passes_so, records_so}
use Rattle.cms_model.proofs.Repeats.{bit, hit}
use Rattle.cms_held.specs.HeldAs.{AreHeld}
use Rattle.cms_held.specs.HeldVolumes.{HeldFile, size_of}
use Rattle.cms_held.specs.LawsRenewals.{ComesFrom}
use Rattle.cms_held.specs.Renewals.{entries_held}

-- ---- files that are held

pub same_entries : (files : List Kept) (hs : List HeldFile) → AreHeld (entries_in files) (mets_in files) (records_in files) hs → map as_read (entries_held hs) ≡ entries_in files
same_entries [] [] are = refl
same_entries [] (h ∷ hs) are = absurd are
same_entries (f ∷ fs) [] are = absurd are
same_entries (f ∷ fs) (h ∷ hs) are = ap (λ (e : Entry). e ∷ map as_read (entries_held hs)) are.0.entry_is ∙ ap (λ (es : List Entry). f.entry ∷ es) (same_entries fs hs are.1)

-- they are as many
pub entries_many : (files : List Kept) (hs : List HeldFile) → AreHeld (entries_in files) (mets_in files) (records_in files) hs → length (entries_held hs) ≡ length (entries_in files)
entries_many files hs are = sym (length-map (entries_held hs) as_read) ∙ ap (λ (l : List Entry). length l) (same_entries files hs are)

-- and pass where those that are read pass
pub held_pass : (bsize : ℕ) (files : List Kept) (hs : List HeldFile) → AreHeld (entries_in files) (mets_in files) (records_in files) hs → All (λ e. passes bsize e ≡ true) (entries_in files)
    → All (λ e. passes bsize e ≡ true) (entries_held hs)
held_pass bsize [] [] are pass = All-nil (λ (e : Entry). passes bsize e ≡ true)
held_pass bsize [] (h ∷ hs) are pass = absurd are
held_pass bsize (f ∷ fs) [] are pass = absurd are
held_pass bsize (f ∷ fs) (h ∷ hs) are pass =
    let P = λ (e : Entry). passes bsize e ≡ true in
    All-cons P h.entry (entries_held hs)
    (sym (passes_so bsize h.entry) ∙ (ap (passes bsize) are.0.entry_is ∙ All-head P f.entry (entries_in fs) pass))
    (held_pass bsize fs hs are.1 (All-tail P f.entry (entries_in fs) pass))

-- a file whose entry is as it is read has the same tree and records
pub holds_read : (disk : Disk) (total : ℕ) (image : Image) (f : Kept) → HoldsFile disk total image f → HoldsFile disk total image (record f { entry = as_read f.entry })
holds_read disk total image f h = record {
  met = h.met;
  records = records_so disk.bsize f.entry.format f.entry.length f.entry.count (bytes_at image f.met.leaves) ∙ h.records;
}

-- so many bytes are stored of it
pub size_so : (format : Format) (size count : ℕ) (records : List (List ℕ)) → size_of format (length_read format size) count records ≡ size_of format size count records
size_so F size count records = refl
size_so V size count records = refl

pub comes_from : (disk : Disk) (total : ℕ) (before later : Image) (blocks : List ℕ) (files : List Kept) → ((n : ℕ) → In n blocks → before n ≡ later n) → ComesFrom disk total before later blocks files
    → Comes disk total before later files
comes_from disk total before later blocks [] same come = tt
comes_from disk total before later blocks (f ∷ fs) same come = (
  ⊎_elim (λ (old : HoldsFile disk total before f × ((n : ℕ) → In n f.met.blocks → In n blocks)). inl (old.0, λ n in'. same n (old.1 n in')))
      (λ new. inr new) come.0,
  comes_from disk total before later blocks fs same come.1,
)

-- what holds of each number of a list
pub all_of : (P : ℕ → Type 0) (ns : List ℕ) → ((n : ℕ) → 1 ≤ times n ns → P n) → All P ns
unfolding times
all_of P [] each = All-nil P
all_of P (x ∷ ns) each =
    let one : bit (x == x) ≡ 1 = hit (x == x) (eq-eqb x x refl) in
    All-cons P x ns (each x (omega arith)) (all_of P ns (λ n some. each n (omega arith)))
