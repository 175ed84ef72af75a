-- What the host tells of its files stays, but for what a call changes.
use Rattle.std.proofs.Common.{◌≡◌, ◌∙◌, ℕ, Bool, List, [], ◌∷◌, Option, None, Some, Err, length, take, ◌≤◌, refl, ap, sym, subst, drop, arith}
use Rattle.std.specs.Prelude.{IsSome}
use Rattle.std.specs.Option.{ForSome, option_map}
use Rattle.std.proofs.lemmas.Option.{same_Some}
use Rattle.cms_copyfile.specs.declared.measure.Measure.{Measure}
use Rattle.mini_forms.specs.RecordReads.{records_in}
use Rattle.mini_forms.specs.declared.form.FormFault.{FormFault}
use Rattle.mini_forms.specs.declared.form.Layout.{Layout}
use Rattle.mini_host.specs.Files as files
use Rattle.mini_host.specs.Files.{Files, content_of}
use Rattle.mini_host.specs.declared.content.HostFile.{HostFile}
use Rattle.mini_work.specs.Drafts.{IsMeasuredFor, IsOpenAt, IsThere}
use Rattle.mini_work.specs.HostRecords.{IsMeasured, IsNoFile, IsOpen, IsReadOn}
use Rattle.mini_work.specs.HostTold.{Noted, SameFiles, files_in, things_in}

pub same_noted : (old new : Option Files) → Noted old new → SameFiles old new
same_noted None new n = ap things_in n.1
same_noted (Some h) new n = ap things_in n.1

pub same_read : (old new : Option Files) (n : ℕ) → new ≡ option_map (files.read_on n) old → SameFiles old new
same_read None new n is = ap things_in is
same_read (Some h) new n is = ap things_in is

pub same_begun : (old new : Option Files) (name : List ℕ) (over : Bool) → new ≡ option_map (files.begun name over) old → SameFiles old new
same_begun None new name over is = ap things_in is
same_begun (Some h) new name over is = ap things_in is

pub same_dropped : (old new : Option Files) → new ≡ option_map (files.drafted None) old → SameFiles old new
same_dropped None new is = ap things_in is
same_dropped (Some h) new is = ap things_in is

pub same_told : (old new : Option Files) → new ≡ old → SameFiles old new
same_told old new is = ap things_in is

pub same_then : (a b c : Option Files) → SameFiles a b → SameFiles b c → SameFiles a c
same_then a b c p q = q ∙ p

-- the files alone
abbrev fst : Option (List HostFile × List (List ℕ)) → Option (List HostFile)
fst x = option_map (λ p. p.0) x

fst_is : (told : Option Files) → fst (things_in told) ≡ files_in told
fst_is None = refl
fst_is (Some h) = refl

pub files_same : (old new : Option Files) → SameFiles old new → files_in new ≡ files_in old
files_same old new same = sym (fst_is new) ∙ ap fst same ∙ fst_is old

pub files_then : (old new : Option Files) (files : List HostFile) → SameFiles old new → files_in old ≡ Some files → files_in new ≡ Some files
files_then old new files same is = files_same old new same ∙ is

-- what the host tells, where it tells its files
pub told_of : (told : Option Files) (files : List HostFile) → files_in told ≡ Some files → (h : Files) × (told ≡ Some h) × (h.files ≡ files)
told_of None files is = absurd (cc is)
told_of (Some h) files is = (h, refl, same_Some h.files files is)

-- the same file is there
pub files_of : (old new : Option Files) (h k : Files) → SameFiles old new → old ≡ Some h → new ≡ Some k → k.files ≡ h.files
files_of old new h k same at is =
    same_Some k.files h.files (sym (ap files_in is) ∙ files_same old new same ∙ ap files_in at)

pub was_told : (old new : Option Files) (k : Files) → SameFiles old new → new ≡ Some k → (h : Files) × (old ≡ Some h)
was_told None new k same is = absurd (let e : things_in (Some k) ≡ None = ap things_in (sym is) ∙ same in cc e)
was_told (Some h) new k same is = (h, refl)

-- a file that was opened is before its first byte
pub opened_at : (old new : Option Files) (file : List ℕ) → new ≡ option_map (files.opened file) old → IsOpenAt new file
opened_at None new file is = λ h at. absurd (let e : None ≡ Some h = sym is ∙ at in cc e)
opened_at (Some f) new file is = λ h at.
    subst (λ (g : Files). g.left ≡ content_of file g.files) (same_Some (files.opened file f) h (sym is ∙ at)) refl

pub there_still : (old new : Option Files) (file : List ℕ) → SameFiles old new → IsThere old file → IsThere new file
there_still old new file same there = λ k is.
    let h = was_told old new k same is in
    subst (λ (fs : List HostFile). IsSome (content_of file fs)) (sym (files_of old new h.0 k same h.1 is)) (there h.0 h.1)

-- ---- bytes that are read of the open file

nil : (l : List ℕ) → length l ≡ 0 → l ≡ []
nil [] is = refl
nil (x ∷ xs) is = absurd (omega arith)

pub read_so : (n : ℕ) (into left : List ℕ) (h : Files) (old new : Option Files)
    → ForSome old (λ f. ForSome f.left (λ l. take n into ≡ take n l))
    → ForSome old (λ f. ForSome f.left (λ l. (n ≤ length l) × (n ≡ 0 → length l ≡ 0))) → new ≡ option_map (files.read_on n) old → old ≡ Some h
    → h.left ≡ Some left → IsReadOn n left into h new
read_so n into left h old new bytes all told at is = record {
  bytes = bytes h at left is;
  few = (all h at left is).0;
  ended = λ none. nil left ((all h at left is).1 none);
  told = told ∙ ap (option_map (files.read_on n)) at
      ∙ ap (λ (l : Option (List ℕ)). Some (record { files = h.files; folders = h.folders; left = option_map (λ b. drop n b) l; draft = h.draft; notes = h.notes })) is;
}

some_left : (n : ℕ) (l : Option (List ℕ)) → IsSome l → IsSome (option_map (λ b. drop n b) l)
some_left n None some = some
some_left n (Some x) some = refl

pub open_still : (n : ℕ) (old new : Option Files) → IsOpen old → new ≡ option_map (files.read_on n) old → IsOpen new
open_still n None new opened told = λ k is. absurd (let e : Some k ≡ None = sym is ∙ told in cc e)
open_still n (Some h) new opened told = λ k is.
    let same : k ≡ files.read_on n h = same_Some k (files.read_on n h) (sym is ∙ told) in
    subst (λ (f : Files). IsSome f.left) (sym same) (some_left n h.left (opened h refl))

pub open_same : (old new : Option Files) → IsOpen old → new ≡ old → IsOpen new
open_same old new opened same = subst (λ (t : Option Files). IsOpen t) (sym same) opened

-- ---- a file that is opened

pub open_there : (old new : Option Files) (file : List ℕ) → IsThere old file → new ≡ option_map (files.opened file) old → IsOpen new
open_there None new file there told = λ k is. absurd (let e : Some k ≡ None = sym is ∙ told in cc e)
open_there (Some h) new file there told = λ k is.
    let same : k ≡ files.opened file h = same_Some k (files.opened file h) (sym is ∙ told) in
    subst (λ (f : Files). IsSome f.left) (sym same) (there h refl)

some_is : (x : Option (List ℕ)) → IsSome x → (bytes : List ℕ) × (x ≡ Some bytes)
some_is None some = absurd (cc some)
some_is (Some x) some = (x, refl)

-- the bytes of a file that is there
pub bytes_there : (told : Option Files) (file : List ℕ) (fs : List HostFile) → IsThere told file → files_in told ≡ Some fs
    → (bytes : List ℕ) × (content_of file fs ≡ Some bytes)
bytes_there told file fs there is =
    let h = told_of told fs is in
    some_is (content_of file fs) (subst (λ (x : List HostFile). IsSome (content_of file x)) h.2 (there h.0 h.1))

-- and it is open then
pub opened_bytes : (old new : Option Files) (file bytes : List ℕ) (fs : List HostFile) → files_in old ≡ Some fs → content_of file fs ≡ Some bytes
    → new ≡ option_map (files.opened file) old → (h : Files) × (new ≡ Some h) × (h.left ≡ Some bytes)
opened_bytes None new file bytes fs is there told = absurd (cc is)
opened_bytes (Some h) new file bytes fs is there told =
    (files.opened file h, told, ap (content_of file) (same_Some h.files fs is) ∙ there)

-- what was measured is what the file holds
pub measured_for : (old new : Option Files) (file : List ℕ) (layout : Layout) (m : Measure) → IsOpenAt old file → SameFiles old new → IsMeasured old layout m
    → IsMeasuredFor new file layout m
measured_for old new file layout m opened same is = record {
  records = is.records;
  measure = is.measure;
  each = is.each;
  some = is.some;
  are = λ k bytes at there.
      (let h = was_told old new k same at in
      is.are h.0 bytes h.1 (opened h.0 h.1 ∙ (ap (content_of file) (sym (files_of old new h.0 k same h.1 at)) ∙ there)));
}

-- or it stands for no records
pub no_file_for : (told : Option Files) (file : List ℕ) (layout : Layout) (why : FormFault) (fs : List HostFile) (bytes : List ℕ) → IsOpenAt told file
    → IsNoFile told layout why → files_in told ≡ Some fs → content_of file fs ≡ Some bytes → records_in layout bytes ≡ Err why
no_file_for told file layout why fs bytes opened none is there =
    let h = told_of told fs is in
    none h.0 bytes h.1 (opened h.0 h.1 ∙ (ap (content_of file) h.2 ∙ there))

-- a file that is open is there
pub open_is_there : (told : Option Files) (file : List ℕ) → IsOpen told → IsOpenAt told file → IsThere told file
open_is_there told file opened at = λ h is. subst (λ (x : Option (List ℕ)). IsSome x) (at h is) (opened h is)

-- ---- what is said of the host's files is said of the same files

pub folders_same : (old new : Option Files) → SameFiles old new → (h k : Files) → old ≡ Some h → new ≡ Some k → k.folders ≡ h.folders
folders_same old new same h k at is =
    let e : Some (k.files, k.folders) ≡ Some (h.files, h.folders) = sym (ap things_in is) ∙ same ∙ ap things_in at in
    let f : option_map (λ (p : List HostFile × List (List ℕ)). p.1) (Some (k.files, k.folders)) ≡ option_map (λ (p : List HostFile × List (List ℕ)). p.1) (Some (h.files, h.folders)) =
    ap (option_map (λ (p : List HostFile × List (List ℕ)). p.1)) e in
    same_Some k.folders h.folders f
