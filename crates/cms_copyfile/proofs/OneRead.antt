-- One file that is copied: its records are read, whatever is done with their copies.
use Rattle.std.proofs.Common.{◌≡◌, ◌∙◌, ℕ, ◌≤◌, List, [], Option, Some, Result, Ok, Err, length, refl, sym, ap, subst, arith}
use Rattle.std.specs.Prelude.{None}
use Rattle.cms_journal.proofs.Counts.{counted_none}
use Rattle.cms_model.specs.Changes.{Change}
use Rattle.cms_model.specs.Acts.{Act, Does, bind}
use Rattle.cms_model.specs.Runs.{Ran}
use Rattle.cms_model.specs.Slots.{Slot}
use Rattle.cms_model.specs.Steps.{Get, Good, Outcome}
use Rattle.cms_model.proofs.Join.{broke_bind, broke_then, ran_bind, ran_then}
use Rattle.cms_model.proofs.Single.{ran_still}
use Rattle.cms_line.specs.declared.token.Token.{Token}
use Rattle.cms_search.specs.Calls.{Acts, Comes, IsLater, IsUsable, Meaning, Spot, at, holds, machine_of}
use Rattle.cms_search.specs.DeviceSteps.{HasRead, Stepped, failing, handed, reading, silently}
use Rattle.cms_search.specs.Machine.{Machine}
use Rattle.cms_search.specs.Units.{vdev_of}
use Rattle.cms_search.specs.declared.state.End.{End}
use Rattle.cms_search.specs.declared.state.End.TheVariants.{Memory}
use Rattle.cms_search.proofs.Acts.{cut_off, later_then, rose_from}
use Rattle.cms_search.proofs.HandedRecords.{later_read}
use Rattle.cms_files.specs.Files.{UnitFile}
use Rattle.cms_files.specs.OpenFiles.{IsOpened}
use Rattle.cms_files.specs.Updates.{updating}
use Rattle.cms_files.specs.declared.open_files.OpenFile.{OpenFile}
use Rattle.cms_files.specs.declared.update.Updated as declared
use Rattle.cms_world.specs.Seen.{Seen}
use Rattle.cms_copyfile.specs.Copyfile.{change_with, copy_records, with_copying}
use Rattle.cms_copyfile.specs.FileCopies.{IsCopying, IsFileCopy, copied_to}
use Rattle.cms_copyfile.specs.Outcomes.{ChangesAs}
use Rattle.cms_copyfile.specs.Outputs.{extended, wanted_of}
use Rattle.cms_copyfile.specs.declared.copy.FileCopy.{FileCopy}
use Rattle.cms_copyfile.specs.declared.line.CopyLine.{CopyLine}
use Rattle.cms_copyfile.specs.declared.line.CopyStyle.{CopyStyle}
use Rattle.cms_copyfile.proofs.CopyInput.{input_at}
use Rattle.cms_copyfile.proofs.FilesCopied.{copying_at, copying_is}

-- ---- a call, and what follows it, where that depends on what was on the units before

pub acts_by : {A R U T : Type 0} (old mid new : Spot) (s : List Slot → Act A) (f : List Slot → A → Act R) (x : U) (d : Meaning U A) (r : Result T End) (e : Meaning T R)
    → Acts old mid s (Ok x) d → ((units : List Slot) → Acts mid new (λ now. f units (d now x)) r e) → Acts old new (λ units. bind (s units) (f units)) r e
acts_by old mid new s f x d (Ok y) e a b = record {
  each = λ units h. let m = a.each units h in let z = (b units).each m.0 m.1.0 in (z.0, (z.1.0, ran_then (ran_bind (f units) m.1.1) z.1.1));
  later = later_then old.world mid.world new.world a.later (b []).later;
  usable = λ u. (b []).usable (a.usable u);
  cause = tt;
}
acts_by old mid new s f x d (Err y) e a b = record {
  each = λ units h. let m = a.each units h in let z = (b units).each m.0 m.1.0 in (z.0, (z.1.0, broke_then (ran_bind (f units) m.1.1) z.1.1));
  later = later_then old.world mid.world new.world a.later (b []).later;
  usable = λ u. (b []).usable (a.usable u);
  cause = λ edge. rose_from old.world.edges mid.world.edges new.world.edges a.later.edges ((b []).cause edge);
}

pub acts_by_stop : {A R U T : Type 0} (old new : Spot) (s : List Slot → Act A) (f : List Slot → A → Act R) (y : End) (d : Meaning U A) (e : Meaning T R)
    → Acts {T = U} old new s (Err y) d → Acts {T = T} old new (λ units. bind (s units) (f units)) (Err y) e
acts_by_stop old new s f y d e a = record {
  each = λ units h. let x = a.each units h in (x.0, (x.1.0, broke_bind (f units) x.1.1));
  later = a.later;
  usable = a.usable;
  cause = a.cause;
}

-- ---- what never comes

pub acts_never_so : {R A T : Type 0} (old now new : Spot) (t : List Slot → Act R) (u : List Slot → Act A) (r : Result T End) (d : Meaning T R) (d' : Meaning T A)
    → ((units : List Slot) → holds old units → ⊥) → IsLater old.world now.world → (IsUsable old → IsUsable now) → Acts now new u r d' → Acts old new t r d
acts_never_so old now new t u (Ok x) d d' never later usable a = record {
  each = λ units h. absurd (never units h);
  later = later_then old.world now.world new.world later a.later;
  usable = λ before. a.usable (usable before);
  cause = tt;
}
acts_never_so old now new t u (Err e) d d' never later usable a = record {
  each = λ units h. absurd (never units h);
  later = later_then old.world now.world new.world later a.later;
  usable = λ before. a.usable (usable before);
  cause = λ edge. rose_from old.world.edges now.world.edges new.world.edges later.edges (a.cause edge);
}

-- ---- the tree

abbrev pub wanted_in : CopyLine → UnitFile → ℕ
wanted_in line x = wanted_of line.style (length x.file.records)

pub wanted_low : (style : CopyStyle) (count : ℕ) → wanted_of style count ≤ count
wanted_low style count = cases style.most refl
  where
    cases : (m : Option ℕ) → style.most ≡ m → wanted_of style count ≤ count
    cases None is = rw is (omega arith)
    cases (Some n) is = rw is (omega arith)

-- behind the read
abbrev pub behind_read : Machine → CopyLine → FileCopy → UnitFile → Change → Outcome → Act Stepped
behind_read s line c x change o = handed silently x.file (wanted_in line x) (updating s c.letter change) (failing s (vdev_of s x.unit)) o

pub tree_by : (s : Machine) (words : List Token) (line : CopyLine) (c : FileCopy) (x : IsCopying s line c) (change : Change)
    → change_with s line (copied_to s line c x) (extended line.style.existing (copied_to s line c x).there) ≡ change
    → with_copying words line s c.found (copy_records s line) ≡ Does (Get x.file.unit x.file.file (wanted_in line x.file)) (behind_read s line c x.file change)
tree_by s words line c x change is =
    let made = copied_to s line c x in
    let failed = failing s (vdev_of s x.file.unit) in
    let wanted = wanted_in line x.file in
    copying_is words line s c (copy_records s line) x
    ∙ (ap (λ (z : Change). reading silently x.file.unit x.file.file wanted (updating s made.to z) failed) is
    ∙ ap (λ (n : ℕ). reading silently x.file.unit x.file.file wanted (updating s n change) failed) (sym x.to))

-- ---- it is read

-- before it was read
abbrev pub first : Seen → Spot → Spot
first before mid = record { world = before; state = mid.state }

abbrev pub whole : Spot → List Token → CopyLine → FileCopy → List Slot → Act Stepped
whole mid words line c units = with_copying words line (machine_of mid.state units) c.found (copy_records (machine_of mid.state units) line)

-- nothing was done, for want of memory
pub cut_read : (before : Seen) (mid : Spot) (t : List Slot → Act Stepped) (d : Meaning declared.Updated Stepped) → HasRead before mid.world
    → Acts {T = declared.Updated} (first before mid) mid t (Err Memory) d
cut_read before mid t d read = let edges = read.edges in cut_off (first before mid) mid t d read.told read.faults (omega (arith, edges)) refl

module _ (before : Seen) (mid : Spot) (words : List Token) (line : CopyLine) (c : FileCopy) (file : OpenFile) (change : List Slot → Change) (read : HasRead before mid.world)
    (is : IsFileCopy mid.state.table line c) (opened : IsOpened mid.state.table c.found.letter c.found.name file) (changes : ChangesAs mid line c change) where
  pub holds_by : (units : List Slot) → holds (first before mid) units → holds mid units
  holds_by units h = let same = read.told in rw same h

  pub tree_at : (units : List Slot) (h : holds mid units) → whole mid words line c units
      ≡ Does (Get (copying_at mid line c is units h).file.unit (copying_at mid line c is units h).file.file (wanted_in line (copying_at mid line c is units h).file))
      (behind_read (machine_of mid.state units) line c (copying_at mid line c is units h).file (change units))
  tree_at units h =
      let x = copying_at mid line c is units h in
      tree_by (machine_of mid.state units) words line c x (change units) (changes units h x)

  -- the read was good, and the change comes then
  pub read_then : Comes (first before mid) mid (whole mid words line c) (λ units. updating (machine_of mid.state units) c.letter (change units))
  read_then = record {
    each = λ units h.
        let h' = holds_by units h in
        let x = (copying_at mid line c is units h').file in
        let input = input_at mid units line c file opened h' (copying_at mid line c is units h') in
        let ran = ran_still (at (first before mid) units) (at mid units) (Get x.unit x.file (wanted_in line x)) Good (behind_read (machine_of mid.state units) line c x (change units))
        read.told (counted_none before.faults mid.world.faults read.faults) refl tt
        (input.offers (wanted_in line x) (wanted_low line.style (length x.file.records))) refl refl (record { unread = refl; ended = refl }) refl in
        (units, (h', subst (λ (z : Act Stepped). Ran (at (first before mid) units) (at mid units) z (updating (machine_of mid.state units) c.letter (change units))) (sym (tree_at units h')) ran));
    later = later_read before mid.world read;
    usable = λ usable. (let same = read.told in rw same usable);
  }
