-- The data of a file that was read whole.
use Rattle.std.proofs.Common.{◌≡◌, ◌⊎◌, ⊎_elim, ℕ, zero, suc, ◌*◌, ◌/◌, ◌≤◌, true, if◌then◌else◌, List, [], ◌∷◌, length, map, slice_get, Some, None, Err, refl, sym, ◌∙◌, ap, subst, arith}
use Rattle.std.specs.Prelude.{nat_le, ◌&&◌, ◌==◌}
use Rattle.std.specs.List.{All}
use Rattle.std.proofs.lemmas.Bool.{and_parts}
use Rattle.cms_names.specs.Names.{is_between}
use Rattle.cms_names.specs.declared.name.Name.{Name}
use Rattle.cms_names.specs.declared.name.Format.{Format}
use Rattle.cms_names.specs.declared.name.Format.TheVariants.{F, V}
use Rattle.cms_fields.specs.Numbers.{up}
use Rattle.cms_fields.specs.Entries.{counts_fit, is_fixed}
use Rattle.cms_fields.specs.declared.entry.Entry.{Entry}
use Rattle.cms_model.specs.Trees.{Image}
use Rattle.cms_model.specs.Minidisks.{File, Minidisk}
use Rattle.cms_model.specs.Records.{Fits, StandsFor, length_of, longest}
use Rattle.cms_model.specs.Changes.{file_named}
use Rattle.cms_model.specs.declared.file.FileData.{FileData}
use Rattle.cms_model.proofs.FileSizes.{passing}
use Rattle.cms_model.proofs.TreeFrame.{between}
use Rattle.cms_records.specs.Pieces.{RecordState}
use Rattle.cms_edf.specs.FilesTold.{info_of, infos_in}
use Rattle.cms_held.specs.HeldVolumes.{HeldFile, HeldVolume}
use Rattle.cms_held.specs.Kept.{Keeps}
use Rattle.cms_edf.specs.declared.held.FileInfo.{FileInfo}
use Rattle.cms_disk.specs.Cursors.{Cursor, HasLeft, IsFirst, fixed_of}
use Rattle.cms_disk.specs.Disks.{Accessed, FirstIn, StandsIn, place_of}
use Rattle.cms_disk.specs.Gets.{Gathers, GetsFile, IsDataOf, data_length}
use Rattle.cms_disk.specs.declared.fault.DiskFault.{DiskFault}
use Rattle.cms_disk.specs.declared.fault.DiskFault.TheVariants.{Altered, Device, Memory, NotFound}
use Rattle.cms_disk.proofs.FilesFound.{found, first_has, fixed_some, kept_at}

longest_range : (size : ℕ) (rs : List (List ℕ)) → All (Fits V size) rs → 1 ≤ length rs → (1 ≤ longest rs) × (longest rs ≤ 65535)
unfolding longest
longest_range size [] each some = absurd (omega arith)
longest_range size (x ∷ []) each some = let one = each 0 x (omega arith) in let low = one.0 in let high = one.1 in (omega arith, omega arith)
longest_range size (x ∷ y ∷ rs) each some =
    let one = each 0 x (omega arith) in
    let low = one.0 in
    let high = one.1 in
    let rest = longest_range size (y ∷ rs) (λ k d less. each (suc k) d (omega arith)) (omega arith) in
    (omega (arith, rest.0, rest.1), omega (arith, rest.0, rest.1))

record Lengths (format : Format) (size : ℕ) (rs : List (List ℕ)) : Type 0 where
  each : All (Fits format size) rs
  is : size ≡ length_of format size rs
  some : 1 ≤ size
  short : size ≤ 65535

lengths : (format : Format) (size most : ℕ) (rs : List (List ℕ)) → most ≡ longest rs → All (Fits format size) rs → 1 ≤ length rs → (format ≡ F → 1 ≤ size) → size ≤ 65535
    → Lengths format (data_length format size most) rs
lengths F size most rs is each some fixed short = record { each = each; is = refl; some = fixed refl; short = short }
lengths V size most rs is each some fixed short = let range = longest_range size rs each some in record { each = each; is = is; some = rw is range.0; short = rw is range.1 }

counts_some : (bsize : ℕ) (e : Entry) → counts_fit bsize e ≡ true → 1 ≤ e.count
unfolding counts_fit
counts_some bsize e is =
    (between 1 1048576 e.count (and_parts (is_between 1 1048576 e.count)
    (if is_fixed e.format then nat_le (e.count * e.length) 67108864 && (e.blocks == up (e.count * e.length) bsize) else is_between 1 (67108864 / bsize) e.blocks) is).0).0

-- the data of a file, of which this is told
abbrev pub data_of : FileInfo → List ℕ → ℕ → FileData
data_of info bytes most = record {
  format = info.format;
  length = data_length info.format info.length most;
  number = info.number;
  stamp = info.stamp;
  count = info.count;
  bytes = bytes;
}

pub info_at : (files : List HeldFile) (k : ℕ) (info : FileInfo) (h : HeldFile) → slice_get (map info_of files) k ≡ Some info → slice_get files k ≡ Some h → info ≡ info_of h
info_at [] k info h a b = absurd (cc a)
info_at (f ∷ fs) zero info h a b = let one : info_of f ≡ info = cc a in let two : f ≡ h = cc b in sym one ∙ ap info_of two
info_at (f ∷ fs) (suc k) info h a b = info_at fs k info h a b

-- what was read of the file at a place
pub record Read (v : HeldVolume) (k : ℕ) (info : FileInfo) (c : Cursor) (bytes : List ℕ) (most : ℕ) (rs : List (List ℕ)) : Type 0 where
  pub keeps : Keeps v
  pub info_is : slice_get (infos_in v) k ≡ Some info
  pub first : FirstIn v k c
  pub gathers : Gathers info.format c bytes most rs

pub data_stands : (v : HeldVolume) (k : ℕ) (info : FileInfo) (c : Cursor) (bytes : List ℕ) (most : ℕ) (rs : List (List ℕ)) → Read v k info c bytes most rs → StandsFor (data_of info bytes most) rs
data_stands v k info c bytes most rs r =
    let h = r.first.0 in
    let is = info_at v.files k info h r.info_is r.first.1 in
    subst (λ (i : FileInfo). StandsFor (data_of i bytes most) rs) (sym is) (go h (r.first.1) r.first.2 (subst (λ (i : FileInfo). Gathers i.format c bytes most rs) is r.gathers))
  where
    go : (h : HeldFile) → slice_get v.files k ≡ Some h → IsFirst v.unit v.disk.count v.disk.bsize h.tree.leaves h.entry.format h.length h.entry.count c → Gathers h.entry.format c bytes most rs
        → StandsFor (data_of (info_of h) bytes most) rs
    go h at first g =
        let kept = kept_at v k h r.keeps at in
        let p = passing v.disk.bsize h.entry kept.entry in
        let count = g.count_is ∙ first.left in
        let some = counts_some v.disk.bsize h.entry p.fits.counts in
        let high : c.begun.longest ≡ h.length = ap (λ (b : RecordState). b.longest) first.begun in
        let each = subst (λ (n : ℕ). All (Fits h.entry.format n) rs) high g.each in
        let one : h.entry.format ≡ F → 1 ≤ h.length = λ fix. (let low = fixed_some v.disk.bsize h.entry p.fits.long fix in let same = kept.told in omega arith) in
        let l = lengths h.entry.format h.length most rs g.most_is each (omega arith) one kept.short in
        record {
          bytes_are = g.bytes_are;
          each = l.each;
          length_is = l.is;
          length_fits = (l.some, l.short);
          count_is = sym count;
          some = omega arith;
          number_fits = p.number;
          stamp_is = p.stamp;
        }

length_same : (format : Format) (size most : ℕ) (rs : List (List ℕ)) → size ≡ length_of format size rs → most ≡ longest rs → data_length format size most ≡ size
length_same F size most rs a b = refl
length_same V size most rs a b = b ∙ sym a

-- they are those of the file of the name
pub gets_ok : (image : Image) (name : Name) (d : Accessed) (m : Minidisk) (k : ℕ) (info : FileInfo) (c : Cursor) (bytes : List ℕ) (most : ℕ) (rs : List (List ℕ)) → StandsIn image d m
    → place_of name d.volume ≡ Some k
    → Read d.volume k info c bytes most rs → ((all : List (List ℕ)) → HasLeft image c all → all ≡ rs) → (f : File) × (file_named name m.files ≡ Some f) × IsDataOf f (data_of info bytes most)
gets_ok image name d m k info c bytes most rs stands at r only =
    let h = r.first.0 in
    let it = found image name d m k h stands r.keeps at r.first.1 in
    let f = it.file in
    let same : f.records ≡ rs = only f.records (first_has image c d.volume.unit d.volume.disk.count d.volume.disk.bsize h.tree.leaves h.entry.format h.length h.entry.count
    f.records r.first.2 it.sized it.left)
    in
    let is = info_at d.volume.files k info h r.info_is r.first.1 in
    let format : info.format ≡ f.format = ap (λ (i : FileInfo). i.format) is ∙ it.is.format_is in
    let size : info.length ≡ f.length = ap (λ (i : FileInfo). i.length) is ∙ it.is.length_is in (
      f,
      it.named,
      record {
        stands = subst (StandsFor (data_of info bytes most)) (sym same) (data_stands d.volume k info c bytes most rs r);
        format_is = format;
        length_is = rw (format, size) (length_same f.format f.length most rs (it.high ∙ ap (length_of f.format f.length) same) r.gathers.most_is);
        number_is = ap (λ (i : FileInfo). i.number) is ∙ it.is.number_is;
        stamp_is = ap (λ (i : FileInfo). i.stamp) is ∙ it.is.stamp_is;
      },
    )

-- the bytes are never found altered
pub gets_not_altered : (image : Image) (name : Name) (d : Accessed) (m : Minidisk) (k : ℕ) (c : Cursor) → StandsIn image d m → place_of name d.volume ≡ Some k → Keeps d.volume → FirstIn d.volume k c
    → ((all : List (List ℕ)) → HasLeft image c all → ⊥) → ⊥
gets_not_altered image name d m k c stands at keeps first none =
    let h = first.0 in
    let it = found image name d m k h stands keeps at first.1 in
    none it.file.records (first_has image c d.volume.unit d.volume.disk.count d.volume.disk.bsize h.tree.leaves h.entry.format h.length h.entry.count it.file.records first.2 it.sized it.left)

pub gets_err : (name : Name) (m : Minidisk) (e : DiskFault) → (e ≡ Device) ⊎ (e ≡ Altered) ⊎ (e ≡ Memory) → (e ≡ Altered → ⊥) → GetsFile name m (Err e)
gets_err name m e which sound = ⊎_elim
    (λ (is : e ≡ Device). subst (λ (x : DiskFault). GetsFile name m (Err x)) (sym is) tt)
    (λ (rest : (e ≡ Altered) ⊎ (e ≡ Memory)). ⊎_elim
    (λ (is : e ≡ Altered). absurd (sound is))
    (λ (is : e ≡ Memory). subst (λ (x : DiskFault). GetsFile name m (Err x)) (sym is) tt)
    rest)
    which

-- there was no memory for it
pub gets_starved : (name : Name) (m : Minidisk) (e : DiskFault) → e ≡ Memory → GetsFile name m (Err e)
gets_starved name m e is = subst (λ (x : DiskFault). GetsFile name m (Err x)) (sym is) tt

pub gets_none : (name : Name) (m : Minidisk) (e : DiskFault) → e ≡ NotFound → file_named name m.files ≡ None → GetsFile name m (Err e)
gets_none name m e is none = subst (λ (x : DiskFault). GetsFile name m (Err x)) (sym is) none

pub fixed_is : (v : HeldVolume) (k : ℕ) (info : FileInfo) (c : Cursor) → slice_get (infos_in v) k ≡ Some info → FirstIn v k c → c.begun.fixed ≡ fixed_of info.format c.begun.longest
fixed_is v k info c at first =
    let h = first.0 in
    let is = info_at v.files k info h at first.1 in
    let format : h.entry.format ≡ info.format = ap (λ (i : FileInfo). i.format) (sym is) in
    ap (λ (b : RecordState). b.fixed) first.2.begun ∙ (ap (λ (f : Format). fixed_of f h.length) format ∙ ap (fixed_of info.format) (sym (ap (λ (b : RecordState). b.longest) first.2.begun)))

-- where all have one length, it is the one given
pub fixed_length : (format : Format) (size most : ℕ) → format ≡ F → data_length format size most ≡ size
fixed_length F size most is = refl
fixed_length V size most is = absurd (cc)

-- a fault of reading a file isn't that there is none
pub is_there : (e : DiskFault) → (e ≡ Device) ⊎ (e ≡ Altered) ⊎ (e ≡ Memory) → e ≡ NotFound → ⊥
is_there e which none = ⊎_elim
    (λ (is : e ≡ Device). let no : Device ≡ NotFound = sym is ∙ none in absurd (cc no))
    (λ (rest : (e ≡ Altered) ⊎ (e ≡ Memory)). ⊎_elim
    (λ (is : e ≡ Altered). let no : Altered ≡ NotFound = sym is ∙ none in absurd (cc no))
    (λ (is : e ≡ Memory). let no : Memory ≡ NotFound = sym is ∙ none in absurd (cc no))
    rest)
    which
