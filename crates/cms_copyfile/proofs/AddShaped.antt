-- The copies that are added to a file have the shape that was measured, behind its own records.
use Rattle.std.proofs.Common.{◌≡◌, ◌∙◌, ◌+◌, ◌*◌, ◌≤◌, ◌++◌, ℕ, true, List, Option, Some, Result, Ok, Err, length, max, refl, sym, ap, subst, slice_get, length-append, arith}
use Rattle.std.proofs.Math.Nat.{mul-add}
use Rattle.std.specs.Prelude.{All}
use Rattle.std.specs.Option.{option_and_then}
use Rattle.std.proofs.lemmas.Option.{same_Some}
use Rattle.cms_edf.specs.FilesTold.{infos_in, stored_in}
use Rattle.cms_edf.specs.declared.held.FileInfo.{FileInfo}
use Rattle.cms_fields.specs.Limits.{longest_record}
use Rattle.cms_fields.specs.Moments.{stamp_of}
use Rattle.cms_fields.specs.Stamps.{is_stamp}
use Rattle.cms_fields.specs.declared.time.Stamp.{Stamp}
use Rattle.cms_names.specs.declared.name.Format.{Format}
use Rattle.cms_names.specs.declared.name.Format.TheVariants.{F, V}
use Rattle.cms_names.specs.declared.name.Name.{Name}
use Rattle.cms_held.specs.declared.shape.DraftShape.{DraftShape}
use Rattle.cms_disk.specs.Additions.{CanExtend, HaveShapeBehind, MayExtend}
use Rattle.cms_disk.specs.Disks.{IsFileInfo, place_of}
use Rattle.cms_held.specs.Growths.{length_with}
use Rattle.cms_held.specs.Kept.{IsSized}
use Rattle.cms_model.specs.Changes.{Add}
use Rattle.cms_model.specs.Minidisks.{File}
use Rattle.cms_model.specs.Records.{Fits, longest, stored}
use Rattle.cms_model.proofs.Records.{stored_append}
use Rattle.cms_search.specs.Calls.{Spot, machine_of}
use Rattle.cms_search.specs.Machine.{Machine, letter_at}
use Rattle.cms_search.specs.Searches.{item_at}
use Rattle.cms_search.specs.Shows.{Shows}
use Rattle.cms_search.specs.Tables.{AccessTable, Seated}
use Rattle.cms_search.specs.declared.fault.SearchFault.{SearchFault}
use Rattle.cms_search.proofs.LetterDisks.{holds_shows}
use Rattle.cms_files.specs.Files.{UnitFile, file_on}
use Rattle.cms_files.specs.Told.{IsInfo, info_named, stored_named}
use Rattle.cms_edf.proofs.DraftPlanned.{some_bytes}
use Rattle.cms_copyfile.specs.Copyfile.{change_with, there_is}
use Rattle.cms_copyfile.specs.FileCopies.{IsCopying, copied_to, form_in, plan_for}
use Rattle.cms_copyfile.specs.Measures.{IsMeasure, length_by, measured}
use Rattle.cms_copyfile.specs.OneCopy.{AreMeasured, AreShaped}
use Rattle.cms_copyfile.specs.Outputs.{copies_in, extended, stamp_for}
use Rattle.cms_copyfile.specs.Shapes.{IsShapeBehind, length_behind, shape_behind}
use Rattle.cms_copyfile.specs.declared.copy.FileCopy.{FileCopy}
use Rattle.cms_copyfile.specs.declared.line.CopyLine.{CopyLine}
use Rattle.cms_copyfile.specs.declared.measure.Measure.{Measure}
use Rattle.cms_copyfile.specs.declared.output.CopyPlan.{CopyPlan}
use Rattle.cms_copyfile.specs.declared.draft.CopyWrite.TheVariants.{Added}
use Rattle.cms_copyfile.proofs.OwnFile.{extended_so, extended_there}

-- the change adds them
pub add_so : (s : Machine) (line : CopyLine) (c : FileCopy) (own : FileInfo) (turn : Stamp) (f : File) (x : IsCopying s line c) → turn ≡ stamp_of s.moment → IsInfo own f
    → change_with s line (copied_to s line c x) (Some f)
    ≡ Add (copied_to s line c x).name (copies_in (plan_for line (form_in own) c) x.file.file.records) (stamp_for line.style c.input.stamp turn)
add_so s line c own turn f x when info =
    let format = info.format in
    let size = info.size in
    let stamp = x.input.stamp in
    let count = x.input.count in
    rw (when, format, size, stamp, count) refl

-- the shape of the file that is found
shape_at : (info : FileInfo) (stamp : Stamp) (more : Measure) (shape : DraftShape) (r : Result UnitFile SearchFault) (f : File) → there_is r ≡ Some f → IsShapeBehind info stamp more shape r
    → shape ≡ shape_behind info (length (stored f.format f.records)) stamp more
shape_at info stamp more shape (Err why) f is so = absurd so
shape_at info stamp more shape (Ok x) f is so =
    let same : x.file ≡ f = cc is in
    so ∙ ap (λ (g : File). shape_behind info (length (stored g.format g.records)) stamp more) same

-- its records and those behind them have it
behind_so : (format : Format) (size : ℕ) (f : File) (added : List (List ℕ)) (info : FileInfo) (stamp : Stamp) (more : Measure) → IsInfo info f → more ≡ measured info.format added
    → All (Fits info.format info.length) added → HaveShapeBehind f (shape_behind info (length (stored f.format f.records)) stamp more) added
behind_so format size f added info stamp more is measure each = record {
  counts = record {
    count = length-append f.records added ∙ (ap (λ (n : ℕ). n + length added) (sym is.count) ∙ ap (λ (m : Measure). info.count + m.count) (sym measure));
    bytes = ap (λ (k : Format). length (stored k (f.records ++ added))) is.format
        ∙ (ap length (stored_append f.format f.records added) ∙ (length-append (stored f.format f.records) (stored f.format added)
        ∙ (ap (λ (k : Format). length (stored f.format f.records) + length (stored k added)) (sym is.format)
        ∙ ap (λ (m : Measure). length (stored f.format f.records) + m.bytes) (sym measure))));
  };
  each = fits_longer info.format info.length more.longest added each;
  long = long_so info.format f.length info.length added more is.size (ap (λ (m : Measure). m.longest) measure);
}
  where
    fits_longer : (format : Format) (size most : ℕ) (records : List (List ℕ)) → All (Fits format size) records → All (Fits format (length_behind format size most)) records
    fits_longer F size most records fits = fits
    fits_longer V size most records fits = fits

    long_so : (format : Format) (size told : ℕ) (records : List (List ℕ)) (m : Measure) → told ≡ size → m.longest ≡ longest records → length_with format size records ≡ length_behind format told m.longest
    long_so F size told records m is' most = sym is'
    long_so V size told records m is' most = ap (λ (n : ℕ). max n (longest records)) (sym is') ∙ ap (max told) (sym most)

-- so it is with the file that is copied
pub added_as : (spot : Spot) (line : CopyLine) (c : FileCopy) (own : FileInfo) (shape : DraftShape) (more : Measure) (turn stamp : Stamp) (plan : CopyPlan)
    → extended line.style.existing c.there ≡ Some own → plan ≡ plan_for line (form_in own) c → turn ≡ stamp_of spot.state.moment → stamp ≡ stamp_for line.style c.input.stamp turn
    → AreMeasured spot line c (form_in own) more
    → ((s : Machine) → Shows spot.state.table s → IsShapeBehind own stamp more shape (file_on s c.name (letter_at s c.letter)))
    → AreShaped spot line c plan Added shape
added_as spot line c own shape more turn stamp plan ext planned when stamped copies shaped units h x =
    let s = machine_of spot.state units in
    let made = copied_to s line c x in
    let e = extended_so line.style.existing c.there made.there own x.there ext in
    let f = e.file in
    let info = e.info in
    let there : there_is (file_on s c.name (letter_at s c.letter)) ≡ Some f =
    ap (λ (n : Name). there_is (file_on s n (letter_at s c.letter))) x.name
    ∙ (ap (λ (n : ℕ). there_is (file_on s made.name (letter_at s n))) x.to ∙ extended_there line.style.existing made.there f e.extends) in
    let is : shape ≡ shape_behind own (length (stored f.format f.records)) stamp more =
    shape_at own stamp more shape (file_on s c.name (letter_at s c.letter)) f there (shaped s (holds_shows spot units h)) in
    let mine = copies units h x in
    let added = copies_in plan x.file.file.records in
    let same : copies_in (plan_for line (form_in own) c) x.file.file.records ≡ added = ap (λ (p : CopyPlan). copies_in p x.file.file.records) (sym planned) in
    let behind = behind_so own.format own.length f added own stamp more info (mine.measure ∙ ap (measured own.format) same) (subst (All (Fits own.format own.length)) same mine.each) in
    record {
      have = (f, extended_there line.style.existing made.there f e.extends, subst (λ (z : DraftShape). HaveShapeBehind f z added) (sym is) behind);
      change = ap (change_with s line made) e.extends
          ∙ (add_so s line c own turn f x when info
          ∙ (ap (λ (l : List (List ℕ)). Add made.name l (stamp_for line.style c.input.stamp turn)) same
          ∙ ap (λ (z : Stamp). Add made.name added z) (sym stamped ∙ sym (ap (λ (z : DraftShape). z.stamp) is))));
    }

-- ---- what a file can become

sized_behind : (format : Format) (size count bytes longest more added : ℕ) → IsSized format size count bytes → IsSized format (length_by format size longest) more added
    → IsSized format (length_behind format size longest) (count + more) (bytes + added)
sized_behind F size count bytes longest more added own behind =
    ap (λ (n : ℕ). n + added) own ∙ (ap (λ (n : ℕ). size * count + n) behind ∙ sym (mul-add size count more))
sized_behind V size count bytes longest more added own behind = omega arith

longer_behind : (format : Format) (size longest : ℕ) → size ≤ length_behind format size longest
longer_behind F size longest = omega arith
longer_behind V size longest = omega arith

short_behind : (format : Format) (size longest : ℕ) → size ≤ longest_record → length_by format size longest ≤ longest_record → length_behind format size longest ≤ longest_record
short_behind F size longest own behind = own
short_behind V size longest own behind = omega arith

fixed_behind : (format : Format) (size longest : ℕ) → format ≡ F → length_behind format size longest ≡ size
fixed_behind F size longest is = refl
fixed_behind V size longest is = absurd (cc is)

-- with what was measured behind its own records
pub can_become : (own : FileInfo) (bytes : ℕ) (stamp : Stamp) (more : Measure) → IsFileInfo own → is_stamp stamp ≡ true → IsSized own.format own.length own.count bytes
    → IsMeasure (form_in own) more → CanExtend own bytes (shape_behind own bytes stamp more)
can_become own bytes stamp more sound valid sized measure =
    let records = sound.records in
    let some = sound.some in
    let many = measure.some in
    let longer = longer_behind own.format own.length more.longest in
    let added = some_bytes own.format (length_by own.format own.length more.longest) more.count more.bytes measure.sized measure.low many in
    record {
      can = record {
        number = sound.number;
        stamp = valid;
        some = omega (arith, records);
        low = omega (arith, some, longer);
        high = short_behind own.format own.length more.longest sound.short measure.high;
        sized = sized_behind own.format own.length own.count bytes more.longest more.count more.bytes sized measure.sized;
      };
      format_is = refl;
      number_is = refl;
      fixed = fixed_behind own.format own.length more.longest;
      longer = longer;
      records = omega (arith, many);
      more = omega (arith, added);
    }

-- ---- what fits the disk

abbrev info_in : Name → Option Seated → Option FileInfo
info_in name x = option_and_then (λ s. option_and_then (λ place. slice_get (infos_in s.disk.volume) place) (place_of name s.disk.volume)) x

abbrev bytes_in : Name → Option Seated → Option ℕ
bytes_in name x = option_and_then (λ s. option_and_then (λ place. slice_get (stored_in s.disk.volume) place) (place_of name s.disk.volume)) x

-- a file can be extended as what is told of it says
pub extends_on : (t : AccessTable) (n : ℕ) (name : Name) (s : Seated) (own : FileInfo) (bytes : ℕ) (shape : DraftShape) → item_at t.seats n ≡ Some s → Some own ≡ info_named t n name
    → Some bytes ≡ stored_named t n name → CanExtend own bytes shape → MayExtend s.disk.volume name shape
extends_on t n name s own bytes shape at own_is bytes_are can info bytes' told =
    let v = s.disk.volume in
    let a : info_named t n name ≡ Some info = ap (info_in name) at ∙ (ap (λ (p : Option ℕ). option_and_then (λ (k : ℕ). slice_get (infos_in v) k) p) told.place_is ∙ told.info_is) in
    let b : stored_named t n name ≡ Some bytes' = ap (bytes_in name) at ∙ (ap (λ (p : Option ℕ). option_and_then (λ (k : ℕ). slice_get (stored_in v) k) p) told.place_is ∙ told.bytes_are) in
    subst (λ (i : FileInfo). CanExtend i bytes' shape) (same_Some own info (own_is ∙ a)) (subst (λ (k : ℕ). CanExtend own k shape) (same_Some bytes bytes' (bytes_are ∙ b)) can)
