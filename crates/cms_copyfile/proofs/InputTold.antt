-- The file that is copied is as its disk tells it, and its records are left to read.
use Rattle.std.proofs.Common.{◌≡◌, ◌∙◌, ℕ, zero, suc, ◌+◌, ◌≤◌, List, [], ◌∷◌, All, drop, length, take, Option, Some, Ok, sym, ap, subst, arith, length-drop, length-take-le}
use Rattle.std.specs.Prelude.{nat_le, nat_lt, slice_get}
use Rattle.std.specs.Option.{option_and_then, option_map}
use Rattle.std.proofs.lemmas.Bool.{leb-true}
use Rattle.std.proofs.lemmas.List.Elements.{All-nil, All-cons}
use Rattle.std.proofs.lemmas.Option.{same_Some}
use Rattle.cms_fields.specs.Limits.{longest_record}
use Rattle.cms_journal.specs.Journal.{contents_of}
use Rattle.cms_names.specs.declared.name.Format.{Format}
use Rattle.cms_names.specs.declared.name.Format.TheVariants.{F, V}
use Rattle.cms_names.specs.declared.name.Name.{Name}
use Rattle.cms_text.specs.Bytes.{half}
use Rattle.cms_model.specs.Records.{Fits, longest, varying}
use Rattle.cms_model.specs.Trees.{Image, image_of}
use Rattle.cms_model.specs.declared.fault.VarFault.TheVariants.{Left, PastEnd, Zero}
use Rattle.cms_model.proofs.Records.{fits_cut}
use Rattle.cms_model.proofs.Results.{bind_then, ok_same, want_ok}
use Rattle.cms_held.specs.HeldVolumes.{HeldFile}
use Rattle.cms_model.specs.Slots.{Slot}
use Rattle.cms_records.specs.Pieces.{RecordState, next_place}
use Rattle.cms_edf.specs.FilesTold.{info_of, infos_in}
use Rattle.cms_edf.specs.OpeningSteps.{OfImage}
use Rattle.cms_edf.specs.declared.held.FileInfo.{FileInfo}
use Rattle.cms_disk.specs.Cursors.{HoldLeft, fixed_of, first_begun, unread}
use Rattle.cms_disk.specs.Disks.{place_of}
use Rattle.cms_search.specs.Calls.{Spot, holds, machine_of}
use Rattle.cms_search.specs.Tables.{AccessTable, Seated}
use Rattle.cms_search.proofs.LetterDisks.{holds_shows}
use Rattle.cms_search.proofs.Released.{get_map}
use Rattle.cms_files.specs.OpenFiles.{IsOpened}
use Rattle.cms_files.specs.Told.{info_named}
use Rattle.cms_files.specs.declared.open_files.OpenFile.{OpenFile}
use Rattle.cms_copyfile.specs.FileCopies.{IsCopying, IsFileCopy}
use Rattle.cms_copyfile.specs.Told.{IsLeftAs}
use Rattle.cms_copyfile.specs.declared.copy.FileCopy.{FileCopy}
use Rattle.cms_copyfile.specs.declared.line.CopyLine.{CopyLine}
use Rattle.cms_copyfile.proofs.CopyInput.{input_at}

-- ---- records that are left to read fit their format

varying_fit : (bsize n place most : ℕ) (bytes : List ℕ) (rs : List (List ℕ)) → varying bsize n place bytes ≡ Ok rs → longest rs ≤ most → most ≤ longest_record → All (Fits V most) rs
unfolding varying longest
varying_fit bsize zero place most bytes rs e low short =
    let r = want_ok (nat_lt (length bytes) bsize) (Left place) (Ok []) rs e in
    subst (All (Fits V most)) (ok_same [] rs r.1) (All-nil (Fits V most))
varying_fit bsize (suc n) place most bytes rs e low short =
    let len = half bytes 0 in
    let p1 = want_ok (nat_le 2 (length bytes)) (PastEnd place) _ rs e in
    let p2 = want_ok (nat_le 1 len) (Zero place) _ rs p1.1 in
    let p3 = want_ok (nat_le (2 + len) (length bytes)) (PastEnd place) _ rs p2.1 in
    let least = leb-true 1 len p2.0 in
    let fit = leb-true (2 + len) (length bytes) p3.0 in
    bind_then (varying bsize n (place + (2 + len)) (drop (2 + len) bytes)) _ rs p3.1 (λ more is_more done.
    let two = length-drop 2 bytes in
    let text = take len (drop 2 bytes) in
    let long : length text ≡ len = length-take-le len (drop 2 bytes) (omega arith) in
    let same : text ∷ more ≡ rs = ok_same (text ∷ more) rs done in
    let most_is : longest (text ∷ more) ≤ most = subst (λ (l : List (List ℕ)). longest l ≤ most) (sym same) low in
    subst (All (Fits V most)) same
    (All-cons (Fits V most) text more (omega arith, omega arith) (varying_fit bsize n (place + (2 + len)) most (drop (2 + len) bytes) more is_more (omega arith) short)))

left_fit : (bsize : ℕ) (format : Format) (size left place : ℕ) (bytes : List ℕ) (rs : List (List ℕ)) → size ≤ longest_record → HoldLeft bsize (fixed_of format size) size left place bytes rs
    → All (Fits format size) rs
left_fit bsize F size left place bytes rs short h = subst (All (Fits F size)) (sym h.0) (fits_cut left size bytes h.1)
left_fit bsize V size left place bytes rs short h = varying_fit bsize left place size bytes rs h.0 h.1 short

-- ---- the file that was opened is the one of which this is told

-- what is told of it in a seat
abbrev info_in : Name → Option Seated → Option FileInfo
info_in name x = option_and_then (λ s. option_and_then (λ place. slice_get (infos_in s.disk.volume) place) (place_of name s.disk.volume)) x

told_is : (t : AccessTable) (c : FileCopy) (file : OpenFile) → Some c.input ≡ info_named t c.found.letter c.found.name → (opened : IsOpened t c.found.letter c.found.name file)
    → c.input ≡ info_of opened.starts.file
told_is t c file is opened =
    let v = opened.seat.disk.volume in
    let held = opened.starts.file in
    let info : slice_get (infos_in v) opened.starts.place ≡ Some (info_of held) =
    get_map info_of v.files opened.starts.place ∙ ap (λ (x : Option HeldFile). option_map info_of x) opened.starts.file_is in
    let there : info_named t c.found.letter c.found.name ≡ Some (info_of held) =
    ap (info_in c.found.name) opened.there ∙ (ap (λ (p : Option ℕ). option_and_then (λ (k : ℕ). slice_get (infos_in v) k) p) opened.starts.place_is ∙ info) in
    same_Some c.input (info_of held) (is ∙ there)

-- as many records are left to read of it as are told
pub left_told : (t : AccessTable) (c : FileCopy) (file : OpenFile) → Some c.input ≡ info_named t c.found.letter c.found.name → IsOpened t c.found.letter c.found.name file
    → file.cursor.left ≡ c.input.count
left_told t c file is opened = opened.starts.first.left ∙ sym (ap (λ (i : FileInfo). i.count) (told_is t c file is opened))

-- all its records are left to read
pub input_left : (spot : Spot) (units : List Slot) (line : CopyLine) (c : FileCopy) (file : OpenFile) → IsFileCopy spot.state.table line c
    → IsOpened spot.state.table c.found.letter c.found.name file → file.cursor.begun.longest ≤ longest_record → holds spot units → (x : IsCopying (machine_of spot.state units) line c)
    → OfImage spot.world.told file.cursor.unit (λ image. IsLeftAs spot.state.table c image file.cursor x.file)
input_left spot units line c file is opened short h x j told =
    let input = input_at spot units line c file opened h x in
    let left = input.left j told in
    let r = file.cursor in
    let image : Image = image_of (contents_of j r.unit) in
    let rs = x.file.file.records in
    let info = told_is spot.state.table c file is.input opened in
    let begun : r.begun ≡ first_begun c.input.format c.input.length = opened.starts.first.begun ∙ ap (λ (i : FileInfo). first_begun i.format i.length) (sym info) in
    let high : c.input.length ≤ longest_record = subst (λ (b : RecordState). b.longest ≤ longest_record) begun short in
    let held : HoldLeft r.bsize (fixed_of c.input.format c.input.length) c.input.length r.left (next_place r.begun) (unread image r) rs =
    subst (λ (b : RecordState). HoldLeft r.bsize b.fixed b.longest r.left (next_place r.begun) (unread image r) rs) begun left.held in
    let fit = left_fit r.bsize c.input.format c.input.length r.left (next_place r.begun) (unread image r) rs high held in
    record {
      machine = machine_of spot.state units;
      shows = holds_shows spot units h;
      found = record {
        found = x.found;
        info = x.input;
        stands = record {
          each = subst (λ (k : Format). All (Fits k x.file.file.length) rs) x.input.format (subst (λ (n : ℕ). All (Fits c.input.format n) rs) x.input.size fit);
          long = input.long;
        };
      };
      left = left;
    }
