-- The records of files, read one file after another.
use Rattle.std.proofs.Common.{◌≡◌, ℕ, zero, suc, ◌+◌, ◌*◌, ◌<◌, ◌≤◌, List, [], ◌∷◌, ◌++◌, length, take, drop, map, get_or, slice_index, Option, Some, Result, Ok, Err, refl, sym, ◌∙◌, ap, subst, arith, append-nil, mul_comm, length-append, length-drop, length-take-le}
use Rattle.std.specs.Prelude.{IfOk, IfErr, nat_le}
use Rattle.std.specs.List.{concat}
use Rattle.std.proofs.lemmas.Bool.{leb-true}
use Rattle.std.proofs.lemmas.List.{drop_all, take_all}
use Rattle.cms_journal.specs.Journal.{Journal, contents_of}
use Rattle.cms_journal.specs.Told.{Told}
use Rattle.cms_names.specs.declared.name.Format.{Format}
use Rattle.cms_names.specs.declared.name.Format.TheVariants.{F, V}
use Rattle.cms_text.specs.Bytes.{half}
use Rattle.cms_fields.specs.Steps.{◌>>=◌}
use Rattle.cms_fields.specs.Entries.{fan_of}
use Rattle.cms_fields.specs.declared.entry.Entry.{Entry}
use Rattle.cms_model.specs.Lists.{cut}
use Rattle.cms_model.specs.Trees.{Image, bytes_at, image_of}
use Rattle.cms_model.specs.Records.{varying, records_of, longest, with_length}
use Rattle.cms_model.specs.Sizes.{pointer_count}
use Rattle.cms_model.specs.Volumes.{blamed, contents_in}
use Rattle.cms_model.specs.declared.fault.VarFault.{VarFault}
use Rattle.cms_model.specs.declared.fault.VarFault.TheVariants.{Zero, PastEnd}
use Rattle.cms_model.specs.declared.fault.OpenFault.{OpenFault}
use Rattle.cms_model.specs.declared.fault.OpenFault.TheVariants as failed
use Rattle.cms_records.specs.declared.sizes.VarSizes.{VarSizes}
use Rattle.cms_records.specs.Scans.{VarScan, IsFed, filled_by, sizes_in, sizes_of}
use Rattle.cms_tree.specs.declared.types.Walked.{Walked}
use Rattle.cms_held.specs.Kept.{IsSized}
use Rattle.cms_held.specs.HeldVolumes.{IsFaultOf, HeldFile}
use Rattle.cms_held.specs.Marks.{nowhere, start_of}
use Rattle.cms_edf.specs.declared.contents.RecordsTold.{RecordsTold}
use Rattle.cms_edf.specs.OpeningSteps.{OfImage, met_in, behind}
use Rattle.cms_edf.specs.EntryShapes.{EndsIn, HasSize}
use Rattle.cms_edf.specs.OpeningFiles.{records_in, AreSized, HasRecords, told_file, told_files, HasContents, HaveCounts, entry_sizes, walked_sizes}
use Rattle.cms_model.proofs.Results.{ok_same, want_ok, bind_then}
use Rattle.cms_model.proofs.OpenedVolumes.{blamed_ok}
use Rattle.cms_model.proofs.Records.{length-with_length}
use Rattle.cms_edf.proofs.EntryTests.{ends_last}
use Rattle.cms_edf.proofs.Faults.{fault_is, fault_passes}
use Rattle.cms_edf.proofs.Gathered.{Reads, reads_first, reads_next, reads_last}
use Rattle.cms_edf.proofs.FileTrees.{front_of, taken_next, behind_none, behind_more}

-- ---- the blocks of a file

-- the blocks before a place were taken
pub record Takes (image : Image) (leaves : List ℕ) (k count : ℕ) (scan : VarScan) : Type 0 where
  pub before : List ℕ
  pub reads : Reads image leaves k before
  pub fed : IsFed count before scan

pub takes_first : (image : Image) (leaves : List ℕ) (count : ℕ) (scan : VarScan) → IsFed count [] scan → Takes image leaves 0 count scan
takes_first image leaves count scan fed = record { before = []; reads = reads_first image leaves; fed = fed }

pub takes_next : (image : Image) (leaves : List ℕ) (k count : ℕ) (scan scan' : VarScan) (block : List ℕ) → k < length leaves → block ≡ image (slice_index leaves k)
    → ((count : ℕ) (bytes : List ℕ) → IsFed count bytes scan → IsFed count (bytes ++ block) scan') → Takes image leaves k count scan → Takes image leaves (k + 1) count scan'
takes_next image leaves k count scan scan' block less is grows t =
    record { before = t.before ++ block; reads = reads_next image leaves k t.before block less is t.reads; fed = grows count t.before t.fed }

pub takes_bad : (image : Image) (leaves : List ℕ) (k count number bsize : ℕ) (scan : VarScan) (block : List ℕ) (why : OpenFault) → k < length leaves → block ≡ image (slice_index leaves k)
    → scan.bsize ≡ bsize
    → ((count : ℕ) (bytes rest : List ℕ) → IsFed count bytes scan → blamed (failed.Var number) (sizes_in scan.bsize count ((bytes ++ block) ++ rest)) ≡ Err why)
    → Takes image leaves k count scan → IsFaultOf (blamed (failed.Var number) (sizes_in bsize count (bytes_at image leaves))) why
takes_bad image leaves k count number bsize scan block why less is size bad t =
    let all : bytes_at image leaves ≡ (t.before ++ block) ++ bytes_at image (drop (k + 1) leaves) = reads_next image leaves k t.before block less is t.reads in
    fault_is (blamed (failed.Var number) (sizes_in bsize count (bytes_at image leaves))) why
    (ap (λ (bytes : List ℕ). blamed (failed.Var number) (sizes_in bsize count bytes)) all
    ∙ (ap (λ (b : ℕ). blamed (failed.Var number) (sizes_in b count ((t.before ++ block) ++ bytes_at image (drop (k + 1) leaves)))) (sym size)
    ∙ bad count t.before (bytes_at image (drop (k + 1) leaves)) t.fed))

pub takes_last : (image : Image) (leaves : List ℕ) (k count number bsize : ℕ) (scan : VarScan) (result : Result VarSizes OpenFault) → length leaves ≤ k → scan.bsize ≡ bsize
    → ((count : ℕ) (bytes : List ℕ) → IsFed count bytes scan → result ≡ blamed (failed.Var number) (sizes_in scan.bsize count bytes))
    → Takes image leaves k count scan → result ≡ blamed (failed.Var number) (sizes_in bsize count (bytes_at image leaves))
takes_last image leaves k count number bsize scan result past size is t =
    is count t.before t.fed
    ∙ (ap (λ (b : ℕ). blamed (failed.Var number) (sizes_in b count t.before)) size
    ∙ ap (λ (bytes : List ℕ). blamed (failed.Var number) (sizes_in bsize count bytes)) (reads_last image leaves k t.before past t.reads))

pub when_ok : {A : Type 0} (r : Result A OpenFault) (told : Option Journal) (whole : Journal → Result A OpenFault) → ((j : Journal) → told ≡ Some j → r ≡ whole j)
    → IfOk r (λ x. (j : Journal) → told ≡ Some j → whole j ≡ Ok x)
when_ok (Ok x) told whole is = λ j is_told. sym (is j is_told)
when_ok (Err e) told whole is = tt

pub when_err : {A : Type 0} (r : Result A OpenFault) (told : Option Journal) (whole : Journal → Result A OpenFault) → ((j : Journal) → told ≡ Some j → r ≡ whole j)
    → IfErr r (λ why. (j : Journal) → told ≡ Some j → IsFaultOf (whole j) why)
when_err (Ok x) told whole is = tt
when_err (Err e) told whole is = λ j is_told. fault_is (whole j) e (sym (is j is_told))

pub room_left : (k n b most : ℕ) → k < n → n * b ≤ most → b * k + b ≤ most
room_left k n b most less fits = grind arith

-- ---- one file

-- the bytes end in the last block
pub varying_ends : (bsize n fed stored : ℕ) → 1 ≤ n → fed ≡ n * bsize → stored ≤ fed → fed < stored + bsize → EndsIn bsize n stored
varying_ends bsize n fed stored some is high low =
    ends_last n bsize stored some (subst (λ (k : ℕ). stored ≤ k) is high) (subst (λ (k : ℕ). k < stored + bsize) is low)

pub fixed_ends : (bsize : ℕ) (e : Entry) (n : ℕ) → HasSize bsize e → e.format ≡ F → n ≡ e.blocks → EndsIn bsize n (e.count * e.length)
fixed_ends bsize e n size is count = subst (λ (k : ℕ). EndsIn bsize k (e.count * e.length)) (sym count) (size.ends is)

pub fixed_few : (bsize : ℕ) (e : Entry) → HasSize bsize e → e.format ≡ F → e.count * e.length ≤ 67108864
fixed_few bsize e size is = size.few is

pub varying_few : (bsize : ℕ) (e : Entry) (n : ℕ) → HasSize bsize e → e.format ≡ V → n ≡ e.blocks → n * bsize ≤ 67108864
varying_few bsize e n size is count = rw count size.room

told_varying : (number : ℕ) (read : Result (List (List ℕ)) VarFault) (sizes : VarSizes) → blamed (failed.Var number) (read >>= λ records. Ok (sizes_of records)) ≡ Ok sizes
    → (records : List (List ℕ)) × (blamed (failed.Var number) read ≡ Ok records) × (sizes_of records ≡ sizes)
told_varying number (Ok records) sizes is = (records, refl, cc is)
told_varying number (Err e) sizes is = absurd (cc is)

-- the longest of some records has a byte
longest_some : (bsize n place : ℕ) (bytes : List ℕ) (rs : List (List ℕ)) → varying bsize (suc n) place bytes ≡ Ok rs → 1 ≤ longest rs
unfolding varying longest
longest_some bsize n place bytes rs e =
    let len = half bytes 0 in
    let p1 = want_ok (nat_le 2 (length bytes)) (PastEnd place) _ rs e in
    let p2 = want_ok (nat_le 1 len) (Zero place) _ rs p1.1 in
    let p3 = want_ok (nat_le (2 + len) (length bytes)) (PastEnd place) _ rs p2.1 in
    let least = leb-true 1 len p2.0 in
    let fit = leb-true (2 + len) (length bytes) p3.0 in
    bind_then (varying bsize n (place + (2 + len)) (drop (2 + len) bytes)) _ rs p3.1 (λ more is_more done.
    let two = length-drop 2 bytes in
    let long : length (take len (drop 2 bytes)) ≡ len = length-take-le len (drop 2 bytes) (omega arith) in
    subst (λ (l : List (List ℕ)). 1 ≤ longest l) (ok_same (take len (drop 2 bytes) ∷ more) rs done) (omega arith))

pub sizes_some : (r : Result VarSizes OpenFault) (number bsize count : ℕ) (bytes : List ℕ) → 1 ≤ count → r ≡ blamed (failed.Var number) (sizes_in bsize count bytes)
    → IfOk r (λ sizes. 1 ≤ sizes.longest)
sizes_some (Err e) number bsize count bytes some is = tt
sizes_some (Ok sizes) number bsize zero bytes some is = absurd (omega arith)
sizes_some (Ok sizes) number bsize (suc n) bytes some is =
    let t = told_varying number (varying bsize (suc n) 0 bytes) sizes (sym is) in
    let least = longest_some bsize n 0 bytes t.0 (blamed_ok (failed.Var number) (varying bsize (suc n) 0 bytes) t.0 t.1) in
    subst (λ (s : VarSizes). 1 ≤ s.longest) t.2 least

-- each record that is read takes three bytes at least
records_low : (bsize n place : ℕ) (bytes : List ℕ) (rs : List (List ℕ)) → varying bsize n place bytes ≡ Ok rs → 3 * n ≤ filled_by rs
unfolding varying
records_low bsize zero place bytes rs e = omega arith
records_low bsize (suc n) place bytes rs e =
    let len = half bytes 0 in
    let p1 = want_ok (nat_le 2 (length bytes)) (PastEnd place) _ rs e in
    let p2 = want_ok (nat_le 1 len) (Zero place) _ rs p1.1 in
    let p3 = want_ok (nat_le (2 + len) (length bytes)) (PastEnd place) _ rs p2.1 in
    let least = leb-true 1 len p2.0 in
    let fit = leb-true (2 + len) (length bytes) p3.0 in
    bind_then (varying bsize n (place + (2 + len)) (drop (2 + len) bytes)) _ rs p3.1 (λ more is_more done.
    let text = take len (drop 2 bytes) in
    let two = length-drop 2 bytes in
    let long : length text ≡ len = length-take-le len (drop 2 bytes) (omega arith) in
    let rest = records_low bsize n (place + (2 + len)) (drop (2 + len) bytes) more is_more in
    let joined = length-append (with_length text) (concat (map with_length more)) in
    let first = length-with_length text in
    subst (λ (l : List (List ℕ)). 3 * suc n ≤ filled_by l) (ok_same (text ∷ more) rs done) (omega arith))

pub varying_sized : (r : Result VarSizes OpenFault) (number bsize count : ℕ) (bytes : List ℕ) → r ≡ blamed (failed.Var number) (sizes_in bsize count bytes) → IfOk r (λ sizes. 3 * count ≤ sizes.stored)
varying_sized (Err e) number bsize count bytes is = tt
varying_sized (Ok sizes) number bsize count bytes is =
    let t = told_varying number (varying bsize count 0 bytes) sizes (sym is) in
    let low = records_low bsize count 0 bytes t.0 (blamed_ok (failed.Var number) (varying bsize count 0 bytes) t.0 t.1) in
    subst (λ (s : VarSizes). 3 * count ≤ s.stored) t.2 low

pub fixed_sized : (format : Format) (size count bytes : ℕ) → format ≡ F → bytes ≡ count * size → IsSized format size count bytes
fixed_sized format size count bytes is stored = rw is (stored ∙ mul_comm count size)

pub sized_so : (format : Format) (size count bytes : ℕ) → format ≡ V → 3 * count ≤ bytes → IsSized format size count bytes
sized_so format size count bytes is low = rw is low

pub fixed_has : (bsize : ℕ) (image : Image) (number : ℕ) (e : Entry) (leaves : List ℕ) (told : RecordsTold) → e.format ≡ F → told.sizes.longest ≡ e.length → told.sizes.stored ≡ e.count * e.length
    → told.start ≡ nowhere → HasRecords bsize image number e leaves told
unfolding records_of
fixed_has bsize image number e leaves told is long stored none =
    record { records = cut e.count e.length (bytes_at image leaves); are = rw is refl; sized = rw is (long, stored); starts = rw is none }

pub varying_has : (bsize : ℕ) (image : Image) (number : ℕ) (e : Entry) (leaves : List ℕ) (told : RecordsTold) → e.format ≡ V
    → blamed (failed.Var number) (sizes_in bsize e.count (bytes_at image leaves)) ≡ Ok told.sizes
    → ((records : List (List ℕ)) → varying bsize e.count 0 (bytes_at image leaves) ≡ Ok records → told.start ≡ start_of bsize V records) → HasRecords bsize image number e leaves told
unfolding records_of
varying_has bsize image number e leaves told is read starts =
    let t = told_varying number (varying bsize e.count 0 (bytes_at image leaves)) told.sizes read in
    let same = t.2 in
    let begun = starts t.0 (blamed_ok (failed.Var number) (varying bsize e.count 0 (bytes_at image leaves)) t.0 t.1) in
    record { records = t.0; are = rw is t.1; sized = rw is (sym (ap (λ (s : VarSizes). s.longest) same), sym (ap (λ (s : VarSizes). s.stored) same)); starts = rw is begun }

-- where a journal is told
pub varying_told : (told : Told) (unit bsize number : ℕ) (e : Entry) (leaves : List ℕ) (r : Result RecordsTold OpenFault) → e.format ≡ V
    → IfOk r (λ t. OfImage told unit (λ image. blamed (failed.Var number) (sizes_in bsize e.count (bytes_at image leaves)) ≡ Ok t.sizes))
    → IfOk r (λ t. OfImage told unit (λ image. (records : List (List ℕ)) → varying bsize e.count 0 (bytes_at image leaves) ≡ Ok records → t.start ≡ start_of bsize V records))
    → IfOk r (λ t. OfImage told unit (λ image. HasRecords bsize image number e leaves t))
varying_told told unit bsize number e leaves (Ok t) is read starts = λ j at. varying_has bsize (image_of (contents_of j unit)) number e leaves t is (read j at) (starts j at)
varying_told told unit bsize number e leaves (Err why) is read starts = tt

-- where the records begin in the last block, from what is told of it
pub starts_so : (image : Image) (leaves : List ℕ) (k count bsize number start : ℕ) (scan : VarScan) (sizes : VarSizes) → length leaves ≤ k → scan.bsize ≡ bsize
    → ((count : ℕ) (bytes : List ℕ) → IsFed count bytes scan → Ok sizes ≡ blamed (failed.Var number) (sizes_in scan.bsize count bytes))
    → ((count : ℕ) (bytes : List ℕ) (records : List (List ℕ)) → scan.bsize ≡ bsize → IsFed count bytes scan → varying scan.bsize count 0 bytes ≡ Ok records → sizes.stored ≡ filled_by records
    → start ≡ start_of bsize V records)
    → Takes image leaves k count scan → (records : List (List ℕ)) → varying bsize count 0 (bytes_at image leaves) ≡ Ok records → start ≡ start_of bsize V records
starts_so image leaves k count bsize number start scan sizes past size ended starts t records is =
    let all : t.before ≡ bytes_at image leaves = reads_last image leaves k t.before past t.reads in
    let read : varying scan.bsize count 0 t.before ≡ Ok records = ap (λ (l : List ℕ). varying scan.bsize count 0 l) all ∙ ap (λ (b : ℕ). varying b count 0 (bytes_at image leaves)) size ∙ is in
    let told : Ok sizes ≡ Ok (sizes_of records) = ended count t.before t.fed ∙ ap (λ (r : Result (List (List ℕ)) VarFault). blamed (failed.Var number) (r >>= λ rs. Ok (sizes_of rs))) read in
    starts count t.before records size t.fed read (ap (λ (s : VarSizes). s.stored) (ok_same sizes (sizes_of records) told))

told_fault : (number : ℕ) (read : Result (List (List ℕ)) VarFault) (e : OpenFault) → blamed (failed.Var number) (read >>= λ records. Ok (sizes_of records)) ≡ Err e
    → blamed (failed.Var number) read ≡ Err e
told_fault number (Ok records) e is = absurd (cc is)
told_fault number (Err k) e is = cc is

pub varying_bad : (bsize : ℕ) (image : Image) (number : ℕ) (e : Entry) (leaves : List ℕ) (why : OpenFault) → e.format ≡ V
    → IsFaultOf (blamed (failed.Var number) (sizes_in bsize e.count (bytes_at image leaves))) why
    → IsFaultOf (records_in bsize image number e leaves) why
unfolding records_of
varying_bad bsize image number e leaves why is bad =
    fault_passes (blamed (failed.Var number) (sizes_in bsize e.count (bytes_at image leaves))) (records_in bsize image number e leaves) why
    (λ k fails. rw is (told_fault number (varying bsize e.count 0 (bytes_at image leaves)) k fails)) bad

-- ---- the files before a place

pub record ContentsTo (bsize : ℕ) (image : Image) (entries : List Entry) (walks : List Walked) (k : ℕ) (files : List HeldFile) : Type 0 where
  pub contents : List (List (List ℕ))
  pub many : length contents ≡ k
  pub are : contents_in bsize image 2 entries (map met_in walks) ≡ behind contents (contents_in bsize image (k + 2) (drop k entries) (map met_in (drop k walks)))
  pub files_are : files ≡ told_files bsize (take k entries) (take k walks) contents

pub contents_first : (bsize : ℕ) (image : Image) (entries : List Entry) (walks : List Walked) → ContentsTo bsize image entries walks 0 []
unfolding told_files
contents_first bsize image entries walks = record { contents = []; many = refl; are = behind_none (contents_in bsize image 2 entries (map met_in walks)); files_are = refl }

told_more : (bsize : ℕ) (es : List Entry) (ws : List Walked) (cs : List (List (List ℕ))) (e : Entry) (w : Walked) (c : List (List ℕ)) → length ws ≡ length es → length cs ≡ length es
    → told_files bsize (es ++ (e ∷ [])) (ws ++ (w ∷ [])) (cs ++ (c ∷ [])) ≡ told_files bsize es ws cs ++ (told_file bsize e w c ∷ [])
unfolding told_files
told_more bsize [] [] [] e w c a b = refl
told_more bsize [] [] (x ∷ cs) e w c a b = absurd (omega arith)
told_more bsize [] (x ∷ ws) cs e w c a b = absurd (omega arith)
told_more bsize (x ∷ es) [] cs e w c a b = absurd (omega arith)
told_more bsize (x ∷ es) (y ∷ ws) [] e w c a b = absurd (omega arith)
told_more bsize (x ∷ es) (y ∷ ws) (z ∷ cs) e w c a b = ap (λ (l : List HeldFile). told_file bsize x y z ∷ l) (told_more bsize es ws cs e w c (omega arith) (omega arith))

contents_step : (bsize : ℕ) (image : Image) (entries : List Entry) (walks : List Walked) (k : ℕ) (e : Entry) (w : Walked) → k < length entries → e ≡ get_or entries k e → k < length walks
    → w ≡ get_or walks k w
    → contents_in bsize image (k + 2) (drop k entries) (map met_in (drop k walks))
    ≡ (records_in bsize image (k + 2) e w.leaves.items >>= λ records. contents_in bsize image (k + 1 + 2) (drop (k + 1) entries) (map met_in (drop (k + 1) walks)) >>= λ more. Ok (records ∷ more))
unfolding contents_in
contents_step bsize image entries walks k e w less is less' is' =
    let next : k + 2 + 1 ≡ k + 1 + 2 = omega arith in
    ap (λ (l : List Entry). contents_in bsize image (k + 2) l (map met_in (drop k walks))) (front_of entries k e less is)
    ∙ (ap (λ (l : List Walked). contents_in bsize image (k + 2) (e ∷ drop (k + 1) entries) (map met_in l)) (front_of walks k w less' is')
    ∙ ap (λ (n : ℕ). records_in bsize image (k + 2) e w.leaves.items >>= λ records. contents_in bsize image n (drop (k + 1) entries) (map met_in (drop (k + 1) walks)) >>= λ more. Ok (records ∷ more))
    next)

-- a file as it is made
abbrev pub made : Entry → Walked → RecordsTold → HeldFile
made e w told =
    record {
      entry = record e { length = told.sizes.longest };
      tree = record { leaves = w.leaves.items; pointers = w.pointers.items };
      length = told.sizes.longest;
      size = told.sizes.stored;
      start = told.start;
    }

held_as : (bsize : ℕ) (e : Entry) (w : Walked) (records : List (List ℕ)) (told : RecordsTold) (file : HeldFile) → AreSized e records told.sizes → told.start ≡ start_of bsize e.format records
    → file ≡ made e w told → file ≡ told_file bsize e w records
held_as bsize e w records told file sized starts is = is ∙ (λ i. record {
  entry = record e { length = sized.0 i };
  tree = record { leaves = w.leaves.items; pointers = w.pointers.items };
  length = sized.0 i;
  size = sized.1 i;
  start = starts i;
})

pub contents_next : (bsize : ℕ) (image : Image) (entries : List Entry) (walks : List Walked) (k number : ℕ) (e : Entry) (w : Walked) (leaves : List ℕ) (told : RecordsTold) (files : List HeldFile)
    (file : HeldFile)
    → k < length entries → e ≡ get_or entries k e → k < length walks → w ≡ get_or walks k w → number ≡ k + 2 → leaves ≡ w.leaves.items → file ≡ made e w told
    → HasRecords bsize image number e leaves told → ContentsTo bsize image entries walks k files → ContentsTo bsize image entries walks (k + 1) (files ++ (file ∷ []))
contents_next bsize image entries walks k number e w leaves told files file less is less' is' numbered same made_so has to =
    let rest = contents_in bsize image (k + 1 + 2) (drop (k + 1) entries) (map met_in (drop (k + 1) walks)) in
    let here : records_in bsize image (k + 2) e w.leaves.items ≡ Ok has.records =
    subst (λ (l : List ℕ). records_in bsize image (k + 2) e l ≡ Ok has.records) same (subst (λ (n : ℕ). records_in bsize image n e leaves ≡ Ok has.records) numbered has.are) in
    let step = contents_step bsize image entries walks k e w less is less' is' ∙ ap (λ (r : Result (List (List ℕ)) OpenFault). r >>= λ records. rest >>= λ more. Ok (records ∷ more)) here in
    let es = length-take-le k entries (omega arith) in
    let ws = length-take-le k walks (omega arith) in
    let cs = to.many in
    record {
      contents = to.contents ++ (has.records ∷ []);
      many = length-append to.contents (has.records ∷ []) ∙ omega (arith, cs);
      are = to.are ∙ (ap (behind to.contents) step ∙ behind_more to.contents has.records rest);
      files_are =
          ap (λ (l : List HeldFile). l ++ (file ∷ [])) to.files_are
          ∙ (ap (λ (f : HeldFile). told_files bsize (take k entries) (take k walks) to.contents ++ (f ∷ [])) (held_as bsize e w has.records told file has.sized has.starts made_so)
          ∙ (sym (told_more bsize (take k entries) (take k walks) to.contents e w has.records (omega (arith, es, ws)) (omega (arith, es, cs)))
          ∙ (ap (λ (l : List Entry). told_files bsize l (take k walks ++ (w ∷ [])) (to.contents ++ (has.records ∷ []))) (sym (taken_next entries k e less is))
          ∙ ap (λ (l : List Walked). told_files bsize (take (k + 1) entries) l (to.contents ++ (has.records ∷ []))) (sym (taken_next walks k w less' is')))));
    }

pub contents_bad : (bsize : ℕ) (image : Image) (entries : List Entry) (walks : List Walked) (k number : ℕ) (e : Entry) (w : Walked) (leaves : List ℕ) (files : List HeldFile) (why : OpenFault)
    → k < length entries → e ≡ get_or entries k e → k < length walks → w ≡ get_or walks k w → number ≡ k + 2 → leaves ≡ w.leaves.items → IsFaultOf (records_in bsize image number e leaves) why
    → ContentsTo bsize image entries walks k files → IsFaultOf (contents_in bsize image 2 entries (map met_in walks)) why
contents_bad bsize image entries walks k number e w leaves files why less is less' is' numbered same bad to =
    let rest = contents_in bsize image (k + 1 + 2) (drop (k + 1) entries) (map met_in (drop (k + 1) walks)) in
    fault_passes (records_in bsize image number e leaves) (contents_in bsize image 2 entries (map met_in walks)) why
    (λ wrong fails.
    let here : records_in bsize image (k + 2) e w.leaves.items ≡ Err wrong =
    subst (λ (l : List ℕ). records_in bsize image (k + 2) e l ≡ Err wrong) same (subst (λ (n : ℕ). records_in bsize image n e leaves ≡ Err wrong) numbered fails) in
    let step = contents_step bsize image entries walks k e w less is less' is' ∙ ap (λ (r : Result (List (List ℕ)) OpenFault). r >>= λ records. rest >>= λ more. Ok (records ∷ more)) here in
    to.are ∙ ap (behind to.contents) step)
    bad

pub contents_last : (bsize : ℕ) (image : Image) (entries : List Entry) (walks : List Walked) (k : ℕ) (files : List HeldFile) → length entries ≤ k → length walks ≤ k
    → ContentsTo bsize image entries walks k files → HasContents bsize image entries walks files
unfolding contents_in
contents_last bsize image entries walks k files past past' to = record {
  contents = to.contents;
  are = to.are ∙ (ap (λ (l : List Entry). behind to.contents (contents_in bsize image (k + 2) l (map met_in (drop k walks)))) (drop_all k entries past) ∙ ap Ok (append-nil to.contents));
  files_are = to.files_are ∙ (ap (λ (l : List Entry). told_files bsize l (take k walks) to.contents) (take_all k entries past)
      ∙ ap (λ (l : List Walked). told_files bsize entries l to.contents) (take_all k walks past'));
}

-- the data blocks and the pointer blocks of a tree by its entry
sizes_at : (bsize : ℕ) (entries : List Entry) (walks : List Walked) (k : ℕ) (e : Entry) (w : Walked) → HaveCounts bsize entries walks → k < length entries → k < length walks → e ≡ get_or entries k e
    → w ≡ get_or walks k w → walked_sizes w ≡ entry_sizes bsize e
sizes_at bsize [] walks k e w counts less less' is is' = absurd (omega arith)
sizes_at bsize (x ∷ es) [] k e w counts less less' is is' = absurd (omega arith)
sizes_at bsize (x ∷ es) (y ∷ ws) zero e w counts less less' is is' = rw (is, is') (heads counts)
  where
    heads : {a b : ℕ × ℕ} {xs ys : List (ℕ × ℕ)} → a ∷ xs ≡ b ∷ ys → a ≡ b
    heads same = cc same
sizes_at bsize (x ∷ es) (y ∷ ws) (suc k) e w counts less less' is is' = sizes_at bsize es ws k e w (tails counts) (omega arith) (omega arith) is is'
  where
    tails : {a b : ℕ × ℕ} {xs ys : List (ℕ × ℕ)} → a ∷ xs ≡ b ∷ ys → xs ≡ ys
    tails same = cc same

pub count_at : (bsize : ℕ) (entries : List Entry) (walks : List Walked) (k : ℕ) (e : Entry) (w : Walked) → HaveCounts bsize entries walks → k < length entries → k < length walks → e ≡ get_or entries k e
    → w ≡ get_or walks k w → length w.leaves.items ≡ e.blocks
count_at bsize entries walks k e w counts less less' is is' = ap (λ (p : ℕ × ℕ). p.0) (sizes_at bsize entries walks k e w counts less less' is is')

pub nodes_at : (bsize : ℕ) (entries : List Entry) (walks : List Walked) (k : ℕ) (e : Entry) (w : Walked) → HaveCounts bsize entries walks → k < length entries → k < length walks → e ≡ get_or entries k e
    → w ≡ get_or walks k w → length w.pointers.items ≡ pointer_count (fan_of bsize e.format) e.blocks
nodes_at bsize entries walks k e w counts less less' is is' = ap (λ (p : ℕ × ℕ). p.1) (sizes_at bsize entries walks k e w counts less less' is is')

-- a tree that is taken from the front of what is left
pub taken_is : {A : Type 0} (before : List A) (x : A) (rest all : List A) → before ++ (x ∷ rest) ≡ all → (length before < length all) × (x ≡ get_or all (length before) x)
taken_is {A = A} before x rest all is = subst (λ (l : List A). (length before < length l) × (x ≡ get_or l (length before) x)) is (less before, at before)
  where
    less : (b : List A) → length b < length (b ++ (x ∷ rest))
    less b = let long = length-append b (x ∷ rest) in omega arith

    at : (b : List A) → x ≡ get_or (b ++ (x ∷ rest)) (length b) x
    at [] = refl
    at (y ∷ ys) = at ys
