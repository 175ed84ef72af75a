-- Some data blocks of a directory are put together entry by entry.
use Rattle.std.proofs.Common.{◌≡◌, inl, inr, ℕ, zero, suc, ◌+◌, ◌-◌, ◌*◌, ◌/◌, ◌^◌, ◌<◌, ◌≤◌, List, [], ◌∷◌, ◌++◌, length, map, take, replicate, get_or, All, Some, slice_get, refl, sym, ◌∙◌, ap, subst, arith, append-nil, append_assoc, length-append, mul-le-mul_right}
use Rattle.std.specs.Prelude.{codes}
use Rattle.std.specs.List.{concat, range_with_len}
use Rattle.std.proofs.lemmas.List.{map-append, take_more}
use Rattle.std.proofs.lemmas.List.Elements.{All-head, All-tail}
use Rattle.std.proofs.lemmas.List.Folds.{concat-append}
use Rattle.std.proofs.lemmas.List.FromFn.{length-range_with_len, map-range_with_len_more}
use Rattle.std.proofs.lemmas.Option.{slice_get_past}
use Rattle.cms_journal.specs.Journal.{IsBlockSize}
use Rattle.cms_fields.specs.Entries.{entry_bytes}
use Rattle.cms_fields.specs.Numbers.{up}
use Rattle.cms_fields.specs.declared.entry.Entry.{Entry}
use Rattle.cms_fields.specs.declared.time.Stamp.{Stamp}
use Rattle.cms_model.proofs.Quotients.{up_spec}
use Rattle.cms_model.specs.Systems.{SystemFile}
use Rattle.cms_held.specs.Systems.{Systems, directory_file, directory_piece, map_file, system_entry}
use Rattle.cms_held.specs.Written.{ReadsBack, directory_name, map_name}
use Rattle.cms_held.proofs.SystemsRead.{entry_long}
use Rattle.cms_edf.specs.DirectoryFields.{block_fields, field_at, file_or_zeros}
use Rattle.cms_edf.proofs.DirectoryPieces.{block_is}

-- ---- the entry of a number

-- that of a file
pub field_file : (own maps : List ℕ) (es : List Entry) (n : ℕ) (e : Entry) → 2 ≤ n → slice_get es (n - 2) ≡ Some e → entry_bytes e ≡ field_at own maps es n
field_file own maps es zero e low is = absurd (omega arith)
field_file own maps es (suc zero) e low is = absurd (omega arith)
field_file own maps es (suc (suc k)) e low is =
    let same : suc (suc k) - 2 ≡ k = omega arith in
    ap file_or_zeros (sym (sym (ap (slice_get es) same) ∙ is))

-- and that behind them
pub field_none : (own maps : List ℕ) (es : List Entry) (n : ℕ) → 2 ≤ n → length es ≤ n - 2 → replicate 64 0 ≡ field_at own maps es n
field_none own maps es zero low past = absurd (omega arith)
field_none own maps es (suc zero) low past = absurd (omega arith)
field_none own maps es (suc (suc k)) low past = ap file_or_zeros (sym (slice_get_past es k (omega arith)))

-- ---- one more piece

-- of a row of numbers
pub fields_next : (f : ℕ → List ℕ) (before now after : List ℕ) (a n : ℕ) → a ≤ n → now ≡ before ++ concat (map f (range_with_len a (n - a))) → after ≡ now ++ f n
    → after ≡ before ++ concat (map f (range_with_len a (n + 1 - a)))
fields_next f before now after a n low so is =
    let pieces = λ (k : ℕ). concat (map f (range_with_len a k)) in
    let e : n + 1 - a ≡ n - a + 1 = omega arith in
    let at : a + (n - a) ≡ n = omega arith in
    let more : pieces (n - a + 1) ≡ pieces (n - a) ++ f n = ap concat (map-range_with_len_more f a (n - a) n at)
    ∙ (concat-append (map f (range_with_len a (n - a))) (f n ∷ []) ∙ ap (λ (l : List ℕ). pieces (n - a) ++ l) (append-nil (f n))) in
    is ∙ (ap (λ (l : List ℕ). l ++ f n) so ∙ (append_assoc before (pieces (n - a)) (f n) ∙ ap (λ (l : List ℕ). before ++ l) (sym more ∙ ap pieces (sym e))))

-- of a list of them
pub blocks_next : (f : ℕ → List ℕ) (js : List ℕ) (i j : ℕ) (now after : List ℕ) → i < length js → j ≡ get_or js i 0 → now ≡ concat (map f (take i js)) → after ≡ now ++ f j
    → after ≡ concat (map f (take (i + 1) js))
blocks_next f js i j now after less at so is =
    let one : take (i + 1) js ≡ take i js ++ (j ∷ []) = take_more js i 0 less ∙ ap (λ (k : ℕ). take i js ++ (k ∷ [])) (sym at) in
    let more : concat (map f (take i js ++ (j ∷ []))) ≡ concat (map f (take i js)) ++ f j =
    ap concat (map-append f (take i js) (j ∷ [])) ∙ (concat-append (map f (take i js)) (f j ∷ []) ∙ ap (λ (l : List ℕ). concat (map f (take i js)) ++ l) (append-nil (f j))) in
    is ∙ (ap (λ (l : List ℕ). l ++ f j) so ∙ sym (ap (λ (l : List ℕ). concat (map f l)) one ∙ more))

-- ---- all of them

-- they are those of the directory
pub blocks_are : (bsize each : ℕ) (s : Systems) (es : List Entry) (stamp : Stamp) (own maps : List ℕ) (js : List ℕ) → each * 64 ≡ bsize → All ReadsBack es
    → own ≡ system_entry directory_name 64 (directory_file bsize s (length es)) stamp → maps ≡ system_entry map_name bsize (map_file bsize s) stamp
    → 64 * (length es + 2) ≤ length s.directory.leaves * bsize → All (λ j. j < length s.directory.leaves) js
    → concat (map (block_fields own maps es each) js) ≡ concat (map (directory_piece bsize s es stamp) js)
blocks_are bsize each s es stamp own maps [] whole back is_own is_maps room all = refl
blocks_are bsize each s es stamp own maps (j ∷ js) whole back is_own is_maps room all =
    let less : j < length s.directory.leaves = All-head (λ (i : ℕ). i < length s.directory.leaves) j js all in
    let here : block_fields own maps es each j ≡ directory_piece bsize s es stamp j = block_is bsize each s es stamp own maps j whole back is_own is_maps room less in
    let rest = blocks_are bsize each s es stamp own maps js whole back is_own is_maps room (All-tail (λ (i : ℕ). i < length s.directory.leaves) j js all) in
    λ i. here i ++ rest i

file_long : (es : List Entry) (k : ℕ) → All ReadsBack es → length (file_or_zeros (slice_get es k)) ≡ 64
file_long [] k back = refl
file_long (e ∷ es) zero back = (All-head ReadsBack e es back).0
file_long (e ∷ es) (suc k) back = file_long es k (All-tail ReadsBack e es back)

field_long : (own maps : List ℕ) (es : List Entry) (n : ℕ) → length own ≡ 64 → length maps ≡ 64 → All ReadsBack es → length (field_at own maps es n) ≡ 64
field_long own maps es zero a b back = a
field_long own maps es (suc zero) a b back = b
field_long own maps es (suc (suc k)) a b back = file_long es k back

pieces_long : (f : ℕ → List ℕ) (size : ℕ) (ns : List ℕ) → ((n : ℕ) → length (f n) ≡ size) → length (concat (map f ns)) ≡ length ns * size
pieces_long f size [] each = omega arith
pieces_long f size (n ∷ ns) each =
    let rest = pieces_long f size ns each in
    let here = each n in
    let both = length-append (f n) (concat (map f ns)) in
    omega arith

-- they have as many bytes
pub blocks_long : (bsize each : ℕ) (es : List Entry) (stamp : Stamp) (own maps : List ℕ) (directory map_entry : SystemFile) (js : List ℕ) → each * 64 ≡ bsize → All ReadsBack es
    → own ≡ system_entry directory_name 64 directory stamp → maps ≡ system_entry map_name bsize map_entry stamp
    → length (concat (map (block_fields own maps es each) js)) ≡ length js * bsize
blocks_long bsize each es stamp own maps directory map_entry js whole back is_own is_maps =
    let own_long : length own ≡ 64 = ap (λ (l : List ℕ). length l) is_own ∙ entry_long 1 (codes "DIRECTOR") 64 directory stamp in
    let maps_long : length maps ≡ 64 = ap (λ (l : List ℕ). length l) is_maps ∙ entry_long 2 (codes "ALLOCMAP") bsize map_entry stamp in
    pieces_long (block_fields own maps es each) bsize js (λ j. pieces_long (field_at own maps es) 64 (range_with_len (j * each) each) (λ n. field_long own maps es n own_long maps_long back)
    ∙ (ap (λ (n : ℕ). n * 64) (length-range_with_len (j * each) each) ∙ whole))

-- the entries have room in so many data blocks
pub has_room : (bsize count files : ℕ) → 1 ≤ bsize → count ≡ up (64 * (files + 2)) bsize → 64 * (files + 2) ≤ count * bsize
has_room bsize count files some is = subst (λ (n : ℕ). 64 * (files + 2) ≤ n * bsize) (sym is) (up_spec (64 * (files + 2)) bsize some).0

-- the numbers of a block's entries fit in a word
pub few_numbers : (bsize count files each j : ℕ) → 1 ≤ bsize → bsize ≤ 4096 → each * 64 ≡ bsize → files ≤ 16384 → count ≡ up (64 * (files + 2)) bsize → j < count → j * each + each < 2 ^ 32
few_numbers bsize count files each j some most whole few is less =
    let spec : count * bsize < 64 * (files + 2) + bsize = subst (λ (n : ℕ). n * bsize < 64 * (files + 2) + bsize) (sym is) (up_spec (64 * (files + 2)) bsize some).1 in
    let top : suc j * each ≤ count * each = mul-le-mul_right each less in
    let wide : count * each * 64 ≡ count * bsize = (let e : count * each * 64 ≡ count * (each * 64) = omega arith in e ∙ ap (λ (n : ℕ). count * n) whole) in
    omega arith

-- the entries of a data block fill it
pub each_whole : (bsize : ℕ) → IsBlockSize bsize → bsize / 64 * 64 ≡ bsize
each_whole bsize (inl is) = subst (λ (b : ℕ). b / 64 * 64 ≡ b) (sym is) refl
each_whole bsize (inr (inl is)) = subst (λ (b : ℕ). b / 64 * 64 ≡ b) (sym is) refl
each_whole bsize (inr (inr (inl is))) = subst (λ (b : ℕ). b / 64 * 64 ≡ b) (sym is) refl
each_whole bsize (inr (inr (inr is))) = subst (λ (b : ℕ). b / 64 * 64 ≡ b) (sym is) refl
