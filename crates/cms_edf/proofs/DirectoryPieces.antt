-- The bytes of the data blocks of a directory, entry by entry.
use Rattle.std.proofs.Common.{◌≡◌, ℕ, zero, suc, ◌+◌, ◌-◌, ◌*◌, ◌<◌, ◌≤◌, List, [], ◌∷◌, ◌++◌, length, map, take, drop, replicate, All, slice_get, refl, sym, ◌∙◌, ap, subst, arith, append_assoc, mul-le-mul_right}
use Rattle.std.specs.Prelude.{codes}
use Rattle.std.specs.List.{concat, range_with_len}
use Rattle.std.proofs.Math.Seq.{drop-append_seam, take-append_seam}
use Rattle.std.proofs.lemmas.List.{drop-drop}
use Rattle.std.proofs.lemmas.List.Elements.{All-head, All-tail}
use Rattle.cms_fields.specs.Entries.{entry_bytes}
use Rattle.cms_fields.specs.declared.entry.Entry.{Entry}
use Rattle.cms_fields.specs.declared.time.Stamp.{Stamp}
use Rattle.cms_held.specs.Systems.{Systems, directory_bytes_of, directory_file, directory_piece, map_file, system_entry}
use Rattle.cms_held.specs.Written.{ReadsBack, directory_name, file_entries, map_name}
use Rattle.cms_held.proofs.PiecesWritten.{take_both}
use Rattle.cms_held.proofs.SystemsRead.{entry_long}
use Rattle.cms_edf.specs.DirectoryFields.{block_fields, field_at, file_or_zeros}

-- ---- pieces of 64 bytes

pub pieces_joined : (xs : List ℕ) (a n : ℕ) → concat (map (λ (i : ℕ). take 64 (drop (i * 64) xs)) (range_with_len a n)) ≡ take (n * 64) (drop (a * 64) xs)
pieces_joined xs a zero = refl
pieces_joined xs a (suc n) =
    let rest = pieces_joined xs (a + 1) n in
    let e : a * 64 + 64 ≡ (a + 1) * 64 = omega arith in
    let f : 64 + n * 64 ≡ suc n * 64 = omega arith in
    let behind : drop ((a + 1) * 64) xs ≡ drop 64 (drop (a * 64) xs) = ap (λ (k : ℕ). drop k xs) (sym e) ∙ sym (drop-drop 64 (a * 64) xs) in
    ap (λ (l : List ℕ). take 64 (drop (a * 64) xs) ++ l) (rest ∙ ap (take (n * 64)) behind)
    ∙ (take_both 64 (n * 64) (drop (a * 64) xs) ∙ ap (λ (k : ℕ). take k (drop (a * 64) xs)) f)

-- ---- the entries of files

zeros_take : (k n : ℕ) → k ≤ n → take {A = ℕ} k (replicate n 0) ≡ replicate k 0
zeros_take zero n few = refl
zeros_take (suc k) zero few = absurd (omega arith)
zeros_take (suc k) (suc n) few = ap (λ (l : List ℕ). 0 ∷ l) (zeros_take k n (omega arith))

zeros_drop : (k n : ℕ) → drop {A = ℕ} k (replicate n 0) ≡ replicate (n - k) 0
zeros_drop zero n = let e : n - 0 ≡ n = omega arith in rw e refl
zeros_drop (suc k) zero = let e : 0 - suc k ≡ 0 = omega arith in rw e refl
zeros_drop (suc k) (suc n) = let e : suc n - suc k ≡ n - k = omega arith in rw e (zeros_drop k n)

file_piece : (es : List Entry) (zeros k : ℕ) → All ReadsBack es → k * 64 + 64 ≤ 64 * length es + zeros → take 64 (drop (k * 64) (file_entries es ++ replicate zeros 0)) ≡ file_or_zeros (slice_get es k)
unfolding file_entries
file_piece [] zeros k back room = ap (take 64) (zeros_drop (k * 64) zeros) ∙ zeros_take 64 (zeros - k * 64) (omega arith)
file_piece (e ∷ es) zeros zero back room =
    let long = (All-head ReadsBack e es back).0 in
    let more = file_entries es ++ replicate zeros 0 in
    ap (take 64) (append_assoc (entry_bytes e) (file_entries es) (replicate zeros 0))
    ∙ subst (λ (n : ℕ). take n (entry_bytes e ++ more) ≡ entry_bytes e) long (take-append_seam (entry_bytes e) more)
file_piece (e ∷ es) zeros (suc k) back room =
    let long = (All-head ReadsBack e es back).0 in
    let more = file_entries es ++ replicate zeros 0 in
    let g : 64 + k * 64 ≡ suc k * 64 = omega arith in
    let behind : drop 64 (entry_bytes e ++ more) ≡ more = subst (λ (n : ℕ). drop n (entry_bytes e ++ more) ≡ more) long (drop-append_seam (entry_bytes e) more) in
    let all : drop (suc k * 64) ((entry_bytes e ++ file_entries es) ++ replicate zeros 0) ≡ drop (k * 64) more =
    ap (drop (suc k * 64)) (append_assoc (entry_bytes e) (file_entries es) (replicate zeros 0))
    ∙ (ap (λ (n : ℕ). drop n (entry_bytes e ++ more)) (sym g) ∙ (sym (drop-drop (k * 64) 64 (entry_bytes e ++ more)) ∙ ap (drop (k * 64)) behind)) in
    ap (take 64) all ∙ file_piece es zeros k (All-tail ReadsBack e es back) (omega arith)

-- ---- a directory

joined_piece : (own maps files : List ℕ) (es : List Entry) (zeros n : ℕ) → length own ≡ 64 → length maps ≡ 64 → All ReadsBack es → files ≡ file_entries es ++ replicate zeros 0
    → n * 64 + 64 ≤ 64 * (length es + 2) + zeros → take 64 (drop (n * 64) (own ++ (maps ++ files))) ≡ field_at own maps es n
joined_piece own maps files es zeros zero own_long maps_long back is room =
    subst (λ (k : ℕ). take k (own ++ (maps ++ files)) ≡ own) own_long (take-append_seam own (maps ++ files))
joined_piece own maps files es zeros (suc zero) own_long maps_long back is room =
    let behind : drop 64 (own ++ (maps ++ files)) ≡ maps ++ files = subst (λ (k : ℕ). drop k (own ++ (maps ++ files)) ≡ maps ++ files) own_long (drop-append_seam own (maps ++ files)) in
    ap (take 64) behind ∙ subst (λ (k : ℕ). take k (maps ++ files) ≡ maps) maps_long (take-append_seam maps files)
joined_piece own maps files es zeros (suc (suc k)) own_long maps_long back is room =
    let behind : drop 64 (own ++ (maps ++ files)) ≡ maps ++ files = subst (λ (m : ℕ). drop m (own ++ (maps ++ files)) ≡ maps ++ files) own_long (drop-append_seam own (maps ++ files)) in
    let behind' : drop 64 (maps ++ files) ≡ files = subst (λ (m : ℕ). drop m (maps ++ files) ≡ files) maps_long (drop-append_seam maps files) in
    let g : 64 + (64 + k * 64) ≡ suc (suc k) * 64 = omega arith in
    let all : drop (suc (suc k) * 64) (own ++ (maps ++ files)) ≡ drop (k * 64) files =
    ap (λ (m : ℕ). drop m (own ++ (maps ++ files))) (sym g)
    ∙ (sym (drop-drop (64 + k * 64) 64 (own ++ (maps ++ files))) ∙ (ap (drop (64 + k * 64)) behind
    ∙ (sym (drop-drop (k * 64) 64 (maps ++ files)) ∙ ap (drop (k * 64)) behind'))) in
    ap (take 64) (all ∙ ap (drop (k * 64)) is) ∙ file_piece es zeros k back (omega arith)

same_fields : (own maps : List ℕ) (es : List Entry) (whole : List ℕ) (a n : ℕ) → ((i : ℕ) → a ≤ i → i < a + n → take 64 (drop (i * 64) whole) ≡ field_at own maps es i)
    → concat (map (λ (i : ℕ). take 64 (drop (i * 64) whole)) (range_with_len a n)) ≡ concat (map (field_at own maps es) (range_with_len a n))
same_fields own maps es whole a zero each = refl
same_fields own maps es whole a (suc n) each =
    let here = each a (omega arith) (omega arith) in
    let rest = same_fields own maps es whole (a + 1) n (λ i low high. each i (omega arith) (omega arith)) in
    λ i. here i ++ rest i

-- a data block has the fields of its entries
pub block_is : (bsize each : ℕ) (s : Systems) (es : List Entry) (stamp : Stamp) (own maps : List ℕ) (j : ℕ) → each * 64 ≡ bsize → All ReadsBack es
    → own ≡ system_entry directory_name 64 (directory_file bsize s (length es)) stamp → maps ≡ system_entry map_name bsize (map_file bsize s) stamp
    → 64 * (length es + 2) ≤ length s.directory.leaves * bsize → j < length s.directory.leaves → block_fields own maps es each j ≡ directory_piece bsize s es stamp j
unfolding directory_bytes_of
block_is bsize each s es stamp own maps j whole back is_own is_maps room less =
    let count = length s.directory.leaves in
    let zeros = count * bsize - 64 * (length es + 2) in
    let own_long : length own ≡ 64 = ap (λ (l : List ℕ). length l) is_own ∙ entry_long 1 (codes "DIRECTOR") 64 (directory_file bsize s (length es)) stamp in
    let maps_long : length maps ≡ 64 = ap (λ (l : List ℕ). length l) is_maps ∙ entry_long 2 (codes "ALLOCMAP") bsize (map_file bsize s) stamp in
    let files = file_entries es ++ replicate zeros 0 in
    let all = own ++ (maps ++ files) in
    let is : all ≡ directory_bytes_of bsize s es stamp = (λ i. is_own i ++ (is_maps i ++ files)) in
    let top : suc j * bsize ≤ count * bsize = mul-le-mul_right bsize less in
    let wide : (j * each + each) * 64 ≡ suc j * bsize = widths j each bsize whole in
    let from : j * each * 64 ≡ j * bsize = froms j each bsize whole in
    let fields : concat (map (λ (i : ℕ). take 64 (drop (i * 64) all)) (range_with_len (j * each) each)) ≡ block_fields own maps es each j =
    same_fields own maps es all (j * each) each (λ i low high. joined_piece own maps files es zeros i own_long maps_long back refl (let most : suc i * 64 ≤ (j * each + each) * 64 = mul-le-mul_right 64 high in omega arith)) in
    sym fields ∙ (pieces_joined all (j * each) each ∙ (ap (λ (n : ℕ). take n (drop (j * each * 64) all)) whole
    ∙ (ap (λ (n : ℕ). take bsize (drop n all)) from ∙ ap (λ (l : List ℕ). take bsize (drop (j * bsize) l)) is)))
  where
    widths : (j each bsize : ℕ) → each * 64 ≡ bsize → (j * each + each) * 64 ≡ suc j * bsize
    widths j each bsize is = let e : (j * each + each) * 64 ≡ suc j * (each * 64) = omega arith in e ∙ ap (λ (n : ℕ). suc j * n) is

    froms : (j each bsize : ℕ) → each * 64 ≡ bsize → j * each * 64 ≡ j * bsize
    froms j each bsize is = let e : j * each * 64 ≡ j * (each * 64) = omega arith in e ∙ ap (λ (n : ℕ). j * n) is
