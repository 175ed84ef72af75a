-- The directory and the map of which a part was written are read again.
use Rattle.std.proofs.Common.{◌≡◌, ⊎_elim, ℕ, suc, ◌+◌, ◌-◌, ◌*◌, ◌/◌, ◌%◌, ◌^◌, ◌<◌, ◌≤◌, true, false, List, ◌++◌, length, map, take, drop, get_or, replicate, All, Ok, refl, sym, ◌∙◌, ap, subst, arith, div-add-mod', mod-lt, mul-le-mul_right, length-drop}
use Rattle.std.specs.Prelude.{codes}
use Rattle.std.proofs.lemmas.Bool.{cases_Bool, le-leb}
use Rattle.std.proofs.lemmas.List.{length-take, take-take, drop-take, drop-drop}
use Rattle.std.proofs.lemmas.List.Elements.{All-cons, All-from_get_or}
use Rattle.cms_journal.specs.Journal.{IsBlockSize}
use Rattle.cms_journal.proofs.Sizes.{block_bounds}
use Rattle.cms_fields.specs.Entries.{passes}
use Rattle.cms_fields.specs.Labels.{label_of}
use Rattle.cms_fields.specs.Numbers.{up}
use Rattle.cms_fields.specs.declared.entry.Entry.{Entry}
use Rattle.cms_model.specs.Lists.{In, cut, holds}
use Rattle.cms_model.specs.Trees.{Image, bytes_at}
use Rattle.cms_model.specs.Volumes.{as_read, entries_of}
use Rattle.cms_model.proofs.OpenedVolumes.{label_reads}
use Rattle.cms_model.proofs.Quotients.{up_spec, up_some, up_below, up_unique}
use Rattle.cms_model.proofs.Repeats.{in_from, in_held}
use Rattle.cms_held.specs.Systems.{directory_bytes_of, directory_file, map_file, system_entry}
use Rattle.cms_held.specs.Written.{ReadsBack, directory_name, map_name, file_entries}
use Rattle.cms_held.proofs.EntryBytes.{length_entries}
use Rattle.cms_held.proofs.SystemsRead.{Fits, Says, Word, all_parts, behind_one, behind_two, directory_long, entries_back, entry_long, entry_says, first_block, is_directory_from, is_map_from, lies_words, root_first, root_word}
use Rattle.cms_held.specs.EntryPlaces.{EntriesStay, HasEntries, IsReadAs, entry_at}
use Rattle.cms_held.specs.SharedBlocks.{AreLong, SharesBlocks}
use Rattle.cms_held.specs.SharedSystems.{ShareIsRead}
use Rattle.cms_held.proofs.BlockBytes.{leaf_long}
use Rattle.cms_held.proofs.EntryPlaces.{entries_by_place, spelled}
use Rattle.cms_held.proofs.MapPlaces.{map_is_shared}
use Rattle.cms_model.specs.DirectoryParts.{entry_block}
use Rattle.cms_model.proofs.DirectoryParts.{entry_within, parts}

clash : true ≡ false → ⊥
clash e = cc

-- ---- the directory's data blocks

-- a piece of bytes that fill so many blocks
pub piece_long : (bytes : List ℕ) (count bsize j : ℕ) → length bytes ≡ count * bsize → j < count → length (take bsize (drop (j * bsize) bytes)) ≡ bsize
piece_long bytes count bsize j long less =
    let room : suc j * bsize ≤ count * bsize = mul-le-mul_right bsize less in
    omega (arith, length-take bsize (drop (j * bsize) bytes), length-drop (j * bsize) bytes)

pub shared_long : (bsize : ℕ) (before later : Image) (olds leaves written : List ℕ) (piece : ℕ → List ℕ) → SharesBlocks before later olds leaves written piece → AreLong bsize before olds
    → ((j : ℕ) → j < length leaves → length (piece j) ≡ bsize) → AreLong bsize later leaves
shared_long bsize before later olds leaves written piece shares long pieces = All-from_get_or (λ (n : ℕ). length (later n) ≡ bsize) leaves 0 (λ j less. ⊎_elim
    (λ (is : holds written j ≡ true). ap length (shares.anew j less (in_from j written is)) ∙ pieces j less)
    (λ (no : holds written j ≡ false).
    let isnt = λ (h : In j written). clash (sym (in_held j written h) ∙ no) in
    ap length (shares.same j less isnt) ∙ leaf_long bsize before olds j long (shares.had j less isnt))
    (cases_Bool (holds written j)))

-- the bytes of an entry in a piece
entry_piece : (bsize k : ℕ) (bytes : List ℕ) → IsBlockSize bsize
    → take 64 (drop ((k + 2) % (bsize / 64) * 64) (take bsize (drop (entry_block bsize (k + 2) * bsize) bytes))) ≡ take 64 (drop (k * 64) (drop 128 bytes))
entry_piece bsize k bytes size =
    let p = parts bsize size in
    let whole = p.0 in
    let some = p.1 in
    let each = bsize / 64 in
    let j = (k + 2) / each in
    let r = (k + 2) % each in
    let split : j * each + r ≡ k + 2 = div-add-mod' (k + 2) each in
    let small : r < each = mod-lt (k + 2) (omega arith) in
    let wide : j * bsize ≡ j * each * 64 = ap (λ (n : ℕ). j * n) (sym whole) ∙ (omega arith) in
    let at : j * bsize + r * 64 ≡ 128 + k * 64 = omega arith in
    let fits : suc r * 64 ≤ each * 64 = mul-le-mul_right 64 small in
    let rest = bsize - r * 64 in
    let room : r * 64 + rest ≡ bsize = omega arith in
    let cut' : drop (r * 64) (take bsize (drop (j * bsize) bytes)) ≡ take rest (drop (r * 64) (drop (j * bsize) bytes)) =
    ap (λ (n : ℕ). drop (r * 64) (take n (drop (j * bsize) bytes))) (sym room) ∙ drop-take (r * 64) rest (drop (j * bsize) bytes) in
    ap (take 64) cut' ∙ (take-take 64 rest (drop (r * 64) (drop (j * bsize) bytes)) (omega arith)
    ∙ ap (take 64) (drop-drop (r * 64) (j * bsize) bytes ∙ (ap (λ (n : ℕ). drop n bytes) at ∙ sym (drop-drop (k * 64) 128 bytes))))

-- the entries of a directory of which these data blocks were written are read
pub entries_shared : (bsize : ℕ) (before later : Image) (olds leaves written : List ℕ) (old_entries entries : List Entry) (bytes zeros : List ℕ) → IsBlockSize bsize
    → AreLong bsize before olds → AreLong bsize later leaves → 64 * (length old_entries + 2) ≤ length olds * bsize → 64 * (length entries + 2) ≤ length leaves * bsize
    → ((k : ℕ) → k < length entries → entry_block bsize (k + 2) < length leaves)
    → HasEntries bsize before olds old_entries → EntriesStay bsize written old_entries entries
    → SharesBlocks before later olds leaves written (λ j. take bsize (drop (j * bsize) bytes))
    → drop 128 bytes ≡ file_entries entries ++ zeros → All (λ e. passes bsize e ≡ true) entries → All ReadsBack entries
    → HasEntries bsize later leaves entries
entries_shared bsize before later olds leaves written old_entries entries bytes zeros size long long' old_room room lies had stay shares files each back =
    (entries_by_place bsize later leaves entries size long' room).1 (λ k d less.
    let j = entry_block bsize (k + 2) in
    let at = (k + 2) % (bsize / 64) * 64 in
    let inside = lies k less in
    ⊎_elim
    (λ (is : holds written j ≡ true).
    let same : entry_at bsize later leaves (k + 2) ≡ take 64 (drop (k * 64) (file_entries entries ++ zeros)) =
    ap (λ (l : List ℕ). take 64 (drop at l)) (shares.anew j inside (in_from j written is)) ∙ (entry_piece bsize k bytes size ∙ ap (λ (l : List ℕ). take 64 (drop (k * 64) l)) files) in
    subst (λ (l : List ℕ). IsReadAs bsize l (get_or entries k d)) (sym same)
    (spelled bsize 2 entries (file_entries entries ++ zeros) (entries_back bsize 2 entries zeros each back) k d less))
    (λ (no : holds written j ≡ false).
    let isnt = λ (h : In j written). clash (sym (in_held j written h) ∙ no) in
    let was = stay k d less isnt in
    let same : entry_at bsize later leaves (k + 2) ≡ entry_at bsize before olds (k + 2) = ap (λ (l : List ℕ). take 64 (drop at l)) (shares.same j inside isnt) in
    subst (λ (l : List ℕ). IsReadAs bsize l (get_or entries k d)) (sym same)
    (subst (IsReadAs bsize (entry_at bsize before olds (k + 2))) (sym was.1) ((entries_by_place bsize before olds old_entries size long old_room).0 had k d was.0)))
    (cases_Bool (holds written j)))

-- ---- the whole

pub share_is_read : ShareIsRead
unfolding directory_bytes_of
share_is_read disk before later olds maps s old_entries entries old_bits stamp directory_written map_written l has enough stay leaves_parts =
    let bsize = disk.bsize in
    let origin = s.label.origin in
    let last = s.label.blocks in
    let few = l.blocks in
    let low = (block_bounds bsize l.size).0 in
    let high = (block_bounds bsize l.size).1 in
    let lab = label_reads bsize disk.count s.label_bytes s.label l.spells in
    let label_low = lab.low in
    let label_high = lab.high in
    let origin_word : origin < 2 ^ 32 = ⊎_elim (λ (e : origin ≡ 4). omega arith) (λ (e : origin ≡ 5). omega arith) lab.origin in
    -- the directory's tree
    let leaves = s.directory.leaves in
    let count = length entries in
    let files_few = l.few in
    let held : 64 * (count + 2) ≤ length leaves * bsize = subst (λ (n : ℕ). 64 * (count + 2) ≤ n * bsize) (sym l.directory_count) (up_spec (64 * (count + 2)) bsize (omega arith)).0 in
    let old_held : 64 * (length old_entries + 2) ≤ length olds * bsize = subst (λ (n : ℕ). 64 * (length old_entries + 2) ≤ n * bsize) (sym has.directory_is) (up_spec (64 * (length old_entries + 2)) bsize (omega arith)).0 in
    let below = up_below (64 * (count + 2)) bsize (omega arith) in
    let leaves_few : length leaves < 2 ^ 32 = (let e = l.directory_count in omega arith) in
    let some : 1 ≤ length leaves = (let e = ap length l.first.1 in omega arith) in
    let words : All Word leaves = subst (All Word) (sym l.first.1) (All-cons Word origin l.first.0 origin_word (lies_words last l.first.0 few l.first.2)) in
    let pointers_words : All Word s.directory.pointers = lies_words last s.directory.pointers few l.directory_within in
    let dt = leaves_parts.directory_tree in
    -- the map's tree
    let part = all_parts last s.map.leaves s.map.pointers l.map_within in
    let bytes_some = up_some last 8 (omega arith) (omega arith) in
    let map_some : 1 ≤ length s.map.leaves = (let e = l.map_count in let more = up_some (up last 8) bsize (omega arith) bytes_some in omega arith) in
    let map_few : length s.map.leaves < 2 ^ 32 = (let e = l.map_count in let a = up_below (up last 8) bsize (omega arith) in let b = up_below last 8 (omega arith) in omega arith) in
    let map_words : All Word s.map.leaves = lies_words last s.map.leaves few part.0 in
    let map_pointers_words : All Word s.map.pointers = lies_words last s.map.pointers few part.1 in
    let mt = leaves_parts.map_tree in
    -- the bytes of both
    let own = system_entry directory_name 64 (directory_file bsize s count) stamp in
    let map' = system_entry map_name bsize (map_file bsize s) stamp in
    let zeros : List ℕ = replicate (length leaves * bsize - 64 * (count + 2)) 0 in
    let tail = file_entries entries ++ zeros in
    let own_long = entry_long 1 (codes "DIRECTOR") 64 (directory_file bsize s count) stamp in
    let map_long = entry_long 2 (codes "ALLOCMAP") bsize (map_file bsize s) stamp in
    let bytes = directory_bytes_of bsize s entries stamp in
    let whole : bytes ≡ own ++ (map' ++ tail) = refl in
    let long : length bytes ≡ length leaves * bsize = directory_long own map' (file_entries entries) count (length leaves * bsize) own_long map_long (length_entries entries l.back) held in
    let at_first : get_or leaves 0 0 ≡ origin = ap (λ (ns : List ℕ). get_or ns 0 0) l.first.1 in
    let none : 0 * bsize ≡ 0 = omega arith in
    let first : later origin ≡ own ++ (map' ++ take (bsize - 128) tail) = ap later (sym at_first) ∙ (leaves_parts.directory.anew 0 (omega arith) enough.first
    ∙ (ap (λ (n : ℕ). take bsize (drop n bytes)) none ∙ first_block bsize own map' tail low own_long map_long)) in
    let second : drop 64 (later origin) ≡ map' ++ take (bsize - 128) tail = ap (drop 64) first ∙ behind_one own (map' ++ take (bsize - 128) tail) own_long in
    -- what they say
    let own_fits : Fits (directory_file bsize s count) = record { root = root_word leaves s.directory.pointers some words pointers_words; blocks = leaves_few; count = omega arith } in
    let map_fits : Fits (map_file bsize s) = record { root = root_word s.map.leaves s.map.pointers map_some map_words map_pointers_words; blocks = map_few; count = map_few } in
    let own_says : Says 64 (directory_file bsize s count) (later origin) = subst (Says 64 (directory_file bsize s count)) (sym first)
    (entry_says 1 (codes "DIRECTOR") 64 (directory_file bsize s count) stamp (map' ++ take (bsize - 128) tail) (omega arith) own_fits) in
    let map_says' : Says bsize (map_file bsize s) (drop 64 (later origin)) = subst (Says bsize (map_file bsize s)) (sym second)
    (entry_says 2 (codes "ALLOCMAP") bsize (map_file bsize s) stamp (take (bsize - 128) tail) (omega arith) map_fits) in
    let turned : (count + 2) * 64 ≡ 64 * (count + 2) = omega arith in
    let own_blocks : length leaves ≡ up ((count + 2) * 64) bsize = l.directory_count ∙ ap (λ (n : ℕ). up n bsize) (sym turned) in
    let map_blocks : length s.map.leaves ≡ up (length s.map.leaves * bsize) bsize = up_unique (length s.map.leaves * bsize) bsize (length s.map.leaves) (omega arith) (omega arith) (omega arith) in
    let own_is = is_directory_from bsize origin (directory_file bsize s count) (later origin) own_says own_blocks dt.shape (omega arith) (omega arith)
    (root_first bsize origin s.directory l.first.0 l.size l.first.1 leaves_few l.directory_nodes) in
    let map_is' = is_map_from bsize last (map_file bsize s) (drop 64 (later origin)) map_says' map_blocks mt.shape l.map_count in
    let less : count + 2 - 2 ≡ count = omega arith in
    let new_long = shared_long bsize before later olds leaves directory_written (λ (j : ℕ). take bsize (drop (j * bsize) bytes)) leaves_parts.directory has.directory_long
    (λ j inside. piece_long bytes (length leaves) bsize j long inside) in
    let read = entries_shared bsize before later olds leaves directory_written old_entries entries bytes zeros l.size has.directory_long new_long old_held held
    (λ k inside. subst (λ (n : ℕ). entry_block bsize (k + 2) < n) (sym l.directory_count) (entry_within bsize count k l.size inside))
    has.entries_are enough.stay leaves_parts.directory (behind_two own map' tail own_long map_long) l.each l.back in
    let spelled' : entries_of bsize 2 (cut (count + 2 - 2) 64 (drop 128 (bytes_at later dt.met.leaves))) ≡ Ok (map as_read entries) = rw (less, dt.leaves_are) read in
    let says = map_is_shared bsize last before later maps s.map.leaves map_written old_bits s.bits (omega arith) l.map_count has.map_count has.map_long has.bits_are l.bits_count l.fixed stay leaves_parts.map in
    record {
      directory = dt.met;
      map = mt.met;
      holds = λ mets contents lost. record {
        blocks = le-leb 6 disk.count (omega arith);
        label = ap (label_of bsize disk.count) leaves_parts.label ∙ l.spells;
        directory = own_is;
        directory_met = dt.is;
        map = map_is';
        entries = spelled';
        map_met = mt.is;
      };
      directory_is = record { leaves = sym dt.leaves_are; blocks = dt.blocks_are };
      map_is = record { leaves = sym mt.leaves_are; blocks = mt.blocks_are };
      says = rw mt.leaves_are says;
    }
