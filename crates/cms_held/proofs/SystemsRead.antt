-- The directory, the map and the label that are written are read again.
use Rattle.std.proofs.Common.{◌≡◌, inl, ⊎_elim, ℕ, suc, ◌+◌, ◌-◌, ◌*◌, ◌/◌, ◌^◌, ◌<◌, ◌≤◌, Bool, true, false, List, [], ◌∷◌, ◌++◌, length, map, take, drop, get_or, replicate, All, Option, None, Some, Ok, refl, sym, ◌∙◌, ap, subst, arith, append_assoc, length-append}
use Rattle.std.specs.Prelude.{nat_le, ◌==◌, ◌&&◌, ◌||◌, codes}
use Rattle.std.proofs.lemmas.Bool.{and_from, le-leb, eq-eqb, cases_lt}
use Rattle.std.proofs.lemmas.List.{take_all, length-replicate, drop-drop}
use Rattle.std.proofs.lemmas.List.Elements.{All-head, All-tail, All-nil, All-cons, All-weaker, All-append, All-get_or}
use Rattle.std.proofs.Math.Seq.{take-append_seam, drop-append_seam, take-append-add}
use Rattle.std.proofs.lemmas.List.FromFn.{length-map-range_with_len}
use Rattle.std.proofs.Math.Nat.{pow-zero}
use Rattle.byteorder.specs.Numbers.{big_number-reads_back}
use Rattle.cms_journal.specs.Journal.{IsBlockSize}
use Rattle.cms_journal.proofs.Sizes.{block_bounds}
use Rattle.cms_names.specs.Names.{is_between}
use Rattle.cms_names.specs.declared.name.Format.TheVariants.{F}
use Rattle.cms_text.specs.Bytes.{word, byte}
use Rattle.cms_fields.specs.Numbers.{up, is_shape}
use Rattle.cms_fields.specs.Stamps.{stamp_bytes}
use Rattle.cms_fields.specs.Labels.{label_of}
use Rattle.cms_fields.specs.Entries.{entry_of, entry_bytes, passes}
use Rattle.cms_fields.specs.declared.time.Stamp.{Stamp}
use Rattle.cms_fields.specs.declared.entry.Entry.{Entry}
use Rattle.cms_model.specs.Lists.{cut}
use Rattle.cms_model.specs.Maps.{is_marked}
use Rattle.cms_model.specs.Sizes.{levels, pointers_to, pointer_count}
use Rattle.cms_model.specs.Systems.{SystemFile, system_fields, is_system, is_directory, is_map, directory_of, map_of}
use Rattle.cms_model.specs.Trees.{Image, form_of, bytes_at, is_allowed}
use Rattle.cms_model.specs.Built.{AllAllowed, ReadsAs}
use Rattle.cms_model.specs.Volumes.{as_read, entries_of}
use Rattle.cms_model.proofs.OpenedVolumes.{label_reads}
use Rattle.cms_model.proofs.Shapes.{levels_needs}
use Rattle.cms_model.proofs.Quotients.{up_spec, up_some, up_below, up_unique}
use Rattle.cms_map.specs.Bits.{byte_at, bytes_from, bits_in}
use Rattle.cms_map.proofs.Packed.{marked_bit, reads_back}
use Rattle.cms_tree.specs.Builds.{root_of}
use Rattle.cms_tree.proofs.BuiltTrees.{built_is_tree}
use Rattle.cms_held.specs.HeldVolumes.{HeldTree}
use Rattle.cms_held.specs.Written.{ReadsBack, directory_name, map_name, system_name, file_entries}
use Rattle.cms_held.specs.Systems.{Systems, directory_file, map_file, system_entry, directory_bytes_of, block_writes, directory_pieces, map_pieces, node_writes, HasWritten, WrittenIsRead, MapIsRead}
use Rattle.cms_held.proofs.EntryBytes.{length_entries}
use Rattle.cms_held.specs.SharedTrees.{IsStanding}
use Rattle.cms_held.proofs.PiecesWritten.{has_front, has_behind, pieces_joined, nodes_written}
use Rattle.cms_held.proofs.TreesStay.{built_stands}

-- ---- the entries of files

pub entries_back : (bsize number : ℕ) (es : List Entry) (zeros : List ℕ) → All (λ e. passes bsize e ≡ true) es → All ReadsBack es
    → entries_of bsize number (cut (length es) 64 (file_entries es ++ zeros)) ≡ Ok (map as_read es)
unfolding entries_of cut file_entries
entries_back bsize number [] zeros each back = refl
entries_back bsize number (e ∷ es) zeros each back =
    let b = All-head ReadsBack e es back in
    let p = All-head (λ (f : Entry). passes bsize f ≡ true) e es each in
    let rest = file_entries es ++ zeros in
    let whole : (entry_bytes e ++ file_entries es) ++ zeros ≡ entry_bytes e ++ rest = append_assoc (entry_bytes e) (file_entries es) zeros in
    let front : take 64 (entry_bytes e ++ rest) ≡ entry_bytes e = subst (λ (n : ℕ). take n (entry_bytes e ++ rest) ≡ entry_bytes e) b.0 (take-append_seam (entry_bytes e) rest) in
    let behind : drop 64 (entry_bytes e ++ rest) ≡ rest = subst (λ (n : ℕ). drop n (entry_bytes e ++ rest) ≡ rest) b.0 (drop-append_seam (entry_bytes e) rest) in
    let is : entry_of bsize (entry_bytes e) ≡ Ok e = b.1 bsize p in
    let more = entries_back bsize (number + 1) es zeros (All-tail (λ (f : Entry). passes bsize f ≡ true) e es each) (All-tail ReadsBack e es back) in
    rw (whole, front, behind, is, more) refl

-- ---- the entries of the directory and of the map

-- what bytes say of a system file
pub record Says (size : ℕ) (file : SystemFile) (bytes : List ℕ) : Type 0 where
  form : byte bytes 30 ≡ 0xC6
  size_is : word bytes 32 ≡ size
  root_is : word bytes 40 ≡ file.root
  blocks_is : word bytes 44 ≡ file.blocks
  count_is : word bytes 48 ≡ file.count
  levels_is : byte bytes 52 ≡ file.levels

-- its numbers fit in a word
pub record Fits (file : SystemFile) : Type 0 where
  pub root : file.root < 2 ^ 32
  pub blocks : file.blocks < 2 ^ 32
  pub count : file.count < 2 ^ 32

-- the first eight of these letters
abbrev eight : List ℕ → List ℕ
eight xs = get_or xs 0 0 ∷ get_or xs 1 0 ∷ get_or xs 2 0 ∷ get_or xs 3 0 ∷ get_or xs 4 0 ∷ get_or xs 5 0 ∷ get_or xs 6 0 ∷ get_or xs 7 0 ∷ []

-- the entry of a system file with these letters
abbrev entry_with : ℕ → List ℕ → ℕ → SystemFile → Stamp → List ℕ
entry_with number letters size file stamp = system_entry (system_name number (eight letters)) size file stamp

pub entry_says : (number : ℕ) (letters : List ℕ) (size : ℕ) (file : SystemFile) (stamp : Stamp) (rest : List ℕ) → size < 2 ^ 32 → Fits file
    → Says size file (entry_with number letters size file stamp ++ rest)
unfolding system_entry stamp_bytes word
entry_says number letters size file stamp rest small fits = record {
  form = refl;
  size_is = big_number-reads_back 4 size [] small;
  root_is = big_number-reads_back 4 file.root [] fits.root;
  blocks_is = big_number-reads_back 4 file.blocks [] fits.blocks;
  count_is = big_number-reads_back 4 file.count [] fits.count;
  levels_is = refl;
}

pub entry_long : (number : ℕ) (letters : List ℕ) (size : ℕ) (file : SystemFile) (stamp : Stamp) → length (entry_with number letters size file stamp) ≡ 64
unfolding system_entry stamp_bytes
entry_long number letters size file stamp = refl

fields_are : (size : ℕ) (file : SystemFile) (bytes : List ℕ) → Says size file bytes → system_fields bytes ≡ file
unfolding system_fields
fields_are size file bytes says = rw (says.root_is, says.blocks_is, says.count_is, says.levels_is) refl

is_system_from : (bsize size : ℕ) (file : SystemFile) (bytes : List ℕ) → Says size file bytes → file.blocks ≡ up (file.count * size) bsize → is_shape (bsize / 4) file.blocks file.levels ≡ true
    → is_system bsize size bytes ≡ true
unfolding is_system
is_system_from bsize size file bytes says blocks shape =
    rw (says.form, says.size_is, says.blocks_is, says.count_is, says.levels_is)
    (and_from ((0xC6 == 0xC6) && (size == size) && (file.blocks == up (file.count * size) bsize)) (is_shape (bsize / 4) file.blocks file.levels)
    (and_from ((0xC6 == 0xC6) && (size == size)) (file.blocks == up (file.count * size) bsize) (and_from (0xC6 == 0xC6) (size == size) refl (eq-eqb size size refl))
    (eq-eqb file.blocks (up (file.count * size) bsize) blocks))
    shape)

pub is_directory_from : (bsize origin : ℕ) (file : SystemFile) (bytes : List ℕ) → Says 64 file bytes → file.blocks ≡ up (file.count * 64) bsize → is_shape (bsize / 4) file.blocks file.levels ≡ true
    → 2 ≤ file.count → file.count ≤ 16386 → (nat_le 1 file.levels || (file.root == origin)) ≡ true → directory_of bsize origin bytes ≡ Ok file
unfolding directory_of is_directory
is_directory_from bsize origin file bytes says blocks shape low high rooted =
    let is : (is_system bsize 64 bytes && is_between 2 16386 (word bytes 48) && (nat_le 1 (byte bytes 52) || (word bytes 40 == origin))) ≡ true =
    rw (is_system_from bsize 64 file bytes says blocks shape, says.count_is, says.levels_is, says.root_is, le-leb 2 file.count low, le-leb file.count 16386 high, rooted) refl in
    rw (is, fields_are 64 file bytes says) refl

pub is_map_from : (bsize total : ℕ) (file : SystemFile) (bytes : List ℕ) → Says bsize file bytes → file.blocks ≡ up (file.count * bsize) bsize → is_shape (bsize / 4) file.blocks file.levels ≡ true
    → file.count ≡ up (up total 8) bsize → map_of bsize total bytes ≡ Ok file
unfolding map_of is_map
is_map_from bsize total file bytes says blocks shape count =
    let is : (is_system bsize bsize bytes && (word bytes 48 == up (up total 8) bsize)) ≡ true =
    rw (is_system_from bsize bsize file bytes says blocks shape, says.count_is) (eq-eqb file.count (up (up total 8) bsize) count) in
    rw (is, fields_are bsize file bytes says) refl

-- ---- trees

abbrev pub Word : ℕ → Type 0
Word n = n < 2 ^ 32

-- from block 6 to the last
abbrev pub Lies : ℕ → ℕ → Type 0
Lies last n = (6 ≤ n) × (n ≤ last)

pub lies_words : (last : ℕ) (ns : List ℕ) → last < 2 ^ 32 → All (Lies last) ns → All Word ns
lies_words last ns few lie = All-weaker (Lies last) Word (λ n within. let high = within.1 in omega arith) ns lie

pub lies_allowed : (last : ℕ) (ns : List ℕ) → All (Lies last) ns → AllAllowed last None ns
unfolding is_allowed
lies_allowed last [] lie = tt
lies_allowed last (n ∷ ns) lie =
    let within = All-head (Lies last) n ns lie in
    (and_from (nat_le 6 n) (nat_le n last) (le-leb 6 n within.0) (le-leb n last within.1), lies_allowed last ns (All-tail (Lies last) n ns lie))

pub first_allowed : (last origin : ℕ) (leaves more : List ℕ) → leaves ≡ origin ∷ more → All (Lies last) more → AllAllowed last (Some origin) leaves
unfolding is_allowed
first_allowed last origin leaves more is lie = rw is (eq-eqb origin origin refl, lies_allowed last more lie)

-- a tree that was written is read
tree_read : (bsize last : ℕ) (first : Option ℕ) (holder : ℕ) (t : HeldTree) (image : Image) → IsBlockSize bsize → 1 ≤ length t.leaves → length t.leaves < 2 ^ 32 → last < 2 ^ 32
    → length t.pointers ≡ pointer_count (bsize / 4) (length t.leaves) → All Word t.leaves → AllAllowed last first t.leaves → All (Lies last) t.pointers
    → HasWritten image (node_writes bsize t)
    → ReadsAs (form_of bsize last F) image (levels (bsize / 4) (length t.leaves)) first holder (root_of t.leaves t.pointers) t.leaves t.pointers
tree_read bsize last first holder t image size some few least numbers words allowed lie has =
    let low = (block_bounds bsize size).0 in
    built_is_tree bsize 4 last first holder t.leaves [] t.pointers image
    (record { size = size; pointer = inl refl; some = omega arith; few = few; each = λ (e : 4 ≡ 12). absurd (omega arith); numbers = numbers })
    (omega arith) words allowed (lies_allowed last t.pointers lie) (nodes_written image bsize t (omega arith) numbers has)

-- and stands
tree_stands : (bsize last : ℕ) (t : HeldTree) (image : Image) → IsBlockSize bsize → 1 ≤ length t.leaves → length t.leaves < 2 ^ 32 → last < 2 ^ 32
    → length t.pointers ≡ pointer_count (bsize / 4) (length t.leaves) → All Word t.leaves → All (Lies last) t.pointers → HasWritten image (node_writes bsize t)
    → IsStanding (form_of bsize last F) image t
tree_stands bsize last t image size some few least numbers words lie has =
    let low = (block_bounds bsize size).0 in
    built_stands bsize 4 last t.leaves [] t.pointers image
    (record { size = size; pointer = inl refl; some = omega arith; few = few; each = λ (e : 4 ≡ 12). absurd (omega arith); numbers = numbers })
    (omega arith) words (lies_allowed last t.pointers lie) (nodes_written image bsize t (omega arith) numbers has)

pub root_word : (leaves fresh : List ℕ) → 1 ≤ length leaves → All Word leaves → All Word fresh → root_of leaves fresh < 2 ^ 32
root_word leaves fresh some words words' =
    let long = length-append leaves fresh in
    All-get_or Word (leaves ++ fresh) (length (leaves ++ fresh) - 1) 0 (omega arith) (All-append Word leaves fresh words words')

-- one data block is its own root
pub root_first : (bsize origin : ℕ) (t : HeldTree) (more : List ℕ) → IsBlockSize bsize → t.leaves ≡ origin ∷ more → length t.leaves < 2 ^ 32
    → length t.pointers ≡ pointer_count (bsize / 4) (length t.leaves) → (nat_le 1 (levels (bsize / 4) (length t.leaves)) || (root_of t.leaves t.pointers == origin)) ≡ true
unfolding pointer_count pointers_to
root_first bsize origin t more size is few numbers =
    let fan = bsize / 4 in
    let k = levels fan (length t.leaves) in
    let low = (block_bounds bsize size).0 in
    let needs = levels_needs fan (length t.leaves) (omega arith) few in
    ⊎_elim
    (λ (none : k < 1).
    let zero' : k ≡ 0 = omega arith in
    let one : fan ^ k ≡ 1 = ap (λ (j : ℕ). fan ^ j) zero' ∙ pow-zero fan in
    let fits = needs.fits in
    let long : length t.leaves ≡ suc (length more) = ap length is in
    let alone : more ≡ [] = empty more (omega arith) in
    let pointerless : t.pointers ≡ [] = empty t.pointers (numbers ∙ ap (pointers_to fan (length t.leaves)) zero') in
    let all : t.leaves ++ t.pointers ≡ origin ∷ [] = rw (is, alone, pointerless) refl in
    let root : root_of t.leaves t.pointers ≡ origin = rw all refl in
    rw (zero', root) (eq-eqb origin origin refl))
    (λ (some : 1 ≤ k). rw (le-leb 1 k some) refl)
    (cases_lt k 1)
  where
    empty : (xs : List ℕ) → length xs ≡ 0 → xs ≡ []
    empty [] none = refl
    empty (x ∷ xs) none = absurd (omega arith)

-- ---- the whole

-- a file of the first pieces and of those behind them
pieces_whole : (image : Image) (ns : List ℕ) (pieces : List (List ℕ)) → HasWritten image (block_writes (drop 1 ns) (drop 1 pieces)) → HasWritten image (block_writes (take 1 ns) (take 1 pieces))
    → HasWritten image (block_writes ns pieces)
unfolding block_writes
pieces_whole image [] pieces behind first = tt
pieces_whole image (n ∷ ns) [] behind first = tt
pieces_whole image (n ∷ ns) (p ∷ pieces) behind first = (first.0, behind)

-- the first block has the first two entries
pub first_block : (bsize : ℕ) (own map' tail : List ℕ) → 512 ≤ bsize → length own ≡ 64 → length map' ≡ 64 → take bsize (own ++ (map' ++ tail)) ≡ own ++ (map' ++ take (bsize - 128) tail)
first_block bsize own map' tail low own_long map_long =
    let m = bsize - 128 in
    let e : length own + (length map' + m) ≡ bsize = omega arith in
    subst (λ (n : ℕ). take n (own ++ (map' ++ tail)) ≡ own ++ (map' ++ take m tail)) e
    (take-append-add own (map' ++ tail) (length map' + m) ∙ ap (λ (l : List ℕ). own ++ l) (take-append-add map' tail m))

pub behind_one : (own rest : List ℕ) → length own ≡ 64 → drop 64 (own ++ rest) ≡ rest
behind_one own rest long = subst (λ (n : ℕ). drop n (own ++ rest) ≡ rest) long (drop-append_seam own rest)

pub behind_two : (own map' tail : List ℕ) → length own ≡ 64 → length map' ≡ 64 → drop 128 (own ++ (map' ++ tail)) ≡ tail
behind_two own map' tail own_long map_long =
    sym (drop-drop 64 64 (own ++ (map' ++ tail))) ∙ ap (drop 64) (behind_one own (map' ++ tail) own_long) ∙ behind_one map' tail map_long

-- the bytes of a directory fill its blocks
pub directory_long : (own map' files : List ℕ) (count whole : ℕ) → length own ≡ 64 → length map' ≡ 64 → length files ≡ 64 * count → 64 * (count + 2) ≤ whole
    → length (own ++ (map' ++ (files ++ replicate (whole - 64 * (count + 2)) 0))) ≡ whole
directory_long own map' files count whole own_long map_long files_long room =
    let zeros : List ℕ = replicate (whole - 64 * (count + 2)) 0 in
    let a = length-append own (map' ++ (files ++ zeros)) in
    let b = length-append map' (files ++ zeros) in
    let c = length-append files zeros in
    let d : length zeros ≡ whole - 64 * (count + 2) = length-replicate {A = ℕ} (whole - 64 * (count + 2)) 0 in
    omega arith

first_read : (image : Image) (leaves more : List ℕ) (origin size : ℕ) (bytes : List ℕ) → leaves ≡ origin ∷ more → HasWritten image (block_writes leaves (cut (length leaves) size bytes))
    → image origin ≡ take size bytes
unfolding block_writes cut
first_read image [] more origin size bytes is has = absurd (let e = ap length is in omega arith)
first_read image (n ∷ ns) more origin size bytes is has = ap image (ap (λ (l : List ℕ). get_or l 0 0) (sym is)) ∙ has.0

pub all_parts : (last : ℕ) (xs ys : List ℕ) → All (Lies last) (xs ++ ys) → All (Lies last) xs × All (Lies last) ys
all_parts last [] ys all = (All-nil (Lies last), all)
all_parts last (x ∷ xs) ys all =
    let rest = all_parts last xs ys (All-tail (Lies last) x (xs ++ ys) all) in
    (All-cons (Lies last) x xs (All-head (Lies last) x (xs ++ ys) all) rest.0, rest.1)

length_map_bytes : (count : ℕ) (bits : List Bool) → length (bytes_from 0 count bits) ≡ count
unfolding bytes_from
length_map_bytes count bits = length-map-range_with_len (byte_at bits) 0 count

pub written_is_read : WrittenIsRead
unfolding directory_bytes_of
written_is_read disk image s entries stamp l ok bytes_is label_is has =
    let bsize = disk.bsize in
    let origin = s.label.origin in
    let last = s.label.blocks in
    let few = l.blocks in
    let low = (block_bounds bsize l.size).0 in
    let high = (block_bounds bsize l.size).1 in
    let lab = label_reads bsize disk.count s.label_bytes s.label l.spells in
    let label_low = lab.low in
    let label_high = lab.high in
    let origin_word : origin < 2 ^ 32 = ⊎_elim (λ (e : origin ≡ 4). omega arith) (λ (e : origin ≡ 5). omega arith) lab.origin in
    -- the directory's tree
    let leaves = s.directory.leaves in
    let count = length entries in
    let files_few = l.few in
    let room = (up_spec (64 * (count + 2)) bsize (omega arith)).0 in
    let held : 64 * (count + 2) ≤ length leaves * bsize = subst (λ (n : ℕ). 64 * (count + 2) ≤ n * bsize) (sym l.directory_count) room in
    let below = up_below (64 * (count + 2)) bsize (omega arith) in
    let leaves_few : length leaves < 2 ^ 32 = (let e = l.directory_count in omega arith) in
    let some : 1 ≤ length leaves = (let e = ap length l.first.1 in omega arith) in
    let words : All Word leaves = subst (All Word) (sym l.first.1) (All-cons Word origin l.first.0 origin_word (lies_words last l.first.0 few l.first.2)) in
    let pointers_words : All Word s.directory.pointers = lies_words last s.directory.pointers few l.directory_within in
    let rest_of = has_behind image (block_writes (drop 1 leaves) (drop 1 (directory_pieces bsize s))) _ has in
    let nodes_has = has_front image (node_writes bsize s.directory) _ rest_of in
    let from_map = has_behind image (node_writes bsize s.directory) _ rest_of in
    let dt = tree_read bsize last (Some origin) origin s.directory image l.size some leaves_few few l.directory_nodes words (first_allowed last origin leaves l.first.0 l.first.1 l.first.2)
    l.directory_within nodes_has in
    -- the map's tree
    let part = all_parts last s.map.leaves s.map.pointers l.map_within in
    let bytes_some = up_some last 8 (omega arith) (omega arith) in
    let map_some : 1 ≤ length s.map.leaves = (let e = l.map_count in let more = up_some (up last 8) bsize (omega arith) bytes_some in omega arith) in
    let map_few : length s.map.leaves < 2 ^ 32 = (let e = l.map_count in let a = up_below (up last 8) bsize (omega arith) in let b = up_below last 8 (omega arith) in omega arith) in
    let map_words : All Word s.map.leaves = lies_words last s.map.leaves few part.0 in
    let map_pointers_words : All Word s.map.pointers = lies_words last s.map.pointers few part.1 in
    let map_has = has_front image (block_writes s.map.leaves (map_pieces bsize s)) _ from_map in
    let from_nodes = has_behind image (block_writes s.map.leaves (map_pieces bsize s)) _ from_map in
    let map_nodes_has = has_front image (node_writes bsize s.map) _ from_nodes in
    let first_has = has_behind image (node_writes bsize s.map) _ from_nodes in
    let mt = tree_read bsize last None origin s.map image l.size map_some map_few few l.map_nodes map_words (lies_allowed last s.map.leaves part.0) part.1 map_nodes_has in
    -- the bytes of both
    let own = system_entry directory_name 64 (directory_file bsize s count) stamp in
    let map' = system_entry map_name bsize (map_file bsize s) stamp in
    let tail = file_entries entries ++ replicate (length leaves * bsize - 64 * (count + 2)) 0 in
    let own_long = entry_long 1 (codes "DIRECTOR") 64 (directory_file bsize s count) stamp in
    let map_long = entry_long 2 (codes "ALLOCMAP") bsize (map_file bsize s) stamp in
    let whole : s.directory_bytes ≡ own ++ (map' ++ tail) = bytes_is in
    let long : length s.directory_bytes ≡ length leaves * bsize = ap length whole ∙ directory_long own map' (file_entries entries) count (length leaves * bsize) own_long map_long
    (length_entries entries l.back) held in
    let pieces_has = pieces_whole image leaves (directory_pieces bsize s) (has_front image (block_writes (drop 1 leaves) (drop 1 (directory_pieces bsize s))) _ has) first_has in
    let joined : bytes_at image leaves ≡ own ++ (map' ++ tail) = pieces_joined image leaves bsize s.directory_bytes pieces_has ∙ take_all (length leaves * bsize) s.directory_bytes (omega arith)
    ∙ whole in
    let first : image origin ≡ own ++ (map' ++ take (bsize - 128) tail) = first_read image leaves l.first.0 origin bsize s.directory_bytes l.first.1 pieces_has ∙ ap (take bsize) whole
    ∙ first_block bsize own map' tail low own_long map_long in
    let second : drop 64 (image origin) ≡ map' ++ take (bsize - 128) tail = ap (drop 64) first ∙ behind_one own (map' ++ take (bsize - 128) tail) own_long in
    -- what they say
    let own_fits : Fits (directory_file bsize s count) = record { root = root_word leaves s.directory.pointers some words pointers_words; blocks = leaves_few; count = omega arith } in
    let map_fits : Fits (map_file bsize s) = record { root = root_word s.map.leaves s.map.pointers map_some map_words map_pointers_words; blocks = map_few; count = map_few } in
    let own_says : Says 64 (directory_file bsize s count) (image origin) = subst (Says 64 (directory_file bsize s count)) (sym first)
    (entry_says 1 (codes "DIRECTOR") 64 (directory_file bsize s count) stamp (map' ++ take (bsize - 128) tail) (omega arith) own_fits) in
    let map_says' : Says bsize (map_file bsize s) (drop 64 (image origin)) = subst (Says bsize (map_file bsize s)) (sym second)
    (entry_says 2 (codes "ALLOCMAP") bsize (map_file bsize s) stamp (take (bsize - 128) tail) (omega arith) map_fits) in
    let turned : (count + 2) * 64 ≡ 64 * (count + 2) = omega arith in
    let own_blocks : length leaves ≡ up ((count + 2) * 64) bsize = l.directory_count ∙ ap (λ (n : ℕ). up n bsize) (sym turned) in
    let map_blocks : length s.map.leaves ≡ up (length s.map.leaves * bsize) bsize = up_unique (length s.map.leaves * bsize) bsize (length s.map.leaves) (omega arith) (omega arith) (omega arith) in
    let own_is = is_directory_from bsize origin (directory_file bsize s count) (image origin) own_says own_blocks dt.shape (omega arith) (omega arith)
    (root_first bsize origin s.directory l.first.0 l.size l.first.1 leaves_few l.directory_nodes) in
    let map_is' = is_map_from bsize last (map_file bsize s) (drop 64 (image origin)) map_says' map_blocks mt.shape l.map_count in
    let less : count + 2 - 2 ≡ count = omega arith in
    let spelled : entries_of bsize 2 (cut (count + 2 - 2) 64 (drop 128 (bytes_at image dt.met.leaves))) ≡ Ok (map as_read entries) =
    rw (less, dt.leaves_are, joined, behind_two own map' tail own_long map_long) (entries_back bsize 2 entries (replicate (length leaves * bsize - 64 * (count + 2)) 0) l.each l.back) in
    let map_joined : bytes_at image s.map.leaves ≡ bytes_from 0 (length s.map.leaves * bsize) s.bits =
    pieces_joined image s.map.leaves bsize (bytes_from 0 (length s.map.leaves * bsize) s.bits) map_has ∙ take_all (length s.map.leaves * bsize) (bytes_from 0 (length s.map.leaves * bsize) s.bits)
    (let e = length_map_bytes (length s.map.leaves * bsize) s.bits in omega arith) in
    record {
      directory = dt.met;
      map = mt.met;
      holds = λ mets contents lost. record {
        blocks = le-leb 6 disk.count (omega arith);
        label = ap (label_of bsize disk.count) label_is ∙ l.spells;
        directory = own_is;
        directory_met = dt.is;
        map = map_is';
        entries = spelled;
        map_met = mt.is;
      };
      directory_is = record { leaves = sym dt.leaves_are; blocks = dt.blocks_are };
      map_is = record { leaves = sym mt.leaves_are; blocks = mt.blocks_are };
      directory_stands = tree_stands bsize last s.directory image l.size some leaves_few few l.directory_nodes words l.directory_within nodes_has;
      map_stands = tree_stands bsize last s.map image l.size map_some map_few few l.map_nodes map_words part.1 map_nodes_has;
      map_bytes = ap (bytes_at image) mt.leaves_are ∙ map_joined;
    }

-- its bytes fill its blocks
pub directory_fills : (bsize : ℕ) (s : Systems) (entries : List Entry) (stamp : Stamp) → All ReadsBack entries → 64 * (length entries + 2) ≤ length s.directory.leaves * bsize
    → length (directory_bytes_of bsize s entries stamp) ≡ length s.directory.leaves * bsize
unfolding directory_bytes_of
directory_fills bsize s entries stamp back room =
    directory_long (system_entry directory_name 64 (directory_file bsize s (length entries)) stamp) (system_entry map_name bsize (map_file bsize s) stamp) (file_entries entries)
    (length entries) (length s.directory.leaves * bsize)
    (entry_long 1 (codes "DIRECTOR") 64 (directory_file bsize s (length entries)) stamp) (entry_long 2 (codes "ALLOCMAP") bsize (map_file bsize s) stamp)
    (length_entries entries back) room

-- a directory whose parts were joined
pub directory_is : (bsize : ℕ) (s : Systems) (entries : List Entry) (stamp : Stamp) (files all : List ℕ) → All ReadsBack entries
    → files ≡ (system_entry directory_name 64 (directory_file bsize s (length entries)) stamp ++ system_entry map_name bsize (map_file bsize s) stamp) ++ file_entries entries
    → all ≡ files ++ replicate (length s.directory.leaves * bsize - length files) 0 → all ≡ directory_bytes_of bsize s entries stamp
unfolding directory_bytes_of
directory_is bsize s entries stamp files all back is_files is =
    let own : List ℕ = system_entry directory_name 64 (directory_file bsize s (length entries)) stamp in
    let map' : List ℕ = system_entry map_name bsize (map_file bsize s) stamp in
    let own_long : length own ≡ 64 = entry_long 1 (codes "DIRECTOR") 64 (directory_file bsize s (length entries)) stamp in
    let map_long : length map' ≡ 64 = entry_long 2 (codes "ALLOCMAP") bsize (map_file bsize s) stamp in
    let a = length-append (own ++ map') (file_entries entries) in
    let b = length-append own map' in
    let c = length_entries entries back in
    let count : length files ≡ 64 * (length entries + 2) = ap length is_files ∙ (omega arith) in
    is ∙ rw (count, is_files) (regroup own map' (file_entries entries) (replicate (length s.directory.leaves * bsize - 64 * (length entries + 2)) 0))
  where
    regroup : (a b c d : List ℕ) → ((a ++ b) ++ c) ++ d ≡ a ++ (b ++ (c ++ d))
    regroup a b c d = simp append_assoc

pub map_is_read : MapIsRead
map_is_read disk image s entries l reads =
    let count = length s.map.leaves * disk.bsize in
    let low = (block_bounds disk.bsize l.size).0 in
    let first = (up_spec s.label.blocks 8 (omega arith)).0 in
    let second = (up_spec (up s.label.blocks 8) disk.bsize (omega arith)).0 in
    let room : up s.label.blocks 8 ≤ count = subst (λ (n : ℕ). up s.label.blocks 8 ≤ n * disk.bsize) (sym l.map_count) second in
    let total = l.bits_count in
    let enough : length s.bits ≤ 8 * count = omega arith in
    record {
      bits_are = ap (λ (n : ℕ). bits_in n (bytes_at image reads.map.leaves)) (sym total) ∙ ap (bits_in (length s.bits)) reads.map_bytes ∙ reads_back s.bits count enough l.fixed;
      marked = λ n some within. ap (λ (b : List ℕ). is_marked b n) reads.map_bytes ∙ marked_at s.bits count n some (omega arith);
    }
  where
    marked_at : (bits : List Bool) (count n : ℕ) → 1 ≤ n → n ≤ 8 * count → is_marked (bytes_from 0 count bits) n ≡ get_or bits (n - 1) false
    marked_at bits count n some within =
        let e : n - 1 + 1 ≡ n = omega arith in
        subst (λ (m : ℕ). is_marked (bytes_from 0 count bits) m ≡ get_or bits (n - 1) false) e (marked_bit bits count (n - 1) (omega arith))
