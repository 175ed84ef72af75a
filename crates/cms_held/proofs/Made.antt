-- An empty volume that was made is read again.
use Rattle.std.proofs.Common.{◌≡◌, ◌≢◌, ◌⊎◌, inl, inr, ⊎_elim, ℕ, ◌+◌, ◌-◌, ◌*◌, ◌/◌, ◌^◌, ◌<◌, ◌≤◌, Bool, true, false, List, [], ◌∷◌, ◌++◌, length, map, take, drop, get_or, replicate, All, Ok, refl, sym, ◌∙◌, ap, subst, arith, append-nil, append_assoc, length-append}
use Rattle.std.specs.Prelude.{◌==◌, if◌then◌else◌}
use Rattle.std.specs.List.{range_with_len}
use Rattle.std.proofs.lemmas.Bool.{cases_Bool, cases_lt, cases_eq, eqb-true}
use Rattle.std.proofs.lemmas.List.{length-map, length-replicate}
use Rattle.std.proofs.lemmas.List.Elements.{All-nil}
use Rattle.cms_journal.specs.Journal.{Journal, start_of}
use Rattle.cms_journal.proofs.Sizes.{block_bounds}
use Rattle.cms_fields.specs.Entries.{passes}
use Rattle.cms_fields.specs.Labels.{label_of, is_origin}
use Rattle.cms_fields.specs.NewLabels.{first_fields, first_label}
use Rattle.cms_fields.specs.Numbers.{up}
use Rattle.cms_fields.specs.declared.entry.Entry.{Entry}
use Rattle.cms_fields.specs.declared.label.Label.{Label}
use Rattle.cms_fields.specs.declared.time.Stamp.{Stamp}
use Rattle.cms_fields.proofs.NewLabel.{FitsWords, first_spelled, length_fields}
use Rattle.cms_model.specs.Lists.{cut, times}
use Rattle.cms_model.specs.Maps.{is_marked}
use Rattle.cms_model.specs.Minidisks.{Minidisk, Volume, Not}
use Rattle.cms_model.specs.Sizes.{map_size, pointer_count}
use Rattle.cms_model.specs.Trees.{Image, Met, bytes_at}
use Rattle.cms_model.specs.Volumes.{minidisk_of, state_of}
use Rattle.cms_model.specs.Stands.{Layout, Stands, file_blocks, layout_blocks, opened}
use Rattle.cms_model.specs.Settled.{Apart, Write, update}
use Rattle.cms_model.specs.LawsSizes.{IsWhole}
use Rattle.cms_journal.specs.declared.event.Event.{Event}
use Rattle.cms_model.specs.LawsUpdates.{AreWithin, HasEither, IsFront, IsWiped, Makes, PutsBlocks, after, now, put_block, put_blocks, to_label, with_label}
use Rattle.cms_model.proofs.Cuts.{length_cut}
use Rattle.cms_model.proofs.OpenedVolumes.{state_opens}
use Rattle.cms_model.proofs.Quotients.{up_below, up_some, up_unique}
use Rattle.cms_model.proofs.Renewed.{minidisk_is}
use Rattle.cms_model.proofs.Repeats.{bit, hit, miss, held_from, times_append}
use Rattle.cms_model.proofs.Stands.{stands_opens}
use Rattle.cms_model.proofs.Wipes.{keeps_wiped, make_is_whole}
use Rattle.cms_model.proofs.WritesPut.{update_is_put}
use Rattle.cms_map.specs.Bits.{bytes_from, HasFixed}
use Rattle.cms_tree.specs.Builds.{node_bytes, nodes_over}
use Rattle.cms_held.specs.EmptyVolumes.{MakePlan, EmptyIsMade, EmptyIsPlaced, IsEmptyVolume, IsReadyUnit, empty_label, first_used, made_minidisk, made_volume, made_writes}
use Rattle.cms_held.specs.HeldTrees.{FileStands}
use Rattle.cms_held.specs.HeldVolumes.{HeldFile, HeldTree}
use Rattle.cms_held.specs.Kept.{IsKept, IsKeptFile}
use Rattle.cms_held.specs.MinidiskUpdates.{IsHeldMinidisk}
use Rattle.cms_held.specs.Systems.{Systems, HasWritten, IsLaidOut, IsTree, ReadsSystems, SaysBits, block_writes, directory_bytes_of, directory_pieces, map_pieces, node_writes, directory_file, file_at, map_file, system_entry, whole_writes}
use Rattle.cms_held.specs.Written.{ReadsBack, directory_name, file_entries, map_name}
use Rattle.cms_held.proofs.NewMap.{bit_free, bit_used, first_fixed, length_first, map_fits, nodes_none, none_lost, row_all, row_has, row_once, row_within}
use Rattle.cms_held.proofs.PiecesWritten.{length_nodes}
use Rattle.cms_held.proofs.SystemsRead.{directory_fills, directory_is, map_is_read, written_is_read}
use Rattle.cms_held.proofs.WholeWrites.{all_is_whole}
use Rattle.cms_held.proofs.WritesLong.{system_blocks}
use Rattle.cms_held.proofs.WritesPut.{apart_of, blocks_written, has_written, put_long, system_times, within_of, written_append, written_same}

-- ---- the plan

-- what is written of it, whole
abbrev pub whole_made : MakePlan → List Write
whole_made m = whole_writes m.disk.bsize m.systems

-- the numbers of an empty volume
pub record Facts (m : MakePlan) : Type 0 where
  pub origin : m.systems.label.origin ≡ 4
  pub blocks : m.systems.label.blocks ≡ m.disk.count
  pub low : 512 ≤ m.disk.bsize
  pub high : m.disk.bsize ≤ 4096
  pub room : first_used m.disk ≤ m.disk.count
  pub leaves : m.systems.directory.leaves ≡ 4 ∷ []
  pub pointers : m.systems.directory.pointers ≡ []

pub facts : {volid : List ℕ} {stamp : Stamp} (m : MakePlan) → IsEmptyVolume m volid stamp → Facts m
facts m e = record {
  origin = ap (λ (l : Label). l.origin) e.label;
  blocks = ap (λ (l : Label). l.blocks) e.label;
  low = (block_bounds m.disk.bsize e.size).0;
  high = (block_bounds m.disk.bsize e.size).1;
  room = map_fits m.disk.bsize m.disk.count (block_bounds m.disk.bsize e.size).0 e.least;
  leaves = ap (λ (t : HeldTree). t.leaves) e.directory;
  pointers = ap (λ (t : HeldTree). t.pointers) e.directory;
}

-- the label's bytes spell it, and fill its block
record LabelFacts (m : MakePlan) : Type 0 where
  spells : label_of m.disk.bsize m.disk.count m.systems.label_bytes ≡ Ok m.systems.label
  long : length m.systems.label_bytes ≡ m.disk.bsize

is_four : is_origin 4 ≡ true
unfolding is_origin
is_four = refl

label_facts : {volid : List ℕ} {stamp : Stamp} (m : MakePlan) → IsEmptyVolume m volid stamp → LabelFacts m
label_facts {volid = volid} {stamp = stamp} m e =
    let f = facts m e in
    let low = f.low in let high = f.high in let room = f.room in let least = e.least in let most = e.most in
    let l = empty_label volid m.disk in
    let rest : List ℕ = replicate (m.disk.bsize - 80) 0 in
    let bytes : m.systems.label_bytes ≡ first_fields l stamp ++ rest = e.label_bytes ∙ ap (λ (x : Label). first_label x stamp) e.label in
    let fits : FitsWords l = record { volid = e.named; bsize = omega arith; origin = omega arith; blocks = omega arith; in_use = omega arith } in
    let a = length_fields l stamp fits in
    let b : length rest ≡ m.disk.bsize - 80 = length-replicate {A = ℕ} (m.disk.bsize - 80) 0 in
    record {
      spells = ap (label_of m.disk.bsize m.disk.count) bytes ∙ (first_spelled l stamp rest m.disk.count fits is_four (omega arith) (omega arith) ∙ ap Ok (sym e.label));
      long = ap (λ (x : List ℕ). length x) bytes ∙ omega (arith, length-append (first_fields l stamp) rest);
    }

pub laid_out : {volid : List ℕ} {stamp : Stamp} (m : MakePlan) → IsEmptyVolume m volid stamp → IsLaidOut m.disk m.systems []
laid_out m e =
    let f = facts m e in
    let l = label_facts m e in
    let low = f.low in let high = f.high in let room = f.room in let most = e.most in let blocks = f.blocks in
    let Lies : ℕ → Type 0 = λ n. (6 ≤ n) × (n ≤ m.systems.label.blocks) in
    let one : 1 ≡ up 128 m.disk.bsize = up_unique 128 m.disk.bsize 1 (omega arith) (omega arith) (omega arith) in
    let count : length m.systems.directory.leaves ≡ 1 = ap (λ (x : List ℕ). length x) f.leaves in
    record {
      size = e.size;
      spells = l.spells;
      label_long = l.long;
      blocks = omega arith;
      few = omega arith;
      each = All-nil (λ (x : Entry). passes m.disk.bsize x ≡ true);
      back = All-nil ReadsBack;
      first = ([], f.leaves ∙ ap (λ (n : ℕ). n ∷ []) (sym f.origin), All-nil Lies);
      directory_count = count ∙ one;
      directory_nodes = ap (λ (x : List ℕ). length x) f.pointers ∙ sym (ap (pointer_count (m.disk.bsize / 4)) count ∙ nodes_none (m.disk.bsize / 4));
      directory_within = subst (All Lies) (sym f.pointers) (All-nil Lies);
      map_count = e.map_count ∙ ap (λ (n : ℕ). up (up n 8) m.disk.bsize) (sym blocks);
      map_nodes = e.map_nodes;
      map_within = subst (All Lies) (sym e.map_from) (row_all Lies 6 (map_size m.disk.bsize m.disk.count) (λ n from to. (from, omega arith)));
      bits_count = ap (λ (x : List Bool). length x) e.bits ∙ (length_first (first_used m.disk) m.disk.count room ∙ sym blocks);
      fixed = subst HasFixed (sym e.bits) (first_fixed (first_used m.disk) m.disk.count (omega arith));
    }

-- ---- the blocks that are written

abbrev pub row : MakePlan → List ℕ
row m = range_with_len 6 (map_size m.disk.bsize m.disk.count)

pub map_times : {volid : List ℕ} {stamp : Stamp} (m : MakePlan) → IsEmptyVolume m volid stamp → (n : ℕ) → times n m.systems.map.leaves + times n m.systems.map.pointers ≡ times n (row m)
map_times m e n = sym (times_append n m.systems.map.leaves m.systems.map.pointers) ∙ ap (times n) e.map_from

directory_times : {volid : List ℕ} {stamp : Stamp} (m : MakePlan) → IsEmptyVolume m volid stamp → (n : ℕ) → times n m.systems.directory.leaves + times n m.systems.directory.pointers ≡ bit (n == 4)
unfolding times
directory_times m e n =
    let f = facts m e in
    let a : times n m.systems.directory.leaves ≡ bit (n == 4) + 0 = ap (times n) f.leaves in
    let b : times n m.systems.directory.pointers ≡ 0 = ap (times n) f.pointers in
    omega arith

write_times : {volid : List ℕ} {stamp : Stamp} (m : MakePlan) → IsEmptyVolume m volid stamp → (n : ℕ) → times n (blocks_written (whole_made m)) ≤ bit (n == 4) + times n (row m)
unfolding times
write_times m e n =
    let f = facts m e in
    let t = system_times m.disk.bsize m.systems n in
    let a : times n (drop 1 m.systems.directory.leaves) ≡ 0 = ap (λ (l : List ℕ). times n (drop 1 l)) f.leaves in
    let b : times n m.systems.directory.pointers ≡ 0 = ap (times n) f.pointers in
    let c : times n (take 1 m.systems.directory.leaves) ≡ bit (n == 4) + 0 = ap (λ (l : List ℕ). times n (take 1 l)) f.leaves in
    let d = map_times m e n in
    omega arith

-- the blocks of writes, where there are as many pieces
blocks_given : (ns : List ℕ) (pieces : List (List ℕ)) → length pieces ≡ length ns → blocks_written (block_writes ns pieces) ≡ ns
unfolding block_writes
blocks_given [] pieces same = refl
blocks_given (n ∷ ns) [] same = absurd (omega arith)
blocks_given (n ∷ ns) (bytes ∷ pieces) same = ap (λ (l : List ℕ). n ∷ l) (blocks_given ns pieces (omega arith))

whole_placed : (m : MakePlan) (volid : List ℕ) (stamp : Stamp) → IsEmptyVolume m volid stamp → blocks_written (whole_made m) ≡ range_with_len 6 (map_size m.disk.bsize m.disk.count) ++ 4 ∷ []
unfolding block_writes cut
whole_placed m volid stamp e =
    let f = facts m e in
    let b = m.disk.bsize in
    let t = m.systems.map in
    let low = f.low in
    let wide : 1 ≤ b / 4 = omega arith in
    let pieces = map_pieces b m.systems in
    let nodes = map (node_bytes b 4) (nodes_over (b / 4) t.leaves [] t.pointers) in
    let w1 = block_writes (drop 1 m.systems.directory.leaves) (drop 1 (directory_pieces b m.systems)) in
    let w2 = node_writes b m.systems.directory in
    let w3 = block_writes t.leaves pieces in
    let w4 = node_writes b t in
    let w5 = block_writes (take 1 m.systems.directory.leaves) (take 1 (directory_pieces b m.systems)) in
    let one : blocks_written w1 ≡ [] = ap (λ (l : List ℕ). blocks_written (block_writes (drop 1 l) (drop 1 (directory_pieces b m.systems)))) f.leaves in
    let none = map (node_bytes b 4) (nodes_over (b / 4) m.systems.directory.leaves [] m.systems.directory.pointers) in
    let two : blocks_written w2 ≡ [] = ap (λ (l : List ℕ). blocks_written (block_writes l none)) f.pointers in
    let three : blocks_written w3 ≡ t.leaves = blocks_given t.leaves pieces (length_cut (length t.leaves) b (bytes_from 0 (length t.leaves * b) m.systems.bits)) in
    let four : blocks_written w4 ≡ t.pointers =
    blocks_given t.pointers nodes (length-map (nodes_over (b / 4) t.leaves [] t.pointers) (node_bytes b 4) ∙ length_nodes (b / 4) t.leaves t.pointers wide e.map_nodes) in
    let five : blocks_written w5 ≡ 4 ∷ [] = first_block m f.leaves in
    written_append w1 (w2 ++ (w3 ++ (w4 ++ w5))) ∙ ap (λ (l : List ℕ). l ++ blocks_written (w2 ++ (w3 ++ (w4 ++ w5)))) one
    ∙ (written_append w2 (w3 ++ (w4 ++ w5)) ∙ ap (λ (l : List ℕ). l ++ blocks_written (w3 ++ (w4 ++ w5))) two
    ∙ (written_append w3 (w4 ++ w5) ∙ ap (λ (l : List ℕ). l ++ blocks_written (w4 ++ w5)) three
    ∙ (ap (λ (l : List ℕ). t.leaves ++ l) (written_append w4 w5 ∙ (ap (λ (l : List ℕ). l ++ blocks_written w5) four ∙ ap (λ (l : List ℕ). t.pointers ++ l) five))
    ∙ (sym (append_assoc t.leaves t.pointers (4 ∷ [])) ∙ ap (λ (l : List ℕ). l ++ 4 ∷ []) e.map_from))))
  where
    first_block : (x : MakePlan) → x.systems.directory.leaves ≡ 4 ∷ []
        → blocks_written (block_writes (take 1 x.systems.directory.leaves) (take 1 (directory_pieces x.disk.bsize x.systems))) ≡ 4 ∷ []
    first_block x is = ap (λ (l : List ℕ). blocks_written (block_writes (take 1 l) (take 1 (cut (length l) x.disk.bsize x.systems.directory_bytes)))) is

-- block 4, or one of the map's
record Place (m : MakePlan) (n : ℕ) : Type 0 where
  once : bit (n == 4) + times n (row m) ≤ 1
  within : 1 ≤ bit (n == 4) + times n (row m) → (4 ≤ n) × (n ≤ m.disk.count)

place : {volid : List ℕ} {stamp : Stamp} (m : MakePlan) → IsEmptyVolume m volid stamp → (n : ℕ) → Place m n
place m e n =
    let f = facts m e in
    let room = f.room in
    let least = e.least in
    let k = map_size m.disk.bsize m.disk.count in
    ⊎_elim
    (λ (at : (n == 4) ≡ true).
    let is = eqb-true n 4 at in
    let one = hit (n == 4) at in
    let none : times n (range_with_len 6 k) ≡ 0 = early n (omega arith) in
    record { once = omega arith; within = λ some. (omega arith, omega arith) })
    (λ (aside : (n == 4) ≡ false).
    let none = miss (n == 4) aside in
    let most = row_once 6 k n in
    record { once = omega arith; within = λ some. (let w = row_within 6 k n (omega arith) in let low = w.0 in let high = w.1 in (omega arith, omega arith)) })
    (cases_Bool (n == 4))
  where
    early : (x : ℕ) → x ≤ 5 → times x (range_with_len 6 (map_size m.disk.bsize m.disk.count)) ≡ 0
    early x five = ⊎_elim
        (λ (none : times x (range_with_len 6 (map_size m.disk.bsize m.disk.count)) < 1). omega arith)
        (λ (some : 1 ≤ times x (range_with_len 6 (map_size m.disk.bsize m.disk.count))). let six = (row_within 6 (map_size m.disk.bsize m.disk.count) x some).0 in absurd (omega arith))
        (cases_lt (times x (range_with_len 6 (map_size m.disk.bsize m.disk.count))) 1)

-- what is known of a block that is written
record WriteFacts (m : MakePlan) : Type 0 where
  once : (n : ℕ) → times n (blocks_written (whole_made m)) ≤ 1
  low : (n : ℕ) → 1 ≤ times n (blocks_written (whole_made m)) → (4 ≤ n) × (n ≤ m.disk.count)

write_facts : {volid : List ℕ} {stamp : Stamp} (m : MakePlan) → IsEmptyVolume m volid stamp → WriteFacts m
write_facts m e = record {
  once = λ n. (let t = write_times m e n in let most = (place m e n).once in omega arith);
  low = λ n some. (let t = write_times m e n in (place m e n).within (omega arith));
}

-- the label's block isn't among them
label_apart : {volid : List ℕ} {stamp : Stamp} (m : MakePlan) → IsEmptyVolume m volid stamp → Apart (whole_made m) (3 ∷ [])
label_apart m e = apart_of (whole_made m) (3 ∷ []) (λ n in'. ⊎_elim (λ (three : n ≡ 3). none_at n three) (λ (no' : ⊥). absurd no') in')
  where
    none_at : (n : ℕ) → n ≡ 3 → times n (blocks_written (whole_made m)) ≡ 0
    none_at n three = ⊎_elim
        (λ (none : times n (blocks_written (whole_made m)) < 1). omega arith)
        (λ (some : 1 ≤ times n (blocks_written (whole_made m))). let low = ((write_facts m e).low n some).0 in absurd (omega arith))
        (cases_lt (times n (blocks_written (whole_made m))) 1)

pub directory_long : {volid : List ℕ} {stamp : Stamp} (m : MakePlan) → IsEmptyVolume m volid stamp → length m.systems.directory_bytes ≡ length m.systems.directory.leaves * m.disk.bsize
directory_long {stamp = stamp} m e =
    let f = facts m e in
    let low = f.low in
    let one : length m.systems.directory.leaves ≡ 1 = ap (λ (x : List ℕ). length x) f.leaves in
    ap (λ (x : List ℕ). length x) e.directory_bytes ∙ directory_fills m.disk.bsize m.systems [] stamp (All-nil ReadsBack) (rw one (omega arith))

-- ---- what is held of it

-- it is held as a volume is
pub made_kept : {volid : List ℕ} {stamp : Stamp} (m : MakePlan) (files : List HeldFile) → IsEmptyVolume m volid stamp → files ≡ []
    → IsKept m.disk.bsize m.disk.count m.systems.label (length m.systems.label_bytes) m.systems.directory m.systems.map m.systems.bits files
made_kept m files e none =
    let f = facts m e in
    let l = laid_out m e in
    let least = e.least in let blocks = f.blocks in let origin = f.origin in
    let count : length files ≡ 0 = ap (λ (x : List HeldFile). length x) none in
    let low = f.low in
    let small : m.systems.label.blocks < 2 ^ 32 = l.blocks in
    let one : length m.systems.directory.leaves ≡ 1 = ap (λ (x : List ℕ). length x) f.leaves in
    let total = m.systems.label.blocks in
    let s1 = up_some total 8 (omega arith) (omega arith) in
    let s2 = up_some (up total 8) m.disk.bsize (omega arith) s1 in
    let b1 = up_below total 8 (omega arith) in
    let b2 = up_below (up total 8) m.disk.bsize (omega arith) in
    let map_is = l.map_count in
    record {
      within = omega arith;
      size = omega arith;
      small = small;
      sized = e.size;
      origin_low = omega arith;
      origin_high = omega arith;
      label_long = l.label_long;
      directory_shape = record { some = omega arith; few = omega arith; nodes = l.directory_nodes };
      directory_is = l.directory_count ∙ ap (λ (n : ℕ). up (64 * (n + 2)) m.disk.bsize) (sym count);
      map_shape = record { some = omega arith; few = omega arith; nodes = l.map_nodes };
      map_is = l.map_count;
      bits_are = l.bits_count;
      few = omega arith;
      each = subst (All (IsKeptFile m.disk.bsize m.systems.label.blocks)) (sym none) (All-nil (IsKeptFile m.disk.bsize m.systems.label.blocks));
    }

-- the block of its directory, as it is put together
pub empty_directory : (bsize : ℕ) (directory map : HeldTree) (stamp : Stamp) (two all : List ℕ) → length directory.leaves ≡ 1
    → two ≡ system_entry directory_name 64 (file_at bsize directory 2) stamp ++ system_entry map_name bsize (file_at bsize map (length map.leaves)) stamp
    → all ≡ two ++ replicate (bsize - length two) 0 → (s : Systems) → s.directory ≡ directory → s.map ≡ map → all ≡ directory_bytes_of bsize s [] stamp
unfolding file_entries
empty_directory bsize directory map stamp two all one is_two is s d t =
    let whole : length s.directory.leaves * bsize ≡ bsize = ap (λ (x : HeldTree). length x.leaves * bsize) d ∙ (ap (λ (n : ℕ). n * bsize) one ∙ omega arith) in
    let own : List ℕ = system_entry directory_name 64 (file_at bsize s.directory 2) stamp ++ system_entry map_name bsize (file_at bsize s.map (length s.map.leaves)) stamp in
    let same : two ≡ own = is_two
    ∙ (ap (λ (x : HeldTree). system_entry directory_name 64 (file_at bsize x 2) stamp ++ system_entry map_name bsize (file_at bsize map (length map.leaves)) stamp) (sym d)
    ∙ ap (λ (x : HeldTree). system_entry directory_name 64 (file_at bsize s.directory 2) stamp ++ system_entry map_name bsize (file_at bsize x (length x.leaves)) stamp) (sym t)) in
    directory_is bsize s [] stamp two all (All-nil ReadsBack) (same ∙ sym (append-nil own)) (is ∙ ap (λ (n : ℕ). two ++ replicate (n - length two) 0) (sym whole))

-- ---- the image after it

abbrev later_of : Journal → MakePlan → Journal
later_of j m = after j (update m.unit (whole_made m) m.systems.label_bytes)

abbrev later_at : Journal → MakePlan → Image
later_at j m = now (later_of j m) m.unit

record Later (j : Journal) (m : MakePlan) : Type 0 where
  label : later_at j m 3 ≡ m.systems.label_bytes
  has : HasWritten (later_at j m) (whole_made m)
  whole : IsWhole m.disk (later_at j m)

later_image : {volid : List ℕ} {stamp : Stamp} (j : Journal) (m : MakePlan) → IsEmptyVolume m volid stamp → IsReadyUnit j m → Later j m
later_image j m e x = record {
  label = put.whole 3 (omega arith);
  has = written_same (put_blocks (now j m.unit) (whole_made m)) (later_at j m) (whole_made m)
      (λ n some. let low = (w.low n some).0 in sym (elsewhere n (omega arith) (λ is. omega (arith, is)))) (has_written (now j m.unit) (whole_made m) w.once);
  whole = record { size = x.whole.size; small = x.whole.small; each = λ n from to. long n from to (cases_eq n 3) };
}
  where
    w : WriteFacts m
    w = write_facts m e

    within : AreWithin (length (start_of j.units m.unit)) (whole_made m)
    within =
        let attached = x.attached in
        within_of (length (start_of j.units m.unit)) (whole_made m) (λ n some. let r = w.low n some in let low = r.0 in let high = r.1 in (omega arith, omega arith))

    put : PutsBlocks j m.unit (whole_made m) m.systems.label_bytes
    put =
        let attached = x.attached in
        let least = e.least in
        update_is_put j m.unit (whole_made m) m.systems.label_bytes within (omega arith)

    aside : (image : Image) (n : ℕ) → n ≢ 3 → put_block image (record { block = 3; bytes = m.systems.label_bytes }) n ≡ image n
    aside image n ne = go (n == 3) refl
      where
        go : (b : Bool) → (n == 3) ≡ b → (if b then m.systems.label_bytes else image n) ≡ image n
        go true is = absurd (ne (eqb-true n 3 is))
        go false is = refl

    elsewhere : (n : ℕ) → 1 ≤ n → n ≢ 3 → later_at j m n ≡ put_blocks (now j m.unit) (whole_made m) n
    elsewhere n some ne = put.whole n some ∙ aside (put_blocks (now j m.unit) (whole_made m)) n ne

    long : (n : ℕ) → 1 ≤ n → n ≤ m.disk.count → (n ≡ 3) ⊎ (n ≢ 3) → length (later_at j m n) ≡ m.disk.bsize
    long n from to (inl is) =
        ap (λ (k : ℕ). length (later_at j m k)) is ∙ (ap (λ (l : List ℕ). length l) (put.whole 3 (omega arith)) ∙ (label_facts m e).long)
    long n from to (inr ne) = ap (λ (l : List ℕ). length l) (elsewhere n from ne)
        ∙ put_long m.disk.bsize (now j m.unit) (whole_made m) n (system_blocks m.disk.bsize m.systems (directory_long m e)) (x.whole.each n from to)

-- ---- the new volume

reads_of : {volid : List ℕ} {stamp : Stamp} (j : Journal) (m : MakePlan) → IsEmptyVolume m volid stamp → IsReadyUnit j m → ReadsSystems m.disk (later_at j m) m.systems []
reads_of {stamp = stamp} j m e x =
    let i = later_image j m e x in
    written_is_read m.disk (later_at j m) m.systems [] stamp (laid_out m e) e.stamped e.directory_bytes i.label i.has

abbrev new_of : MakePlan → Met → Met → Layout
new_of m directory map = record {
  label = m.systems.label;
  directory = directory_file m.disk.bsize m.systems 0;
  directory_met = directory;
  map = map_file m.disk.bsize m.systems;
  map_met = map;
  files = [];
  lost = 0;
}

new_times : {volid : List ℕ} {stamp : Stamp} (m : MakePlan) → IsEmptyVolume m volid stamp → (directory map : Met) → IsTree m.systems.directory directory → IsTree m.systems.map map → (n : ℕ)
    → times n (layout_blocks (new_of m directory map)) ≡ bit (n == 4) + times n (row m)
unfolding file_blocks times
new_times m e directory map d t n =
    let a = d.blocks n in
    let b = t.blocks n in
    let p = directory_times m e n in
    let q = map_times m e n in
    omega (arith, times_append n directory.blocks (map.blocks ++ []), times_append n map.blocks [])

new_stands : {volid : List ℕ} {stamp : Stamp} (j : Journal) (m : MakePlan) → IsEmptyVolume m volid stamp → IsReadyUnit j m → (r : ReadsSystems m.disk (later_at j m) m.systems [])
    → Stands m.disk (later_at j m) (new_of m r.directory r.map)
new_stands j m e x r = record {
  system = r.holds [] [] 0;
  names = tt;
  files = tt;
  apart = λ n. (let t = total n in let most = (place m e n).once in omega arith);
  marked = λ n late there. (let b = blocks in let rm = room in let t = total n in let none = off n late in let w = row_within 6 k n (omega arith) in let low = w.0 in let high = w.1 in
      says.marked n (omega arith) (omega arith) ∙ (ap (λ (b : List Bool). get_or b (n - 1) false) e.bits ∙ bit_used (first_used m.disk) m.disk.count n (omega arith) (omega arith)));
  lost = none_lost (bytes_at (later_at j m) r.map.leaves) (layout_blocks (new_of m r.directory r.map)) 6 (m.systems.label.blocks - 5)
      (λ n late high is. held_from n (layout_blocks (new_of m r.directory r.map)) (let b = blocks in let rm = room in let t = total n in let some = met n late (omega arith) is in omega arith));
}
  where
    k : ℕ
    k = map_size m.disk.bsize m.disk.count

    blocks : m.systems.label.blocks ≡ m.disk.count
    blocks = (facts m e).blocks

    room : first_used m.disk ≤ m.disk.count
    room = (facts m e).room

    says : SaysBits m.systems.label.blocks m.systems.bits (bytes_at (later_at j m) r.map.leaves)
    says = map_is_read m.disk (later_at j m) m.systems [] (laid_out m e) r

    total : (n : ℕ) → times n (layout_blocks (new_of m r.directory r.map)) ≡ bit (n == 4) + times n (row m)
    total = new_times m e r.directory r.map r.directory_is r.map_is

    off : (n : ℕ) → 6 ≤ n → bit (n == 4) ≡ 0
    off n late = ⊎_elim (λ (at : (n == 4) ≡ true). let is = eqb-true n 4 at in absurd (omega arith)) (λ (aside : (n == 4) ≡ false). miss (n == 4) aside) (cases_Bool (n == 4))

    clash : true ≡ false → ⊥
    clash is = cc

    -- each block that is marked is met
    met : (n : ℕ) → 6 ≤ n → n ≤ m.disk.count → is_marked (bytes_at (later_at j m) r.map.leaves) n ≡ true → 1 ≤ times n (row m)
    met n late high is = let b = blocks in let rm = room in ⊎_elim
        (λ (used : n < 6 + map_size m.disk.bsize m.disk.count). row_has 6 (map_size m.disk.bsize m.disk.count) n late used)
        (λ (free : 6 + map_size m.disk.bsize m.disk.count ≤ n). absurd (clash (sym is
        ∙ (says.marked n (omega arith) (omega arith) ∙ (ap (λ (b : List Bool). get_or b (n - 1) false) e.bits ∙ bit_free (first_used m.disk) m.disk.count n (omega arith) high)))))
        (cases_lt n (6 + map_size m.disk.bsize m.disk.count))

-- ---- the whole

-- the making by these writes
record MakesBy (j : Journal) (m : MakePlan) (made : Minidisk) (ws : List Write) : Type 0 where
  either : (p : List Event) → IsFront p (update m.unit ws m.systems.label_bytes) → HasEither m.disk (after j p) m.unit (Not 2) (Volume made)
  before : (p : List Event) → IsFront p (to_label m.unit ws) → IsWiped (after j p) m.unit
  labelled : state_of m.disk (now (after j (with_label m.unit ws m.systems.label_bytes)) m.unit) ≡ Volume made
  done : IsHeldMinidisk (after j (update m.unit ws m.systems.label_bytes)) (made_volume m) made

made_whole : (j : Journal) (m : MakePlan) (volid : List ℕ) (stamp : Stamp) → IsEmptyVolume m volid stamp → IsReadyUnit j m → MakesBy j m (made_minidisk m volid) (whole_made m)
made_whole j m volid stamp e x =
    let r = reads_of j m e x in
    let i = later_image j m e x in
    let new = new_of m r.directory r.map in
    let stands = new_stands j m e x r in
    let makes : Makes m.disk j m.unit (whole_made m) m.systems.label_bytes (opened new) = make_is_whole m.disk j m.unit (whole_made m) m.systems.label_bytes (opened new)
    (record { wiped = x.wiped; apart = label_apart m e; opens = stands_opens m.disk (later_at j m) new stands }) in
    let of_label : Label → Minidisk = λ l. record { volid = l.volid; bsize = m.disk.bsize; total = l.blocks; lost = 0; files = [] } in
    let same : minidisk_of m.disk (opened new) ≡ made_minidisk m volid = minidisk_is m.disk new ∙ ap of_label e.label in
    record {
      either = λ p front. subst (λ (k : Minidisk). HasEither m.disk (after j p) m.unit (Not 2) (Volume k)) same (makes.either p front);
      before = λ p front. keeps_wiped j m.unit (whole_made m) p x.wiped (label_apart m e) front;
      labelled = state_opens m.disk (now (after j (with_label m.unit (whole_made m) m.systems.label_bytes)) m.unit) (opened new) makes.labelled ∙ ap Volume same;
      done = record {
        layout = new;
        at = record {
          whole = i.whole;
          attached = x.attached;
          settled = makes.whole;
          stands = stands;
          held = record {
            unit_is = refl;
            disk_is = refl;
            label_is = refl;
            bytes_are = sym i.label;
            directory_is = r.directory_is;
            map_is = r.map_is;
            bits_are = sym (map_is_read m.disk (later_at j m) m.systems [] (laid_out m e) r).bits_are;
            files_are = tt;
            lost_is = refl;
          };
          trees = record {
            directory = r.directory_stands;
            map = r.map_stands;
            files = All-nil (FileStands m.disk.bsize m.systems.label.blocks (later_at j m));
          };
        };
        minidisk_is = sym same ∙ minidisk_is m.disk new;
      };
    }

pub all_written : {volid : List ℕ} {stamp : Stamp} (m : MakePlan) → IsEmptyVolume m volid stamp → whole_made m ≡ made_writes m
all_written m e =
    let low = (block_bounds m.disk.bsize e.size).0 in
    let l = laid_out m e in
    sym (all_is_whole m.disk.bsize m.systems (omega arith) l.directory_nodes l.map_nodes e.directory_part e.map_part)

pub made_placed : EmptyIsPlaced
made_placed m volid stamp e = subst (λ (ws : List Write). map (λ (w : Write). w.block) ws ≡ range_with_len 6 (map_size m.disk.bsize m.disk.count) ++ 4 ∷ []) (all_written m e) (whole_placed m volid stamp e)

pub made_empty : EmptyIsMade
made_empty j m volid stamp e x =
    let r = subst (MakesBy j m (made_minidisk m volid)) (all_written m e) (made_whole j m volid stamp e x) in
    record { either = r.either; before = r.before; labelled = r.labelled; done = r.done }
