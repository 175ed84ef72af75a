-- A file that is planned for a volume fits in.
use Rattle.std.proofs.Common.{◌≡◌, inl, inr, ⊎_elim, ℕ, zero, suc, get_or, ◌+◌, ◌-◌, ◌*◌, ◌/◌, ◌^◌, ◌<◌, ◌≤◌, Bool, true, false, List, [], ◌∷◌, ◌++◌, length, take, drop, position, slice_get, slice_set, All, Option, None, Some, refl, sym, ◌∙◌, ap, subst, arith, length-append, mul-pos, mul_comm}
use Rattle.std.specs.Prelude.{nat_le, nat_lt, ◌&&◌, ◌==◌, if◌then◌else◌}
use Rattle.std.proofs.lemmas.Bool.{and_from, le-leb, eq-eqb, cases_lt, ltb-false}
use Rattle.std.proofs.lemmas.List.{length-map, length-set, map-append, map-set}
use Rattle.std.proofs.lemmas.List.Quantifiers.{position-Some}
use Rattle.std.proofs.Math.Nat.{le-div_iff_mul-le}
use Rattle.std.proofs.lemmas.List.Elements.{All-push, All-set}
use Rattle.std.proofs.lemmas.Option.{same_Some}
use Rattle.cms_journal.specs.Journal.{IsBlockSize}
use Rattle.cms_names.specs.declared.name.Name.{Name}
use Rattle.cms_names.specs.declared.name.Format.{Format}
use Rattle.cms_names.specs.declared.name.Format.TheVariants.{F, V}
use Rattle.cms_names.specs.Names.{is_between}
use Rattle.cms_fields.specs.Entries.{counts_fit, fan_of, length_fits, levels_fit, passes}
use Rattle.cms_fields.specs.Limits.{longest_record, most_bytes, most_files, most_records}
use Rattle.cms_fields.specs.Numbers.{up}
use Rattle.cms_fields.specs.Stamps.{is_stamp}
use Rattle.cms_fields.specs.declared.entry.Entry.{Entry}
use Rattle.cms_fields.specs.declared.time.Stamp.{Stamp}
use Rattle.cms_model.specs.DirectoryParts.{blocks_made, directory_count}
use Rattle.cms_model.specs.Lists.{In, times}
use Rattle.cms_model.specs.Minidisks.{same_name}
use Rattle.cms_model.specs.SharedTrees.{MayBeWritten}
use Rattle.cms_model.specs.Sizes.{levels, pointer_count, tree_size}
use Rattle.cms_model.proofs.FileSizes.{fan_wide, passes_from}
use Rattle.cms_model.proofs.Quotients.{up_below, up_some, up_spec}
use Rattle.cms_model.proofs.Repeats.{held_from, in_from, times_append}
use Rattle.cms_model.proofs.Shapes.{shape_least}
use Rattle.cms_map.specs.Bits.{HasFixed, free_blocks}
use Rattle.cms_map.proofs.Free.{free_are_unused}
use Rattle.cms_held.proofs.Renewals.{all_of}
use Rattle.cms_held.specs.Allotments.{IsPlanned}
use Rattle.cms_held.specs.EntryPlaces.{IsEnoughFor}
use Rattle.cms_held.specs.Kept.{IsSized, Keeps}
use Rattle.cms_held.specs.HeldVolumes.{HeldFile, HeldTree, HeldVolume, names_in}
use Rattle.cms_held.specs.Systems.{Systems}
use Rattle.cms_held.specs.Renewals.{Edit, blocks_in, entries_held, needed}
use Rattle.cms_held.specs.Puts.{AreFree, IsPutOf, adding, adds, count_put, count_with, limit_put, made_put, made_with, need_put, replaces, replacing}
use Rattle.cms_held.proofs.MapMarks.{take_fewer}
use Rattle.cms_held.specs.declared.shape.DraftShape.{DraftShape}
use Rattle.cms_held.specs.SharedBlocks.{fresh_of}
use Rattle.cms_held.specs.Written.{ReadsBack}
use Rattle.cms_edf.specs.Allotments.{IsAllottedFor, all_fresh, given_back, need_of, own_fresh, numbers_made}
use Rattle.cms_edf.specs.declared.allotment.Allotment.{Allotment}
use Rattle.cms_edf.specs.declared.allotment.Exchange.{Exchange}
use Rattle.cms_edf.specs.ChangePlans.{AreEnoughFor, IsFilled}
use Rattle.cms_edf.specs.FileDrafts.{CanDraft, GivenAt, IsFilePlanned, IsPlaceIn, list_with, entry_for, file_for}
use Rattle.cms_edf.proofs.AllottedParts.{Asks, planned_of}
use Rattle.cms_edf.proofs.EditsEnough.{put_enough}
use Rattle.cms_edf.proofs.Planned.{back_at, entries_count, named_at, set_there}

-- ---- the entries

pub all_with : {A : Type 0} (P : A → Type 0) (xs : List A) (place : Option ℕ) (x : A) → All P xs → P x → All P (list_with xs place x)
all_with P xs None x all own = All-push P xs x all own
all_with P xs (Some place) x all own = All-set P xs place x own all

-- a place that has a name is one of a file
pub place_within : (name : Name) (fs : List HeldFile) (place : Option ℕ) → place ≡ position (same_name name) (names_in fs) → IsPlaceIn fs place
place_within name fs None is = tt
place_within name fs (Some k) is = omega (arith, (position-Some (same_name name) (names_in fs) k name (sym is)).0, length-map fs (λ (g : HeldFile). g.entry.name))

last_there : (fs : List HeldFile) (f : HeldFile) → slice_get (fs ++ f ∷ []) (length fs) ≡ Some f
last_there [] f = refl
last_there (g ∷ fs) f = last_there fs f

-- the file in a place, or behind the others, has an entry that spells itself where all do
pub with_back : (fs : List HeldFile) (place : Option ℕ) (f : HeldFile) → IsPlaceIn fs place → All ReadsBack (entries_held (list_with fs place f)) → ReadsBack f.entry
with_back fs None f at back = back_at (fs ++ f ∷ []) (length fs) f (last_there fs f) back
with_back fs (Some k) f at back = back_at (slice_set fs k f) k f (set_there fs k f at) back

count_entries : (es : List Entry) (place : Option ℕ) (e : Entry) → length (list_with es place e) ≡ count_with place (length es)
count_entries es None e = length-append es (e ∷ [])
count_entries es (Some place) e = length-set es place e

pub count_held : (fs : List HeldFile) (place : Option ℕ) (e : Entry) → length (list_with (entries_held fs) place e) ≡ count_with place (length fs)
count_held fs place e = count_entries (entries_held fs) place e ∙ ap (count_with place) (entries_count fs)

-- ---- an entry passes its tests

pub limits : (files records bytes : ℕ) → limit_put files records bytes ≡ None → (files ≤ most_files) × (records ≤ most_records) × (bytes ≤ most_bytes)
limits files records bytes none = first (nat_lt most_files files) (nat_lt most_records records) (nat_lt most_bytes bytes) refl refl refl none
  where
    first : (a b c : Bool) → nat_lt most_files files ≡ a → nat_lt most_records records ≡ b → nat_lt most_bytes bytes ≡ c
        → (let o : Option ℕ = if a then Some 1 else if b then Some 2 else if c then Some 3 else None in o ≡ None) → (files ≤ most_files) × (records ≤ most_records) × (bytes ≤ most_bytes)
    first true b c is is' is'' e = absurd (cc)
    first false true c is is' is'' e = absurd (cc)
    first false false true is is' is'' e = absurd (cc)
    first false false false is is' is'' e = (ltb-false most_files files is, ltb-false most_records records is', ltb-false most_bytes bytes is'')

between : (low high n : ℕ) → low ≤ n → n ≤ high → is_between low high n ≡ true
between low high n small large = and_from (nat_le low n) (nat_le n high) (le-leb low n small) (le-leb n high large)

pub whole_blocks : (size bytes : ℕ) → IsBlockSize size → bytes ≤ most_bytes → up bytes size * size ≤ most_bytes
whole_blocks size bytes (inl is) low = subst (λ (b : ℕ). up bytes b * b ≤ most_bytes) (sym is) (let s = (up_spec bytes 512 (omega arith)).1 in omega arith)
whole_blocks size bytes (inr (inl is)) low = subst (λ (b : ℕ). up bytes b * b ≤ most_bytes) (sym is) (let s = (up_spec bytes 1024 (omega arith)).1 in omega arith)
whole_blocks size bytes (inr (inr (inl is))) low = subst (λ (b : ℕ). up bytes b * b ≤ most_bytes) (sym is) (let s = (up_spec bytes 2048 (omega arith)).1 in omega arith)
whole_blocks size bytes (inr (inr (inr is))) low = subst (λ (b : ℕ). up bytes b * b ≤ most_bytes) (sym is) (let s = (up_spec bytes 4096 (omega arith)).1 in omega arith)

few_blocks : (size bytes : ℕ) → IsBlockSize size → bytes ≤ most_bytes → up bytes size ≤ most_bytes / size
few_blocks size bytes is low = (le-div_iff_mul-le {k = size} {x = up bytes size} {y = most_bytes} (omega (arith, is))).1 (whole_blocks size bytes is low)

pub some_bytes : (format : Format) (size count bytes : ℕ) → IsSized format size count bytes → 1 ≤ size → 1 ≤ count → 1 ≤ bytes
some_bytes F size count bytes is low some = subst (λ (n : ℕ). 1 ≤ n) (sym is) (mul-pos low some)
some_bytes V size count bytes is low some = omega arith

pub some_stored : (shape : DraftShape) → CanDraft shape → 1 ≤ shape.bytes
some_stored shape can = some_bytes shape.format shape.length shape.count shape.bytes can.sized can.low can.some

lengths : (format : Format) (e : Entry) → e.format ≡ format → 1 ≤ e.length → e.length ≤ longest_record → length_fits e ≡ true
unfolding length_fits
lengths F e is low high = rw is (between 1 longest_record e.length low high)
lengths V e is low high = rw is refl

counts : (bsize : ℕ) (format : Format) (e : Entry) (bytes : ℕ) → IsBlockSize bsize → e.format ≡ format → IsSized format e.length e.count bytes → 1 ≤ e.count → e.count ≤ most_records → 1 ≤ bytes
    → bytes ≤ most_bytes → e.blocks ≡ up bytes bsize → counts_fit bsize e ≡ true
unfolding counts_fit
counts bsize F e bytes size is sized some many low high blocks =
    let product : e.count * e.length ≡ bytes = mul_comm e.count e.length ∙ sym sized in
    rw (is, product) (and_from (is_between 1 most_records e.count) (nat_le bytes most_bytes && (e.blocks == up bytes bsize)) (between 1 most_records e.count some many)
    (and_from (nat_le bytes most_bytes) (e.blocks == up bytes bsize) (le-leb bytes most_bytes high) (eq-eqb e.blocks (up bytes bsize) blocks)))
counts bsize V e bytes size is sized some many low high blocks =
    let least : 1 ≤ e.blocks = subst (λ (n : ℕ). 1 ≤ n) (sym blocks) (up_some bytes bsize (omega (arith, size)) low) in
    let most : e.blocks ≤ most_bytes / bsize = subst (λ (n : ℕ). n ≤ most_bytes / bsize) (sym blocks) (few_blocks bsize bytes size high) in
    rw is (and_from (is_between 1 most_records e.count) (is_between 1 (most_bytes / bsize) e.blocks) (between 1 most_records e.count some many) (between 1 (most_bytes / bsize) e.blocks least most))

shapes : (bsize : ℕ) (e : Entry) → 2 ≤ fan_of bsize e.format → e.blocks < 2 ^ 32 → e.levels ≡ levels (fan_of bsize e.format) e.blocks → levels_fit bsize e ≡ true
unfolding levels_fit
shapes bsize e wide few is = (shape_least (fan_of bsize e.format) e.blocks e.levels wide few).1 is

pub entry_passes : (bsize : ℕ) (name : Name) (shape : DraftShape) (tree : HeldTree) → IsBlockSize bsize → CanDraft shape → shape.count ≤ most_records → shape.bytes ≤ most_bytes
    → length tree.leaves ≡ up shape.bytes bsize → passes bsize (entry_for bsize name shape tree) ≡ true
entry_passes bsize name shape tree size can many high leaves =
    let e = entry_for bsize name shape tree in
    let some = some_stored shape can in
    let low : 1 ≤ bsize = omega (arith, size) in
    let tight = (up_spec shape.bytes bsize low).1 in
    let few : up shape.bytes bsize ≤ shape.bytes = up_below shape.bytes bsize low in
    passes_from bsize e (record {
      number = can.number;
      fits = record {
        long = lengths shape.format e refl can.low can.high;
        counts = counts bsize shape.format e shape.bytes size refl can.sized can.some many some high leaves;
        levels = shapes bsize e (fan_wide bsize shape.format size) (omega arith) refl;
      };
      stamp = can.stamp;
    })

-- ---- the blocks

-- what is taken for a file was free
pub taken_free : (v : HeldVolume) (x : Exchange) (a : Allotment) → IsAllottedFor v x a → AreFree v a.file.items
taken_free v x a al n =
    let behind = drop 1 (fresh_of (v.disk.bsize / 4) a.directory.part.leaves v.directory a.directory.tree) in
    let of_map = fresh_of (v.disk.bsize / 4) a.map_part.leaves v.map a.map_tree in
    let all : times n (all_fresh v a) ≡ times n (take (length (all_fresh v a)) (free_blocks v.bits)) = ap (times n) al.lowest in
    let fewer = take_fewer (length (all_fresh v a)) (free_blocks v.bits) n in
    let both = times_append n (own_fresh v a) of_map in
    let own = times_append n a.file.items behind in
    omega arith

free_late : (v : HeldVolume) → Keeps v → HasFixed v.bits → (n : ℕ) → In n (free_blocks v.bits) → (6 ≤ n) × (n ≤ v.label.blocks)
free_late v kept fixed n is_free =
    let f = (free_are_unused v.bits n).0 is_free in
    let low = f.0 in
    let high = f.1 in
    let count = kept.bits_are in (
      ⊎_elim
          (λ (early : n < 6). absurd (clash (get_or v.bits (n - 1) true) (get_or v.bits (n - 1) false) (same_bit v.bits (n - 1) (omega arith)) f.2 (fixed n f.0 (omega arith) f.1)))
          (λ (late : 6 ≤ n). late)
          (cases_lt n 6),
      omega arith,
    )
  where
    clash : (a b : Bool) → a ≡ b → a ≡ false → b ≡ true → ⊥
    clash a b same is is' = let e : false ≡ true = sym is ∙ same ∙ is' in absurd (cc)

    same_bit : (bits : List Bool) (k : ℕ) → k < length bits → get_or bits k true ≡ get_or bits k false
    same_bit [] k less = absurd (omega arith)
    same_bit (b ∷ bits) zero less = refl
    same_bit (b ∷ bits) (suc k) less = same_bit bits k (omega arith)

pub taken_within : (v : HeldVolume) (x : Exchange) (a : Allotment) → Keeps v → HasFixed v.bits → IsAllottedFor v x a → All (λ n. (6 ≤ n) × (n ≤ v.label.blocks)) a.file.items
taken_within v x a kept fixed al = all_of (λ n. (6 ≤ n) × (n ≤ v.label.blocks)) a.file.items (λ n some.
    let fewer = taken_free v x a al n in
    free_late v kept fixed n (in_from n (free_blocks v.bits) (held_from n (free_blocks v.bits) (omega arith))))

-- ---- what is planned

-- an update that puts a file in a place
pub record Exchanges (v : HeldVolume) (place : Option ℕ) (x : Exchange) : Type 0 where
  pub files : x.files ≡ count_with place (length v.files)
  pub made : numbers_made x ≡ made_with place (length v.files)
  pub given : (given : List ℕ) → GivenAt v.files place given → given_back x ≡ given

pub record Parts (v : HeldVolume) (name : Name) (asked : DraftShape) (stamp : Stamp) (place : Option ℕ) (tree : HeldTree) (x : Exchange) (a : Allotment) (e : Entry) (s : Systems) : Type 0 where
  pub kept : Keeps v
  pub size : IsBlockSize v.disk.bsize
  pub stamped : is_stamp stamp ≡ true
  pub can : CanDraft asked
  pub at : place ≡ position (same_name name) (names_in v.files)
  pub fixed : HasFixed v.bits
  pub unlimited : limit_put (count_put v name) asked.count asked.bytes ≡ None
  pub exchange : Exchanges v place x
  pub blocks : tree.leaves ++ tree.pointers ≡ a.file.items
  pub leaves : length tree.leaves ≡ up asked.bytes v.disk.bsize
  pub count : length a.file.items ≡ length tree.leaves + pointer_count (fan_of v.disk.bsize asked.format) (length tree.leaves)
  pub entry : e ≡ entry_for v.disk.bsize name asked tree
  pub allotted : IsAllottedFor v x a
  pub room : need_of v x ≤ length (free_blocks v.bits)
  pub filled : IsFilled v (list_with (entries_held v.files) place e) a stamp s

-- an edit of the files that puts the new one in the place
record Edits (v : HeldVolume) (g : HeldFile) (place : Option ℕ) : Type 0 where
  edit : Edit
  put : IsPutOf v g edit
  made : edit.made ≡ made_with place (length v.files)
  given : GivenAt v.files place edit.given
  taken : edit.taken ≡ blocks_in g.tree
  files : edit.files ≡ list_with v.files place g
  entries : entries_held edit.files ≡ list_with (entries_held v.files) place g.entry
  count : length edit.files ≡ count_with place (length v.files)

edits : (v : HeldVolume) (g : HeldFile) (place : Option ℕ) → place ≡ position (same_name g.entry.name) (names_in v.files) → Edits v g place
edits v g None at = record {
  edit = adding v.files g;
  put = adds (sym at);
  made = refl;
  given = refl;
  taken = refl;
  files = refl;
  entries = map-append (λ (f : HeldFile). f.entry) v.files (g ∷ []);
  count = length-append v.files (g ∷ []);
}
edits v g (Some k) at =
    let n = named_at v.files g.entry.name k (sym at) in
    record {
      edit = replacing v.files k n.file g;
      put = replaces k n.file n.there n.named;
      made = refl;
      given = λ f there. ap (λ (x : HeldFile). blocks_in x.tree) (same_Some n.file f (sym n.there ∙ there));
      taken = refl;
      files = refl;
      entries = map-set (λ (f : HeldFile). f.entry) v.files k g;
      count = length-set v.files k g;
    }

-- what is written for the entries with this one is enough
pub enough_with : (v : HeldVolume) (place : Option ℕ) (entry : Entry) (x : Exchange) → IsBlockSize v.disk.bsize → numbers_made x ≡ made_with place (length v.files)
    → AreEnoughFor v (list_with (entries_held v.files) place entry) x
enough_with v place entry x size made =
    let entries = list_with (entries_held v.files) place entry in
    subst (λ (l : List ℕ). IsEnoughFor v.disk.bsize (entries_held v.files) entries (blocks_made v.disk.bsize (length entries) l)) (sym made) (put_enough v place entry size)

-- the blocks that are needed
same_need : (v : HeldVolume) (name : Name) (place : Option ℕ) (x : Exchange) → place ≡ position (same_name name) (names_in v.files) → x.files ≡ count_with place (length v.files)
    → numbers_made x ≡ made_with place (length v.files) → needed v x.files (numbers_made x) ≡ needed v (count_put v name) (made_put v name)
same_need v name place x at files made =
    ap (λ (n : ℕ). needed v n (numbers_made x)) files
    ∙ (ap (needed v (count_with place (length v.files))) made ∙ ap (λ (o : Option ℕ). needed v (count_with o (length v.files)) (made_with o (length v.files))) at)

pub planned_parts : (v : HeldVolume) (name : Name) (asked : DraftShape) (stamp : Stamp) (place : Option ℕ) (tree : HeldTree) (x : Exchange) (a : Allotment) (e : Entry) (s : Systems)
    → Parts v name asked stamp place tree x a e s → (start : ℕ) → IsFilePlanned v name asked stamp tree s start
unfolding tree_size
planned_parts v name asked stamp place tree x a e s p start =
    let g = file_for v.disk.bsize name asked tree start in
    let d = edits v g place p.at in
    let entries = list_with (entries_held v.files) place e in
    let l = limits (count_put v name) asked.count asked.bytes p.unlimited in
    let files : count_put v name ≡ count_with place (length v.files) = ap (λ (o : Option ℕ). count_with o (length v.files)) (sym p.at) in
    let few = l.0 in
    let count = d.count in
    let f = p.filled in
    let are : entries_held d.edit.files ≡ entries = d.entries ∙ ap (list_with (entries_held v.files) place) (sym p.entry) in
    let asks : Asks v x a entries d.edit = record {
      entries_are = are;
      files = p.exchange.files ∙ sym (count_held v.files place e);
      made = d.made ∙ sym p.exchange.made;
      given = sym (p.exchange.given d.edit.given d.given);
      taken = d.taken ∙ p.blocks;
    } in
    let planned : IsPlanned v d.edit stamp s = planned_of v x a entries d.edit stamp s p.allotted f asks (enough_with v place e x p.size p.exchange.made) p.room in
    let long = length-append tree.leaves tree.pointers in
    let whole : length (tree.leaves ++ tree.pointers) ≡ length a.file.items = ap (λ (t : List ℕ). length t) p.blocks in
    let own = p.allotted.file in
    let number = p.count in
    let more = same_need v name place x p.at p.exchange.files p.exchange.made in
    let leaves = p.leaves in
    let nodes : pointer_count (fan_of v.disk.bsize asked.format) (length tree.leaves) ≡ pointer_count (fan_of v.disk.bsize asked.format) (up asked.bytes v.disk.bsize) =
    ap (pointer_count (fan_of v.disk.bsize asked.format)) p.leaves in
    let room = p.room in
    record {
      asked = p.can;
      edit = d.edit;
      put = d.put;
      files_are = d.files ∙ ap (λ (o : Option ℕ). list_with v.files o g) p.at;
      few = omega arith;
      ready = record { kept = p.kept; stamped = p.stamped; planned = planned; back = subst (All ReadsBack) (sym are) f.systems.back };
      label_long = f.systems.label_long;
      passes_all = entry_passes v.disk.bsize name asked tree p.size p.can l.1 l.2 p.leaves;
      leaves_are = p.leaves;
      pointers_are = omega arith;
      free = subst (AreFree v) (sym p.blocks) (taken_free v x a p.allotted);
      within = subst (All (λ n. (6 ≤ n) × (n ≤ v.label.blocks))) (sym p.blocks) (taken_within v x a p.kept p.fixed p.allotted);
      unlimited = p.unlimited;
      room = omega arith;
    }

-- ---- for the code

pub need_is : (v : HeldVolume) (name : Name) (format : Format) (bytes bsize count nodes : ℕ) (place : Option ℕ) (x : Exchange) → bsize ≡ v.disk.bsize → count ≡ up bytes bsize
    → nodes ≡ pointer_count (fan_of bsize format) count
    → place ≡ position (same_name name) (names_in v.files) → x.files ≡ count_with place (length v.files) → numbers_made x ≡ made_with place (length v.files) → x.file ≡ count + nodes
    → need_of v x ≡ need_put v name format bytes
unfolding tree_size
need_is v name format bytes bsize count nodes place x size is pointers at files made own =
    let more = same_need v name place x at files made in
    let leaves : count ≡ up bytes v.disk.bsize = is ∙ ap (up bytes) size in
    let above : nodes ≡ pointer_count (fan_of v.disk.bsize format) (up bytes v.disk.bsize) =
    pointers ∙ ap (λ (b : ℕ). pointer_count (fan_of b format) count) size ∙ ap (pointer_count (fan_of v.disk.bsize format)) leaves in
    omega arith

-- the data blocks of the directory that are written for a file in a place may be, and the first is one of them
pub places_with : (v : HeldVolume) (place : Option ℕ) (many : ℕ) (numbers : List ℕ) (e : Entry) → IsBlockSize v.disk.bsize → many ≡ count_with place (length v.files) → numbers ≡ made_with place (length v.files)
    → In 0 (blocks_made v.disk.bsize many numbers)
    × MayBeWritten (directory_count v.disk.bsize (length v.files)) (directory_count v.disk.bsize many) (blocks_made v.disk.bsize many numbers)
places_with v place many numbers e size files made =
    let enough = put_enough v place e size in
    let count : length (list_with (entries_held v.files) place e) ≡ many = count_held v.files place e ∙ sym files in
    let is : blocks_made v.disk.bsize (length (list_with (entries_held v.files) place e)) (made_with place (length v.files)) ≡ blocks_made v.disk.bsize many numbers =
    ap (λ (n : ℕ). blocks_made v.disk.bsize n (made_with place (length v.files))) count ∙ ap (blocks_made v.disk.bsize many) (sym made) in (
      subst (In 0) is enough.first,
      subst (λ (n : ℕ). MayBeWritten n (directory_count v.disk.bsize many) (blocks_made v.disk.bsize many numbers)) (ap (directory_count v.disk.bsize) (entries_count v.files))
          (subst (λ (n : ℕ). MayBeWritten (directory_count v.disk.bsize (length (entries_held v.files))) (directory_count v.disk.bsize n) (blocks_made v.disk.bsize many numbers)) count
          (subst (MayBeWritten (directory_count v.disk.bsize (length (entries_held v.files))) (directory_count v.disk.bsize (length (list_with (entries_held v.files) place e)))) is enough.may)),
    )

pub put_places : (v : HeldVolume) (place : Option ℕ) (x : Exchange) (e : Entry) → IsBlockSize v.disk.bsize → x.files ≡ count_with place (length v.files) → numbers_made x ≡ made_with place (length v.files)
    → In 0 (blocks_made v.disk.bsize x.files (numbers_made x))
    × MayBeWritten (directory_count v.disk.bsize (length v.files)) (directory_count v.disk.bsize x.files) (blocks_made v.disk.bsize x.files (numbers_made x))
put_places v place x e size files made = places_with v place x.files (numbers_made x) e size files made

-- a limit that is passed, or none
pub count_files : (v : HeldVolume) (name : Name) (place : Option ℕ) (files : ℕ) → place ≡ position (same_name name) (names_in v.files) → files ≡ count_with place (length v.files)
    → files ≡ count_put v name
count_files v name place files at is = is ∙ ap (λ (o : Option ℕ). count_with o (length v.files)) at
