use Rattle.std.proofs.Common.{◌≡◌, ◌≤◌, ℕ, [], length, refl, sym, ◌∙◌, ap, subst, arith, ◌<◌, ◌+◌, ◌^◌}
use Rattle.cms_journal.specs.Journal.{IsBlockSize}
use Rattle.cms_fields.specs.Entries.{fan_of}
use Rattle.cms_fields.specs.Limits.{most_files}
use Rattle.cms_model.specs.Sizes.{levels, pointer_count}
use Rattle.cms_held.specs.Kept.{Keeps}
use Rattle.cms_held.specs.Puts.{AreFree, count_put, count_with}
use Rattle.cms_held.specs.HeldVolumes.{HeldTree, Held}
use Rattle.cms_edf.specs.FileDrafts.{IsFilePlanned, entry_for}
use Rattle.cms_edf.specs.NoRoom.{LacksRoom}
use Rattle.cms_edf.proofs.DraftPlanned.{count_files, limits, need_is, planned_parts, put_places, some_stored, place_within}
use Rattle.cms_held.specs.Written.{CanWrite}
use Rattle.cms_held.specs.FileWriters.{IsFresh}
use Rattle.cms_edf.proofs.draft.plan_file.Goals as goal

count_low : (leaves nodes : ℕ) → leaves + nodes < 2 ^ 31 → leaves < 2 ^ 32
count_low leaves nodes small = omega arith

first_within : (leaves nodes taken given : ℕ) → given ≡ taken → taken ≡ leaves + nodes → leaves ≤ given
first_within leaves nodes taken given one two = omega arith

behind_first : (leaves nodes taken given behind : ℕ) → leaves + behind ≡ given → given ≡ taken → taken ≡ leaves + nodes → behind ≡ nodes
behind_first leaves nodes taken given behind all one two = omega arith

pub returns-in-Err-clause-full : goal.returns-in-Err-clause-full
returns-in-Err-clause-full c =
    let v = c.args.held.now.volume in
    let k = c.count_blocks-counts.ensures in
    let r = c.count_blocks-counts.result in
    let size = ap (λ (h : Held). h.volume.disk.bsize) c.held.view_is in
    let x = c.exchange_of-exchange.ensures in
    subst (λ (n : ℕ). LacksRoom v n c.in-Err.why)
    (need_is v c.args.name.now c.args.asked.now.format c.args.asked.now.bytes c.held.inside.bsize r.data r.pointers c.args.place c.exchange_of-exchange.result size k.data k.pointers c.requires.place
    x.files (x.made ∙ c.entries_made_with-made.ensures) x.file)
    c.in-Err.ensures.full

-- the data blocks of the directory
pub allot-requires : goal.allot-requires
allot-requires c =
    let v = c.args.held.now.volume in
    let x = c.exchange_of-exchange.ensures in
    let k = c.count_blocks-counts.ensures in
    let size : IsBlockSize v.disk.bsize = subst (λ (h : Held). IsBlockSize h.volume.disk.bsize) c.held.view_is c.held.invariant.kept.sized in
    let places = put_places v c.args.place c.exchange_of-exchange.result (entry_for v.disk.bsize c.args.name.now c.args.asked.now (record { leaves = []; pointers = [] })) size x.files
    (x.made ∙ c.entries_made_with-made.ensures) in
    let count : c.exchange_of-exchange.result.files ≡ count_put v c.args.name.now = count_files v c.args.name.now c.args.place _ c.requires.place x.files in
    let l = limits (count_put v c.args.name.now) c.args.asked.now.count c.args.asked.now.bytes c.requires.unlimited in
    record { few = subst (λ (n : ℕ). n ≤ most_files) (sym count) l.0; small = omega (arith, x.file, k.small); first = places.0; may = places.1 }

-- it has bytes, and passes no limit
pub new-requires-clause-some : goal.new-requires-clause-some
new-requires-clause-some c = some_stored c.args.asked.now c.requires.asked

pub new-requires-clause-bytes : goal.new-requires-clause-bytes
new-requires-clause-bytes c = (limits (count_put c.args.held.now.volume c.args.name.now) c.args.asked.now.count c.args.asked.now.bytes c.requires.unlimited).2

pub new-requires-clause-records : goal.new-requires-clause-records
new-requires-clause-records c = (limits (count_put c.args.held.now.volume c.args.name.now) c.args.asked.now.count c.args.asked.now.bytes c.requires.unlimited).1

pub returns-clause-planned : goal.returns-clause-planned
returns-clause-planned c =
    let v = c.args.held.now.volume in
    let k = c.count_blocks-counts.ensures in
    let r = c.count_blocks-counts.result in
    let a = c.in-Ok in
    let t = c.in-Ok-tree_in in
    let tree = t.tree in
    let format = c.args.asked.now.format in
    let size = ap (λ (h : Held). h.volume.disk.bsize) c.held.view_is in
    let fresh = c.in-Ok-new.ensures in
    let count = t.ensures.count in
    let x = c.exchange_of-exchange.ensures in
    let nodes : r.pointers ≡ pointer_count (fan_of v.disk.bsize format) (length tree.leaves) =
    k.pointers ∙ ap (λ (b : ℕ). pointer_count (fan_of b format) r.data) size ∙ ap (pointer_count (fan_of v.disk.bsize format)) (sym count) in
    let height : r.levels ≡ levels (fan_of v.disk.bsize format) (length tree.leaves) =
    k.levels ∙ ap (λ (b : ℕ). levels (fan_of b format) r.data) size ∙ ap (levels (fan_of v.disk.bsize format)) (sym count) in
    let planned = planned_parts v c.args.name.now c.args.asked.now c.args.stamp.now c.args.place tree c.exchange_of-exchange.result a.allotment c.entry_for-entry.result c.in-Ok-plan_entry.systems (record {
      kept = subst (λ (h : Held). Keeps h.volume) c.held.view_is c.held.invariant.kept;
      size = rw (← size) k.size;
      stamped = c.requires.stamp;
      can = c.requires.asked;
      at = c.requires.place;
      fixed = a.ensures.fixed;
      unlimited = c.requires.unlimited;
      exchange = record { files = x.files; made = x.made ∙ c.entries_made_with-made.ensures; given = x.given };
      blocks = t.ensures.blocks ∙ c.deref.ensures.value;
      leaves = count ∙ k.data ∙ (rw size refl);
      count = a.ensures.allotted.file ∙ (x.file ∙ omega (arith, nodes, count));
      entry = c.entry_for-entry.ensures v.disk.bsize height;
      allotted = a.ensures.allotted;
      room = a.ensures.room;
      filled = c.in-Ok-plan_entry.ensures;
    }) in
    record {
      entry_is = c.entry_for-entry.ensures v.disk.bsize height ∙ ap (entry_for v.disk.bsize c.args.name.now c.args.asked.now) (sym fresh.tree_is);
      shape_is = fresh.shape_is;
      unit_is = fresh.unit_is ∙ ap (λ (h : Held). h.volume.unit) c.held.view_is;
      bsize_is = fresh.bsize_is ∙ size;
      new = fresh.kept;
      own = subst (AreFree v) (sym fresh.own) (planned 0).free;
      file = λ start. subst (λ (x : HeldTree). IsFilePlanned v c.args.name.now c.args.asked.now c.args.stamp.now x c.in-Ok-plan_entry.systems start) (sym fresh.tree_is) (planned start);
    }

pub count_blocks-counts-requires-clause-some : goal.count_blocks-counts-requires-clause-some
count_blocks-counts-requires-clause-some c = some_stored c.args.asked.now c.requires.asked

pub count_blocks-counts-requires-clause-few : goal.count_blocks-counts-requires-clause-few
count_blocks-counts-requires-clause-few c =
    (limits (count_put c.args.held.now.volume c.args.name.now) c.args.asked.now.count c.args.asked.now.bytes c.requires.unlimited).2

pub entries_made_with-made-requires : goal.entries_made_with-made-requires
entries_made_with-made-requires c = record { place = place_within c.args.name.now c.args.held.now.volume.files c.args.place c.requires.place }

pub exchange_of-exchange-requires : goal.exchange_of-exchange-requires
exchange_of-exchange-requires c = record { place = place_within c.args.name.now c.args.held.now.volume.files c.args.place c.requires.place }

pub tree_in-requires : goal.tree_in-requires
tree_in-requires c =
    let r = c.count_blocks-counts.result in
    first_within r.data r.pointers c.exchange_of-exchange.result.file (length c.deref.result.now)
    (ap length c.deref.ensures.value ∙ c.in-Ok.ensures.allotted.file) c.exchange_of-exchange.ensures.file

pub entry_for-entry-requires-clause-some : goal.entry_for-entry-requires-clause-some
entry_for-entry-requires-clause-some c = subst (λ (n : ℕ). 1 ≤ n) (sym c.in-Ok-tree_in.ensures.count) c.count_blocks-counts.ensures.some

pub entry_for-entry-requires-clause-few : goal.entry_for-entry-requires-clause-few
entry_for-entry-requires-clause-few c =
    let r = c.count_blocks-counts.result in
    subst (λ (n : ℕ). n < 2 ^ 32) (sym c.in-Ok-tree_in.ensures.count) (count_low r.data r.pointers c.count_blocks-counts.ensures.small)

pub plan_entry-requires-clause-stamp : goal.plan_entry-requires-clause-stamp
plan_entry-requires-clause-stamp c = c.requires.stamp

pub plan_entry-requires-clause-place : goal.plan_entry-requires-clause-place
plan_entry-requires-clause-place c = place_within c.args.name.now c.args.held.now.volume.files c.args.place c.requires.place

pub plan_entry-requires-clause-few : goal.plan_entry-requires-clause-few
plan_entry-requires-clause-few c =
    let v = c.args.held.now.volume in
    let count = count_files v c.args.name.now c.args.place (count_with c.args.place (length v.files)) c.requires.place refl in
    subst (λ (n : ℕ). n ≤ most_files) (sym count) (limits (count_put v c.args.name.now) c.args.asked.now.count c.args.asked.now.bytes c.requires.unlimited).0

pub plan_entry-requires-clause-entry : goal.plan_entry-requires-clause-entry
plan_entry-requires-clause-entry c =
    let v = c.args.held.now.volume in
    let k = c.count_blocks-counts.ensures in
    let r = c.count_blocks-counts.result in
    let tree = c.in-Ok-tree_in.tree in
    let format = c.args.asked.now.format in
    let size = ap (λ (h : Held). h.volume.disk.bsize) c.held.view_is in
    let count = c.in-Ok-tree_in.ensures.count in
    let height : r.levels ≡ levels (fan_of v.disk.bsize format) (length tree.leaves) =
    k.levels ∙ ap (λ (b : ℕ). levels (fan_of b format) r.data) size ∙ ap (levels (fan_of v.disk.bsize format)) (sym count) in
    subst CanWrite (sym (c.entry_for-entry.ensures v.disk.bsize height)) (c.requires.asked.number, c.requires.asked.stamp)

pub plan_entry-requires-clause-files : goal.plan_entry-requires-clause-files
plan_entry-requires-clause-files c = c.exchange_of-exchange.ensures.files

pub plan_entry-requires-clause-made : goal.plan_entry-requires-clause-made
plan_entry-requires-clause-made c = c.exchange_of-exchange.ensures.made ∙ c.entries_made_with-made.ensures

pub plan_entry-requires-clause-allotted : goal.plan_entry-requires-clause-allotted
plan_entry-requires-clause-allotted c = c.in-Ok.ensures.allotted

pub plan_entry-requires-clause-map_few : goal.plan_entry-requires-clause-map_few
plan_entry-requires-clause-map_few c = c.in-Ok.ensures.map_few

pub new-requires-clause-leaves : goal.new-requires-clause-leaves
new-requires-clause-leaves c = c.in-Ok-tree_in.ensures.count ∙ c.count_blocks-counts.ensures.data

pub new-requires-clause-pointers : goal.new-requires-clause-pointers
new-requires-clause-pointers c =
    let r = c.count_blocks-counts.result in
    let t = c.in-Ok-tree_in in
    behind_first r.data r.pointers c.exchange_of-exchange.result.file (length c.deref.result.now) (length t.tree.pointers) t.ensures.pointers
    (ap length c.deref.ensures.value ∙ c.in-Ok.ensures.allotted.file) c.exchange_of-exchange.ensures.file
    ∙ (c.count_blocks-counts.ensures.pointers ∙ ap (pointer_count (fan_of c.held.inside.bsize c.args.asked.now.format)) (sym t.ensures.count))

pub returns-clause-fresh : goal.returns-clause-fresh
returns-clause-fresh c =
    let fresh = c.in-Ok-new.ensures in
    let w = c.in-Ok-new.writer in
    subst (λ (h : Held). IsFresh h.volume.unit h.volume.disk.bsize c.args.asked.now w.writer.tree w) c.held.view_is
    (subst (λ (t : HeldTree). IsFresh c.held.inside.unit c.held.inside.bsize c.args.asked.now t w) (sym fresh.tree_is) fresh)

pub returns-in-Err-clause-planned : goal.returns-in-Err-clause-planned
returns-in-Err-clause-planned c = tt

pub returns-in-Err-clause-fresh : goal.returns-in-Err-clause-fresh
returns-in-Err-clause-fresh c = tt

pub returns-in_default-clause-planned : goal.returns-in_default-clause-planned
returns-in_default-clause-planned c = tt

pub returns-in_default-clause-fresh : goal.returns-in_default-clause-fresh
returns-in_default-clause-fresh c = tt

pub returns-in_default-plan_entry-clause-planned : goal.returns-in_default-plan_entry-clause-planned
returns-in_default-plan_entry-clause-planned c = tt

pub returns-in_default-plan_entry-clause-fresh : goal.returns-in_default-plan_entry-clause-fresh
returns-in_default-plan_entry-clause-fresh c = tt

pub returns-in_default-new-clause-planned : goal.returns-in_default-new-clause-planned
returns-in_default-new-clause-planned c = tt

pub returns-in_default-new-clause-fresh : goal.returns-in_default-new-clause-fresh
returns-in_default-new-clause-fresh c = tt

pub returns-clause-full : goal.returns-clause-full
returns-clause-full c = tt
