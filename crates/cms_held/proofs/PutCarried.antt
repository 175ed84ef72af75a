-- An update that puts a file is carried out.
use Rattle.std.proofs.Common.{◌≡◌, ℕ, ◌+◌, ◌/◌, ◌≤◌, false, List, length, map, None, refl, sym, ◌∙◌, ap, subst, arith, length-append}
use Rattle.std.specs.Prelude.{nat_lt}
use Rattle.std.proofs.lemmas.Bool.Decides.{nat_tests}
use Rattle.cms_journal.specs.Journal.{Journal}
use Rattle.cms_names.specs.declared.name.Name.{Name}
use Rattle.cms_fields.specs.Entries.{fan_of, pointer_size}
use Rattle.cms_fields.specs.Limits.{most_bytes, most_files, most_records}
use Rattle.cms_fields.specs.Numbers.{up}
use Rattle.cms_fields.specs.declared.time.Stamp.{Stamp}
use Rattle.cms_model.specs.Minidisks.{File, Minidisk}
use Rattle.cms_model.specs.Changes.{Changed, Put, answer_of, changed}
use Rattle.cms_model.specs.Records.{stored}
use Rattle.cms_model.specs.Sizes.{pointer_count, tree_size}
use Rattle.cms_model.specs.Stands.{Layout, file_of}
use Rattle.cms_model.specs.LawsChanges.{NoneNamed}
use Rattle.cms_model.specs.LawsUpdates.{now}
use Rattle.cms_map.specs.Bits.{free_blocks}
use Rattle.cms_tree.specs.declared.types.Mark.{Mark}
use Rattle.cms_held.specs.HeldVolumes.{HeldFile, HeldVolume}
use Rattle.cms_held.specs.LawsHeld.{IsFound}
use Rattle.cms_held.specs.Systems.{Systems}
use Rattle.cms_held.specs.Renewals.{Edit, blocks_in, needed}
use Rattle.cms_held.specs.LawsRenewals.{later_of}
use Rattle.cms_held.specs.MinidiskUpdates.{IsHeldMinidisk, IsReadyFor}
use Rattle.cms_held.specs.Puts.{IsPutAs, IsPutOf, IsPutReady, PutIsCarried, adds, answer_put, count_put, limit_put, made_put, need_put, replaces}
use Rattle.cms_held.proofs.Carried.{carries_of, same_count}
use Rattle.cms_held.proofs.Drafted.{fan_is}
use Rattle.cms_held.proofs.Edits.{Moved}
use Rattle.cms_held.proofs.EditNeeds.{edit_put}
use Rattle.cms_held.proofs.PutAsides.{count_after, found_in, put_is_answered, put_made}
use Rattle.cms_held.proofs.PlannedWrites.{WritesBlocks, planned_writes}
use Rattle.cms_held.proofs.PutMoves.{Puts, add_moves, put_taking, replace_moves}

taken_put : (v : HeldVolume) (g : HeldFile) (edit : Edit) → IsPutOf v g edit → edit.taken ≡ blocks_in g.tree
taken_put v g edit (replaces place f there named) = refl
taken_put v g edit (adds none) = refl

moved_put : (j : Journal) (v : HeldVolume) (old : Layout) (g : HeldFile) (marks : List Mark) (new : File) (edit : Edit) (s : Systems) → IsPutOf v g edit → Puts j v old g marks new edit s
    → Moved (now j v.unit) (now (later_of j v s) v.unit) v edit old (Put new)
moved_put j v old g marks new edit s (replaces place f there named) p = replace_moves j v old g marks new s place f there named p
moved_put j v old g marks new edit s (adds none) p =
    add_moves j v old g marks new s
    (subst (λ (n : Name). NoneNamed n (map file_of old.files)) p.file.name_is
    (subst (IsFound g.entry.name (map file_of old.files)) none (found_in j v old g.entry.name p.at))) p

-- ---- the room

pub no_limit : (files records bytes : ℕ) → files ≤ most_files → records ≤ most_records → bytes ≤ most_bytes → limit_put files records bytes ≡ None
no_limit files records bytes few some small =
    let a : nat_lt most_files files ≡ false = grind (arith, nat_tests) in
    let b : nat_lt most_records records ≡ false = grind (arith, nat_tests) in
    let c : nat_lt most_bytes bytes ≡ false = grind (arith, nat_tests) in
    rw (a, b, c) refl

pub made : (needs free : ℕ) (m : Minidisk) → needs ≤ free → answer_put None needs free m ≡ Changed m
made needs free m room = let a : nat_lt free needs ≡ false = grind (arith, nat_tests) in rw a refl

-- the blocks of its tree
pub tree_count : (bsize : ℕ) (g : HeldFile) (new : File) → IsPutAs bsize g new → length g.tree.pointers ≡ pointer_count (bsize / pointer_size g.entry.format) (length g.tree.leaves)
    → length (blocks_in g.tree) ≡ tree_size (fan_of bsize new.format) (up (length (stored new.format new.records)) bsize)
unfolding tree_size
tree_count bsize g new p numbers =
    let fan : bsize / pointer_size g.entry.format ≡ fan_of bsize new.format = fan_is bsize g.entry.format ∙ ap (fan_of bsize) p.format_is in
    length-append g.tree.leaves g.tree.pointers ∙ ap (λ (n : ℕ). length g.tree.leaves + n) numbers
    ∙ ap (λ (f : ℕ). length g.tree.leaves + pointer_count f (length g.tree.leaves)) fan
    ∙ ap (λ (n : ℕ). n + pointer_count (fan_of bsize new.format) n) p.leaves_are

-- ---- the whole

pub moved_ready : (j : Journal) (v : HeldVolume) (edit : Edit) (stamp : Stamp) (s : Systems) (g : HeldFile) (marks : List Mark) (new : File) (m : Minidisk) → (is_held : IsHeldMinidisk j v m)
    → IsPutReady j v edit stamp s g marks new → Moved (now j v.unit) (now (later_of j v s) v.unit) v edit is_held.layout (Put new)
moved_ready j v edit stamp s g marks new m is_held r = moved_put j v is_held.layout g marks new edit s r.put (record {
  at = is_held.at;
  kept = r.ready.kept;
  few = r.few;
  planned = (stamp, r.ready.planned);
  back = r.ready.back;
  taken_is = taken_put v g edit r.put;
  file = r.file;
  plan = r.plan;
  has = r.has;
})

-- as many files as there are then
pub count_ready : (j : Journal) (v : HeldVolume) (edit : Edit) (stamp : Stamp) (s : Systems) (g : HeldFile) (marks : List Mark) (new : File) (m : Minidisk) → IsHeldMinidisk j v m
    → IsPutReady j v edit stamp s g marks new → count_put v new.name ≡ length edit.files
count_ready j v edit stamp s g marks new m is_held r =
    sym (count_after j v is_held.layout new is_held.at)
    ∙ same_count (now j v.unit) (now (later_of j v s) v.unit) v is_held.layout edit (Put new) (moved_ready j v edit stamp s g marks new m is_held r)

pub put_is_carried : PutIsCarried
put_is_carried j v edit stamp s g marks new m is_held r =
    let e = moved_ready j v edit stamp s g marks new m is_held r in
    let bytes = length (stored new.format new.records) in
    let count = count_ready j v edit stamp s g marks new m is_held r in
    let few = r.few in
    let none : limit_put (count_put v new.name) (length new.records) bytes ≡ None =
    no_limit (count_put v new.name) (length new.records) bytes (omega arith) r.file.few r.file.small in
    let own = tree_count v.disk.bsize g new r.file r.plan.numbers in
    let taken : length edit.taken ≡ length (blocks_in g.tree) = ap (λ (l : List ℕ). length l) (taken_put v g edit r.put) in
    let made' : made_put v new.name ≡ edit.made = sym (edit_put j v is_held.layout g edit new is_held.at r.file.name_is r.put ∙ put_made j v is_held.layout new is_held.at) in
    let more : needed v (count_put v new.name) (made_put v new.name) ≡ needed v (length edit.files) edit.made =
    ap (λ (n : ℕ). needed v n (made_put v new.name)) count ∙ ap (needed v (length edit.files)) made' in
    let room = r.ready.planned.room in
    let enough : need_put v new.name new.format bytes ≤ length (free_blocks v.bits) = omega arith in
    let answer : answer_of m (Put new) ≡ Changed (changed m (Put new)) =
    put_is_answered j v m new is_held r.ready.kept
    ∙ ap (λ o. answer_put o (need_put v new.name new.format bytes) (length (free_blocks v.bits)) (changed m (Put new))) none
    ∙ made (need_put v new.name new.format bytes) (length (free_blocks v.bits)) (changed m (Put new)) enough in
    carries_of j v edit stamp s m (Put new) is_held r.ready e refl answer

-- what it writes
pub put_writes : (j : Journal) (v : HeldVolume) (edit : Edit) (stamp : Stamp) (s : Systems) (g : HeldFile) (m : Minidisk) → IsHeldMinidisk j v m → IsPutOf v g edit
    → IsReadyFor v edit stamp s → length edit.files ≤ most_files → WritesBlocks v edit stamp s
put_writes j v edit stamp s g m is_held put ready few =
    let t = put_taking j v is_held.layout g stamp edit s is_held.at put ready few in
    planned_writes j v edit stamp s is_held.layout t.0 t.1
