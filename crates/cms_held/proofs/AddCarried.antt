-- An update that adds records to a file is carried out, and how much is written for it.
use Rattle.std.proofs.Common.{◌≡◌, inl, inr, ⊎_elim, ℕ, suc, ◌+◌, ◌-◌, ◌*◌, ◌/◌, ◌<◌, ◌≤◌, List, [], ◌∷◌, ◌++◌, length, drop, get_or, map, None, Some, refl, sym, ◌∙◌, ap, subst, arith, length-append}
use Rattle.std.specs.Prelude.{slice_get, slice_set}
use Rattle.std.proofs.lemmas.Bool.{cases_lt}
use Rattle.std.proofs.lemmas.List.{length-set, length-take-le}
use Rattle.std.proofs.lemmas.List.Elements.{All-get_or}
use Rattle.std.proofs.lemmas.Option.{get_or_from_slice_get, slice_get_within}
use Rattle.cms_journal.specs.Journal.{IsBlockSize, Journal}
use Rattle.cms_journal.proofs.Sizes.{block_bounds}
use Rattle.cms_names.specs.declared.name.Format.{Format}
use Rattle.cms_fields.specs.Entries.{fan_of, pointer_size}
use Rattle.cms_fields.specs.Limits.{most_bytes, most_records}
use Rattle.cms_fields.specs.Numbers.{up}
use Rattle.cms_fields.specs.declared.label.Label.{Label}
use Rattle.cms_fields.specs.declared.time.Stamp.{Stamp}
use Rattle.cms_model.specs.Changes.{Add, Changed, answer_of, changed, need}
use Rattle.cms_model.specs.Growth.{growth_taken}
use Rattle.cms_model.specs.Lists.{In, times}
use Rattle.cms_model.specs.LawsUpdates.{now}
use Rattle.cms_model.specs.Minidisks.{Minidisk}
use Rattle.cms_model.specs.Settled.{Write}
use Rattle.cms_model.specs.SharedTrees.{MayBeWritten, fresh_count}
use Rattle.cms_model.specs.Sizes.{levels, map_size}
use Rattle.cms_model.specs.Stands.{Kept, Layout, file_blocks, file_of, layout_blocks, minidisk_in}
use Rattle.cms_model.specs.Records.{records_of, stored}
use Rattle.cms_model.specs.Trees.{Image, bytes_at}
use Rattle.cms_model.proofs.Growth.{grown_may}
use Rattle.cms_model.proofs.Members.{In-left, In-right}
use Rattle.cms_model.proofs.Quotients.{up_unique}
use Rattle.cms_model.proofs.Repeats.{held, held_from, in_from, in_held}
use Rattle.cms_model.proofs.VolumeFrame.{bytes_keep}
use Rattle.cms_map.specs.Bits.{free_blocks}
use Rattle.cms_tree.specs.declared.types.Mark.{Mark}
use Rattle.cms_tree.specs.Climbs.{AreOwn, numbers_behind}
use Rattle.cms_tree.proofs.BuiltTrees.{fan_wide}
use Rattle.cms_tree.proofs.ClimbBlocks.{some_fan}
use Rattle.cms_tree.proofs.Own.{in_at, in_drop_at}
use Rattle.cms_held.specs.Additions.{AddIsCarried, AddIsSmall, IsAddReady, need_add}
use Rattle.cms_held.specs.Drafts.{Front, draft_writes, own_blocks, stored_on}
use Rattle.cms_held.specs.Growths.{GrowsHeld, growing, places_behind}
use Rattle.cms_held.specs.HeldVolumes.{HeldFile, HeldVolume}
use Rattle.cms_held.specs.Kept.{IsKeptFile, Keeps}
use Rattle.cms_held.specs.LawsRenewals.{later_of, writes_of}
use Rattle.cms_held.specs.MinidiskUpdates.{IsHeldMinidisk}
use Rattle.cms_held.specs.Puts.{answer_put, limit_put}
use Rattle.cms_held.specs.Renewals.{Edit, blocks_in, made_at, needed}
use Rattle.cms_held.specs.Systems.{HasWritten, Systems}
use Rattle.cms_held.proofs.AddAnswered.{FileAt, add_is_answered, add_made, file_at, more_size, need_parts}
use Rattle.cms_held.proofs.Carried.{carries_of, renewal_of, update_counted}
use Rattle.cms_held.proofs.DraftCount.{draft_count}
use Rattle.cms_held.proofs.Drafted.{fan_is}
use Rattle.cms_held.proofs.DraftOwn.{part_own}
use Rattle.cms_held.proofs.DraftBlocks.{none_written}
use Rattle.cms_held.proofs.Edits.{AtPlace, Moved, at_place, tree_times}
use Rattle.cms_held.proofs.GrownBlocks.{own_is_fresh}
use Rattle.cms_held.proofs.GrownEdits.{grow_moves}
use Rattle.cms_held.proofs.EditNeeds.{writes_need}
use Rattle.cms_held.proofs.PutCarried.{made, no_limit}
use Rattle.cms_held.proofs.PutMoves.{at_times}
use Rattle.cms_held.proofs.SharedBlocks.{fresh_is_counted}
use Rattle.cms_held.proofs.PlannedWrites.{IsTaking, WritesBlocks, old_stay, planned_writes, taken_stay}

-- what holds at each place holds of each
each_of : (P : ℕ → Type 0) (xs : List ℕ) → ((i : ℕ) → i < length xs → P (get_or xs i 0)) → (n : ℕ) → In n xs → P n
each_of P [] each n there = absurd there
each_of P (x ∷ xs) each n (inl is) = subst P (sym is) (each 0 (omega arith))
each_of P (x ∷ xs) each n (inr more) = each_of P xs (λ i less. each (suc i) (omega arith)) n more

-- what was written stays where its blocks do
has_stays : (size : ℕ) (blocks : List ℕ) (earlier later : Image) (ws : List Write) → AreOwn size blocks ws → ((n : ℕ) → In n blocks → later n ≡ earlier n) → HasWritten earlier ws → HasWritten later ws
has_stays size blocks earlier later [] own same has = tt
has_stays size blocks earlier later (w ∷ ws) own same has = (same w.block own.0 ∙ has.0, has_stays size blocks earlier later ws own.2 same has.1)

-- ---- the edit

add_here : (j : Journal) (v : HeldVolume) (stamp : Stamp) (s : Systems) (place : ℕ) (f g : HeldFile) (marks : List Mark) (front : Front) (mark : Mark) (more : List (List ℕ)) (added : Stamp) (m : Minidisk)
    → (is_held : IsHeldMinidisk j v m) → IsAddReady j v stamp s place f g marks front mark more added
    → Moved (now j v.unit) (now j v.unit) v (growing v.disk.bsize v.files place f g) is_held.layout (Add f.entry.name more added)
add_here j v stamp s place f g marks front mark more added m is_held r = grow_moves j v is_held.layout (now j v.unit) place f g marks front mark more added is_held.at r.ready.kept r.there r.grows

-- what is known of its update before the grown file stands behind it
add_taking : (j : Journal) (v : HeldVolume) (stamp : Stamp) (s : Systems) (place : ℕ) (f g : HeldFile) (marks : List Mark) (front : Front) (mark : Mark) (more : List (List ℕ)) (added : Stamp) (m : Minidisk)
    → (is_held : IsHeldMinidisk j v m) → (r : IsAddReady j v stamp s place f g marks front mark more added)
    → IsTaking j v (growing v.disk.bsize v.files place f g) stamp s is_held.layout (add_here j v stamp s place f g marks front mark more added m is_held r).files
add_taking j v stamp s place f g marks front mark more added m is_held r =
    let leaves = (add_here j v stamp s place f g marks front mark more added m is_held r).leaves r.ready.back in
    let count = length-set v.files place g in
    let few = r.ready.kept.few in
    record {
      at = is_held.at;
      planned = r.ready.planned;
      few = omega arith;
      back = r.ready.back;
      balance = leaves.balance;
      had = leaves.had;
    }

-- each of its writes is of a whole block, which lies from block 6 on but for that in which the directory begins
pub add_writes : (j : Journal) (v : HeldVolume) (stamp : Stamp) (s : Systems) (place : ℕ) (f g : HeldFile) (marks : List Mark) (front : Front) (mark : Mark) (more : List (List ℕ)) (added : Stamp) (m : Minidisk)
    → IsHeldMinidisk j v m → IsAddReady j v stamp s place f g marks front mark more added → WritesBlocks v (growing v.disk.bsize v.files place f g) stamp s
add_writes j v stamp s place f g marks front mark more added m is_held r =
    planned_writes j v (growing v.disk.bsize v.files place f g) stamp s is_held.layout (add_here j v stamp s place f g marks front mark more added m is_held r).files
    (add_taking j v stamp s place f g marks front mark more added m is_held r)

add_moved : (j : Journal) (v : HeldVolume) (stamp : Stamp) (s : Systems) (place : ℕ) (f g : HeldFile) (marks : List Mark) (front : Front) (mark : Mark) (more : List (List ℕ)) (added : Stamp) (m : Minidisk)
    → (is_held : IsHeldMinidisk j v m) → IsAddReady j v stamp s place f g marks front mark more added
    → Moved (now j v.unit) (now (later_of j v s) v.unit) v (growing v.disk.bsize v.files place f g) is_held.layout (Add f.entry.name more added)
add_moved j v stamp s place f g marks front mark more added m is_held r =
    grow_moves j v old later place f g marks front mark more added is_held.at r.ready.kept r.there (record {
      file = q.file;
      plan = q.plan;
      old_shape = q.old_shape;
      keeps = q.keeps;
      stands = q.stands;
      same = λ n there. old_stay j v edit stamp s old here.files taking' n (in_old n there);
      es_is = q.es_is;
      fits = q.fits;
      has = has_stays bsize (own_blocks fan g.tree.leaves g.tree.pointers (f.size / bsize)) before later drawn
          (part_own bsize psize g.tree.leaves marks g.tree.pointers (f.size / bsize) front.nodes (stored_on g.entry.format front more) 0 (length g.tree.leaves) drawn q.plan q.fits (omega arith) from_none)
          own_stay q.has;
      size_room = q.size_room;
      front_is = q.front_is;
      leaves_are = q.leaves_are;
      free = q.free;
      start_is = λ records is. q.start_is records
          (ap (records_of bsize g.entry.format g.entry.length g.entry.count) (bytes_keep before later g.tree.leaves leaves_stay) ∙ is);
    })
  where
    old : Layout
    old = is_held.layout

    before : Image
    before = now j v.unit

    later : Image
    later = now (later_of j v s) v.unit

    edit : Edit
    edit = growing v.disk.bsize v.files place f g

    bsize : ℕ
    bsize = v.disk.bsize

    psize : ℕ
    psize = pointer_size g.entry.format

    fan : ℕ
    fan = bsize / psize

    q : GrowsHeld v before before f g marks front mark more added
    q = r.grows

    drawn : List Write
    drawn = draft_writes bsize psize g.tree.leaves marks g.tree.pointers (f.size / bsize) front.nodes (stored_on g.entry.format front more) (length g.tree.leaves)

    from_none : draft_writes bsize psize g.tree.leaves marks g.tree.pointers (f.size / bsize) front.nodes (stored_on g.entry.format front more) 0 ++ drawn ≡ drawn
    from_none = ap (λ (ws : List Write). ws ++ drawn)
        (none_written bsize psize g.tree.leaves marks g.tree.pointers (f.size / bsize) front.nodes (stored_on g.entry.format front more) 0 (omega arith))

    here : Moved before before v edit old (Add f.entry.name more added)
    here = add_here j v stamp s place f g marks front mark more added m is_held r

    taking' : IsTaking j v edit stamp s old here.files
    taking' = add_taking j v stamp s place f g marks front mark more added m is_held r

    own_stay : (n : ℕ) → In n (own_blocks fan g.tree.leaves g.tree.pointers (f.size / bsize)) → later n ≡ before n
    own_stay n there =
        let wide = fan_wide bsize psize q.plan.size q.plan.pointer in
        let taken : In n edit.taken = subst (λ (l : List ℕ). In n l) (own_is_fresh fan (f.size / bsize) f.tree g.tree wide q.old_shape q.plan.numbers q.keeps) there in
        (taken_stay j v edit stamp s old here.files taking' n (held n edit.taken (in_held n edit.taken taken))).same

    at : AtPlace old.files place f
    at = at_place old.files v.files is_held.at.held.files_are place f r.there

    in_old : (n : ℕ) → In n (blocks_in f.tree) → In n (layout_blocks old)
    in_old n there =
        let some = held n (blocks_in f.tree) (in_held n (blocks_in f.tree) there) in
        let o = tree_times n at.file f at.held in
        let t = at_times n old.files place at.file at.within in
        let same : times n (get_or old.files place at.file).met.blocks ≡ times n at.file.met.blocks = ap (λ (x : Kept). times n x.met.blocks) (at.is at.file) in
        let in_files : In n (file_blocks old.files) = in_from n (file_blocks old.files) (held_from n (file_blocks old.files) (omega arith)) in
        In-right n old.directory_met.blocks (old.map_met.blocks ++ file_blocks old.files) (In-right n old.map_met.blocks (file_blocks old.files) in_files)

    leaves_stay : (n : ℕ) → In n g.tree.leaves → before n ≡ later n
    leaves_stay = each_of (λ n. before n ≡ later n) g.tree.leaves (λ i less. ⊎_elim
        (λ (low : i < f.size / bsize).
        let n = get_or f.tree.leaves i 0 in
        let inside : i < length f.tree.leaves = (let a = q.keeps.kept_old in omega arith) in
        subst (λ (m : ℕ). before m ≡ later m) (sym (q.keeps.leaves i low))
        (old_stay j v edit stamp s old here.files taking' n (in_old n (In-left n f.tree.leaves f.tree.pointers (in_at f.tree.leaves i inside)))))
        (λ (high : f.size / bsize ≤ i).
        let n = get_or g.tree.leaves i 0 in
        sym (own_stay n (In-left n (drop (f.size / bsize) g.tree.leaves)
        (numbers_behind fan (levels fan (length g.tree.leaves)) (length g.tree.leaves) (f.size / bsize) g.tree.pointers) (in_drop_at g.tree.leaves (f.size / bsize) i high less))))
        (cases_lt i (f.size / bsize)))

-- ---- how much it takes

-- a file has as many data blocks as its stored bytes fill
pub leaves_are : (bsize total : ℕ) (f : HeldFile) → IsBlockSize bsize → IsKeptFile bsize total f → length f.tree.leaves ≡ up f.size bsize
leaves_are bsize total f size kept =
    let bound = (block_bounds bsize size).0 in
    let some = kept.shape.some in
    let low = kept.low in
    let one = last (length f.tree.leaves) (omega arith) in
    up_unique f.size bsize (length f.tree.leaves) (omega arith) kept.high (omega arith)
  where
    last : (n : ℕ) → 1 ≤ n → n * bsize ≡ (n - 1) * bsize + bsize
    last n any = let e : n ≡ (n - 1) + 1 = omega arith in ap (λ (k : ℕ). k * bsize) e ∙ grind arith

-- so what it takes where it grows is counted by them
pub growth_counted : (bsize total : ℕ) (f : HeldFile) (after : ℕ) → IsBlockSize bsize → IsKeptFile bsize total f
    → growth_taken bsize f.entry.format f.size after
    ≡ fresh_count (fan_of bsize f.entry.format) (length f.tree.leaves) (up after bsize) (places_behind (f.size / bsize) (up after bsize))
unfolding growth_taken
growth_counted bsize total f after size kept =
    ap (λ (n : ℕ). fresh_count (fan_of bsize f.entry.format) n (up after bsize) (places_behind (f.size / bsize) (up after bsize))) (sym (leaves_are bsize total f size kept))

grown_taken : (j : Journal) (v : HeldVolume) (old : Layout) (place : ℕ) (f g : HeldFile) (marks : List Mark) (front : Front) (mark : Mark) (more : List (List ℕ)) (added : Stamp)
    → FileAt j v old place f → IsKeptFile v.disk.bsize v.label.blocks f → GrowsHeld v (now j v.unit) (now j v.unit) f g marks front mark more added
    → length (growing v.disk.bsize v.files place f g).taken ≡ growth_taken v.disk.bsize f.entry.format f.size (f.size + length (stored f.entry.format more))
unfolding growth_taken
grown_taken j v old place f g marks front mark more added a kept q =
    fresh_is_counted fan written f.tree g.tree may q.plan.numbers
    ∙ ap (λ (n : ℕ). fresh_count fan n (length g.tree.leaves) written) old_is
    ∙ ap (λ (n : ℕ). fresh_count fan (up f.size bsize) n (places_behind (f.size / bsize) n)) new_is
    ∙ ap (λ (k : ℕ). fresh_count k (up f.size bsize) (up (f.size + bytes) bsize) (places_behind (f.size / bsize) (up (f.size + bytes) bsize)))
    (fan_is bsize g.entry.format ∙ ap (fan_of bsize) q.file.format_is)
  where
    bsize : ℕ
    bsize = v.disk.bsize

    fan : ℕ
    fan = bsize / pointer_size g.entry.format

    bytes : ℕ
    bytes = length (stored f.entry.format more)

    written : List ℕ
    written = places_behind (f.size / bsize) (length g.tree.leaves)

    some : 0 < bsize
    some = let low = (block_bounds bsize q.plan.size).0 in omega arith

    -- its data blocks before
    old_is : length f.tree.leaves ≡ up f.size bsize
    old_is = leaves_are bsize v.label.blocks f q.plan.size kept

    -- and with the records
    front_long : length front.bytes ≡ f.size
    front_long = ap (λ (l : List ℕ). length l) q.front_is
        ∙ length-take-le f.size (bytes_at (now j v.unit) f.tree.leaves) (let long = a.long in let room = q.size_room in omega arith)

    new_is : length g.tree.leaves ≡ up (f.size + bytes) bsize
    new_is = q.leaves_are
        ∙ ap (λ (n : ℕ). up n bsize) (length-append front.bytes (stored g.entry.format more)
        ∙ ap (λ (n : ℕ). n + length (stored g.entry.format more)) front_long
        ∙ ap (λ (k : Format). f.size + length (stored k more)) q.file.format_is)

    may : MayBeWritten (length f.tree.leaves) (length g.tree.leaves) written
    may = rw (old_is, new_is) (grown_may bsize f.size (f.size + bytes) some)

-- what is known of the file
pub kept_at : (v : HeldVolume) (place : ℕ) (f : HeldFile) → Keeps v → slice_get v.files place ≡ Some f → IsKeptFile v.disk.bsize v.label.blocks f
kept_at v place f kept there = subst (IsKeptFile v.disk.bsize v.label.blocks) (get_or_from_slice_get v.files place f f there)
    (All-get_or (IsKeptFile v.disk.bsize v.label.blocks) v.files place f (slice_get_within v.files place f there) kept.each)

-- ---- the whole

pub add_is_carried : AddIsCarried
add_is_carried j v stamp s place f g marks front mark more added m is_held r =
    let old = is_held.layout in
    let bytes = length (stored f.entry.format more) in
    let records = f.entry.count + length more in
    let change = Add f.entry.name more added in
    let a = file_at j v old place f is_held.at r.there in
    let taken = grown_taken j v old place f g marks front mark more added a (kept_at v place f r.ready.kept r.there) r.grows in
    let file = r.grows.file in
    let some : records ≤ most_records = (let few = file.few in let is = file.count_is in omega arith) in
    let same : length (stored g.entry.format more) ≡ bytes = ap (λ (k : Format). length (stored k more)) file.format_is in
    let small : f.size + bytes ≤ most_bytes = (let few = file.small in let is = file.size_is in omega arith) in
    let none : limit_put (length v.files) records (f.size + bytes) ≡ None = no_limit (length v.files) records (f.size + bytes) r.ready.kept.few some small in
    let count : needed v (length (slice_set v.files place g)) (made_at place) ≡ needed v (length v.files) (made_at place) = ap (λ (n : ℕ). needed v n (made_at place)) (length-set v.files place g) in
    let room = r.ready.planned.room in
    let enough : need_add v place f bytes ≤ length (free_blocks v.bits) = omega arith in
    let answer : answer_of m change ≡ Changed (changed m change) =
    add_is_answered j v m place f more added is_held r.there
    ∙ ap (λ o. answer_put o (need_add v place f bytes) (length (free_blocks v.bits)) (changed m change)) none
    ∙ made (need_add v place f bytes) (length (free_blocks v.bits)) (changed m change) enough in
    carries_of j v (growing v.disk.bsize v.files place f g) stamp s m change is_held r.ready
    (add_moved j v stamp s place f g marks front mark more added m is_held r) refl answer

pub add_is_small : AddIsSmall
add_is_small j v stamp s place f g marks front mark more added m is_held r =
    let old = is_held.layout in
    let x = is_held.at in
    let q = r.grows in
    let bsize = v.disk.bsize in
    let psize = pointer_size g.entry.format in
    let bytes = length (stored f.entry.format more) in
    let change = Add f.entry.name more added in
    let edit = growing bsize v.files place f g in
    let draft = draft_writes bsize psize g.tree.leaves marks g.tree.pointers (f.size / bsize) front.nodes (stored_on g.entry.format front more) (length g.tree.leaves) in
    let wide = fan_wide bsize psize q.plan.size q.plan.pointer in
    let drawn = draft_count bsize psize g.tree.leaves marks g.tree.pointers (f.size / bsize) front.nodes (stored_on g.entry.format front more)
    (some_fan bsize psize q.plan.size q.plan.pointer) q.plan q.keeps.less in
    let own = ap (λ (l : List ℕ). length l) (own_is_fresh (bsize / psize) (f.size / bsize) f.tree g.tree wide q.old_shape q.plan.numbers q.keeps) in
    let a = file_at j v old place f x r.there in
    let taken = grown_taken j v old place f g marks front mark more added a (kept_at v place f r.ready.kept r.there) q in
    let e = add_moved j v stamp s place f g marks front mark more added m is_held r in
    let few = writes_need j v edit stamp s old e.files change (renewal_of j v edit stamp s m change is_held r.ready e) e.files_are
    (sym (add_made (map file_of old.files) f.entry.name more added place a.at)) in
    let total : old.label.blocks ≡ v.label.blocks = ap (λ (l : Label). l.blocks) (sym x.held.label_is) in
    let parts = need_parts v.disk old f.entry.name more added f a.file bytes a.named a.size_is (more_size j v old place f a more) a.format_is in
    let map' : map_size bsize old.label.blocks ≡ map_size bsize v.label.blocks = ap (map_size bsize) total in
    let need' : need m change ≡ need (minidisk_in v.disk old) change = ap (λ (k : Minidisk). need k change) is_held.minidisk_is in
    let all = update_counted v.unit (draft ++ writes_of v s) s.label_bytes in
    omega (arith, length-append draft (writes_of v s))
